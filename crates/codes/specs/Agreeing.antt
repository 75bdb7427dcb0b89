-- Columns that agree with the words present, position by position. Assumes nothing.
use Rattle.std.specs.Prelude.{◌≡◌, ℕ, zero, suc, ◌+◌, ◌<◌, ◌≤◌, Bool, true, false, cond, T, List, [], ◌∷◌, ◌++◌, map, length, ◌==◌, slice_index, slice_index_or, refl, Option, Some, None}
use Rattle.std.proofs.Common.{sym, ap, ap₂, ◌∙◌, subst, zero-le, add-zero, zero-add, not-suc-le-zero, le_of_suc-le-suc, suc-le-suc, le_trans, add-one, lit<}
use Rattle.std.proofs.Math.Nat.{add_assoc, suc-add, suc-ne-zero, suc_inj, zero-lt-suc, le-suc}
use Rattle.std.proofs.Math.Numerals.{one-add}
use Rattle.std.proofs.Math.Dec.{eqb_refl}
use Rattle.std.specs.List.{range_with_len}
use Rattle.std.proofs.lemmas.List.FromFn.{map-range_with_len_more}
use Rattle.codes.specs.Code.{AllWords, differences}
use Rattle.codes.specs.Rebuild.{Agrees, missing, present}
use Rattle.codes.specs.Filling.{missing_count}
use Rattle.codes.specs.Searching.{is_true}

-- one position counts for at most one
pub at_most_one : (b : Bool) (d m : ℕ) → d ≤ m → cond b 0 1 + d ≤ suc m
at_most_one true d m l = subst (λ (n : ℕ). n ≤ suc m) (sym (zero-add d)) (le_trans l (le-suc m))
at_most_one false d m l = subst (λ (n : ℕ). n ≤ suc m) (sym (one-add d)) (suc-le-suc l)

-- two columns that agree with the words present differ at most where words are missing
pub differ-missing : (c : List (Option ℕ)) (u w : List ℕ) → Agrees c u → Agrees c w → differences u w ≤ missing c
differ-missing [] [] [] h k = zero-le
differ-missing [] [] (y ∷ w) h k = absurd k
differ-missing [] (x ∷ u) w h k = absurd h
differ-missing (None ∷ c) [] w h k = absurd h
differ-missing (None ∷ c) (x ∷ u) [] h k = absurd k
differ-missing (None ∷ c) (x ∷ u) (y ∷ w) h k =
    at_most_one (x == y) (differences u w) (missing c) (differ-missing c u w h.1 k.1)
differ-missing (Some v ∷ c) [] w h k = absurd h
differ-missing (Some v ∷ c) (x ∷ u) [] h k = absurd k
differ-missing (Some v ∷ c) (x ∷ u) (y ∷ w) h k =
    subst (λ (b : Bool). cond b 0 1 + differences u w ≤ missing c)
    (sym (is_true (x == y) (subst (λ (z : ℕ). T (x == z)) (sym h.0 ∙ k.0) (eqb_refl x))))
    (subst (λ (n : ℕ). n ≤ missing c) (sym (zero-add (differences u w))) (differ-missing c u w h.1 k.1))

pub same_length : (c : List (Option ℕ)) (u w : List ℕ) → Agrees c u → Agrees c w → length u ≡ length w
same_length [] [] [] h k = refl
same_length [] [] (y ∷ w) h k = absurd k
same_length [] (x ∷ u) w h k = absurd h
same_length (None ∷ c) [] w h k = absurd h
same_length (Some v ∷ c) [] w h k = absurd h
same_length (None ∷ c) (x ∷ u) [] h k = absurd k
same_length (Some v ∷ c) (x ∷ u) [] h k = absurd k
same_length (None ∷ c) (x ∷ u) (y ∷ w) h k = ap suc (same_length c u w h.1 k.1)
same_length (Some v ∷ c) (x ∷ u) (y ∷ w) h k = ap suc (same_length c u w h.1 k.1)

-- ... and are both of words
pub still-words : (c : List (Option ℕ)) (u w : List ℕ) → Agrees c u → Agrees c w → AllWords w → AllWords u
still-words [] [] [] h k a = tt
still-words [] [] (y ∷ w) h k a = absurd k
still-words [] (x ∷ u) w h k a = absurd h
still-words (None ∷ c) [] w h k a = absurd h
still-words (Some v ∷ c) [] w h k a = absurd h
still-words (None ∷ c) (x ∷ u) [] h k a = absurd k
still-words (Some v ∷ c) (x ∷ u) [] h k a = absurd k
still-words (None ∷ c) (x ∷ u) (y ∷ w) h k a = (h.0, still-words c u w h.1 k.1 a.1)
still-words (Some v ∷ c) (x ∷ u) (y ∷ w) h k a =
    (subst (λ (n : ℕ). n < 65536) (sym k.0 ∙ h.0) a.0, still-words c u w h.1 k.1 a.1)

pub all_words : (w : List ℕ) → ((i : ℕ) → i < length w → slice_index w i < 65536) → AllWords w
all_words [] h = tt
all_words (x ∷ w) h = (h 0 (zero-lt-suc (length w)), all_words w (λ i l. h (suc i) (suc-le-suc l)))

module _ (m : ℕ → Bool) (col : ℕ → ℕ) where
  abbrev hole : ℕ → Option ℕ
  hole i = cond (m i) None (Some (col i))

  pub agrees_from : (a n : ℕ) (w : List ℕ) → length w ≡ n → ((k : ℕ) → k < n → slice_index w k < 65536)
      → ((k : ℕ) → k < n → m (a + k) ≡ false → slice_index w k ≡ col (a + k)) → Agrees (map hole (range_with_len a n)) w
  agrees_from a zero [] l s h = tt
  agrees_from a zero (x ∷ w) l s h = absurd (suc-ne-zero (length w) l)
  agrees_from a (suc n) [] l s h = absurd (suc-ne-zero n (sym l))
  agrees_from a (suc n) (x ∷ w) l s h =
      go (m a) refl
      (agrees_from (a + 1) n w (suc_inj l) (λ k q. s (suc k) (suc-le-suc q))
      (λ k q e. h (suc k) (suc-le-suc q) (ap m (sym (one_more k)) ∙ e)
      ∙ ap col (sym (one_more k))))
    where
      one_more : (k : ℕ) → a + 1 + k ≡ a + suc k
      one_more k = add_assoc a 1 k ∙ ap (λ (x : ℕ). a + x) (one-add k)

      go : (b : Bool) → m a ≡ b → Agrees (map hole (range_with_len (a + 1) n)) w
          → Agrees (cond b None (Some (col a)) ∷ map hole (range_with_len (a + 1) n)) (x ∷ w)
      go true e r = (s 0 (zero-lt-suc n), r)
      go false e r = (sym (h 0 (zero-lt-suc n) (ap m (add-zero a) ∙ e) ∙ ap col (add-zero a)), r)

  -- and back
  pub back_long : (a n : ℕ) (w : List ℕ) → Agrees (map hole (range_with_len a n)) w → length w ≡ n
  back_long a zero [] h = refl
  back_long a zero (x ∷ w) h = absurd h
  back_long a (suc n) [] h = absurd h
  back_long a (suc n) (x ∷ w) h = go (m a) h (λ k. back_long (a + 1) n w k)
    where
      go : (b : Bool) → Agrees (cond b None (Some (col a)) ∷ map hole (range_with_len (a + 1) n)) (x ∷ w)
          → (Agrees (map hole (range_with_len (a + 1) n)) w → length w ≡ n) → suc (length w) ≡ suc n
      go true h ih = ap suc (ih h.1)
      go false h ih = ap suc (ih h.1)

  pub back-small : ((k : ℕ) → col k < 65536) → (a n : ℕ) (w : List ℕ) → Agrees (map hole (range_with_len a n)) w → (k : ℕ)
      → k < n → slice_index w k < 65536
  back-small cs a zero w h k l = absurd (not-suc-le-zero l)
  back-small cs a (suc n) [] h k l = absurd h
  back-small cs a (suc n) (x ∷ w) h zero l = go (m a) h
    where
      go : (b : Bool) → Agrees (cond b None (Some (col a)) ∷ map hole (range_with_len (a + 1) n)) (x ∷ w) → x < 65536
      go true h = h.0
      go false h = subst (λ y. y < 65536) h.0 (cs a)
  back-small cs a (suc n) (x ∷ w) h (suc k) l = back-small cs (a + 1) n w (go (m a) h) k (le_of_suc-le-suc l)
    where
      go : (b : Bool) → Agrees (cond b None (Some (col a)) ∷ map hole (range_with_len (a + 1) n)) (x ∷ w)
          → Agrees (map hole (range_with_len (a + 1) n)) w
      go true h = h.1
      go false h = h.1

  pub back_same : (a n : ℕ) (w : List ℕ) → Agrees (map hole (range_with_len a n)) w → (k : ℕ) → k < n → m (a + k) ≡ false
      → slice_index w k ≡ col (a + k)
  back_same a zero w h k l e = absurd (not-suc-le-zero l)
  back_same a (suc n) [] h k l e = absurd h
  back_same a (suc n) (x ∷ w) h zero l e = go (m a) (ap m (sym (add-zero a)) ∙ e) h ∙ ap col (sym (add-zero a))
    where
      go : (b : Bool) → b ≡ false → Agrees (cond b None (Some (col a)) ∷ map hole (range_with_len (a + 1) n)) (x ∷ w)
          → x ≡ col a
      go true e h = absurd (subst T e tt)
      go false e h = sym h.0
  back_same a (suc n) (x ∷ w) h (suc k) l e =
      let z : a + suc k ≡ a + 1 + k = sym (add_assoc a 1 k ∙ ap (λ (x : ℕ). a + x) (one-add k)) in
      back_same (a + 1) n w (go (m a) h) k (le_of_suc-le-suc l) (ap m (sym z) ∙ e) ∙ ap col (sym z)
    where
      go : (b : Bool) → Agrees (cond b None (Some (col a)) ∷ map hole (range_with_len (a + 1) n)) (x ∷ w)
          → Agrees (map hole (range_with_len (a + 1) n)) w
      go true h = h.1
      go false h = h.1

missing-append : (c e : List (Option ℕ)) → missing (c ++ e) ≡ missing c + missing e
missing-append [] e = sym (zero-add (missing e))
missing-append (None ∷ c) e = ap suc (missing-append c e) ∙ sym (suc-add (missing c) (missing e))
missing-append (Some u ∷ c) e = missing-append c e

pub missing-present : (n : ℕ) (ws : List ℕ) (ms : List Bool) → missing (present n ws ms) ≡ missing_count ms n
unfolding present missing_count
missing-present zero ws ms = refl
missing-present (suc n) ws ms =
    ap (λ k. missing (map f (range_with_len 0 k))) (sym (add-one n))
    ∙ ap missing (map-range_with_len_more f 0 n n (zero-add n)) ∙ missing-append (map f (range_with_len 0 n)) (f n ∷ [])
    ∙ ap₂ (λ x y. x + y) (missing-present n ws ms) (go (slice_index_or ms n false))
  where
    f : ℕ → Option ℕ
    f i = cond (slice_index_or ms i false) None (Some (slice_index ws i))

    go : (b : Bool) → missing (cond b None (Some (slice_index ws n)) ∷ []) ≡ cond b 1 0
    go true = refl
    go false = refl

-- ---- the numbers of a list of words
pub words_small : (ws : List ℕ) → AllWords ws → (i : ℕ) → i < length ws → slice_index ws i < 65536
words_small [] a i l = absurd (not-suc-le-zero l)
words_small (w ∷ ws) a zero l = a.0
words_small (w ∷ ws) a (suc i) l = words_small ws a.1 i (le_of_suc-le-suc l)

pub fits_all : (ws : List ℕ) → AllWords ws → (k : ℕ) → slice_index ws k < 65536
fits_all [] a k = lit< tt
fits_all (w ∷ ws) a zero = a.0
fits_all (w ∷ ws) a (suc k) = fits_all ws a.1 k

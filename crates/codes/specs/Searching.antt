-- Columns found by search: one agrees with the words present exactly when it is one of the fillings. Assumes nothing.
use Rattle.std.specs.Prelude.{◌≡◌, ℕ, zero, suc, ◌<◌, ◌≤◌, Bool, true, false, cond, ◌&&◌, T, ◌⊎◌, List, [], ◌∷◌, ◌++◌, map, ◌==◌, refl, Option, Some, None}
use Rattle.std.proofs.Common.{sym, ap, ap₂, ◌∙◌, subst, inl, inr, zero-le, suc-le-suc, le_of_suc-le-suc, not-suc-le-zero, le_refl, le_trans, eqb→eq}
use Rattle.std.proofs.Math.Nat.{le-suc}
use Rattle.std.proofs.Math.Dec.{eqb_refl}
use Rattle.std.specs.List.{find}
use Rattle.codes.specs.Rebuild.{Agrees, fillings, below, each_then, same_list}

pub is_true : (b : Bool) → T b → b ≡ true
is_true true t = refl
is_true false t = absurd t

pub and_left : (a b : Bool) → T (a && b) → T a
and_left true b t = tt
and_left false b t = t

pub and_right : (a b : Bool) → T (a && b) → T b
and_right true b t = t
and_right false b t = absurd t

pub same-eq : (u w : List ℕ) → T (same_list u w) → u ≡ w
same-eq [] [] t = refl
same-eq [] (w ∷ ws) t = absurd t
same-eq (u ∷ us) [] t = absurd t
same-eq (u ∷ us) (w ∷ ws) t = ap₂ ◌∷◌ (eqb→eq u w (and_left (u == w) (same_list us ws) t))
    (same-eq us ws (and_right (u == w) (same_list us ws) t))

pub same_refl : (u : List ℕ) → T (same_list u u)
same_refl [] = tt
same_refl (u ∷ us) = subst (λ (b : Bool). T (b && same_list us us)) (sym (is_true (u == u) (eqb_refl u))) (same_refl us)

-- ---- members of lists

pub data Among {A : Type 0} (a : A) : List A → Type 0 where
  first : {xs : List A} → Among a (a ∷ xs)
  later : {b : A} {xs : List A} → Among a xs → Among a (b ∷ xs)

module _ {A : Type 0} where
  among_left : {a : A} (xs ys : List A) → Among a xs → Among a (xs ++ ys)
  among_left [] ys h = elim h [ ]
  among_left (x ∷ xs) ys first = first
  among_left (x ∷ xs) ys (later h) = later (among_left xs ys h)

  among_right : {a : A} (xs ys : List A) → Among a ys → Among a (xs ++ ys)
  among_right [] ys h = h
  among_right (x ∷ xs) ys h = later (among_right xs ys h)

  among_or : {a : A} (xs ys : List A) → Among a (xs ++ ys) → Among a xs ⊎ Among a ys
  among_or [] ys h = inr h
  among_or (x ∷ xs) ys first = inl first
  among_or (x ∷ xs) ys (later h) = elim (among_or xs ys h) [ inl k ↦ inl (later k) | inr k ↦ inr k ]

among-map : (u : ℕ) {w : List ℕ} (wss : List (List ℕ)) → Among w wss → Among (u ∷ w) (map (λ ws. u ∷ ws) wss)
among-map u [] h = elim h [ ]
among-map u (x ∷ xs) first = first
among-map u (x ∷ xs) (later h) = later (among-map u xs h)

map_among : (u : ℕ) {x : List ℕ} (wss : List (List ℕ)) → Among x (map (λ ws. u ∷ ws) wss)
    → (w : List ℕ) × Among w wss × (x ≡ u ∷ w)
map_among u [] h = elim h [ ]
map_among u (w ∷ ws) first = (w, first, refl)
map_among u (w ∷ ws) (later h) = let t : (w : List ℕ) × Among w ws × (_ ≡ u ∷ w) = map_among u ws h in
    (t.0, later t.1, t.2)

among-each : {u : ℕ} {w : List ℕ} (us : List ℕ) (wss : List (List ℕ)) → Among u us → Among w wss
    → Among (u ∷ w) (each_then us wss)
unfolding each_then
among-each [] wss h k = elim h [ ]
among-each (u ∷ us) wss first k = among_left (map (λ ws. u ∷ ws) wss) (each_then us wss) (among-map u wss k)
among-each (u ∷ us) wss (later h) k = among_right (map (λ ws. u ∷ ws) wss) (each_then us wss) (among-each us wss h k)

each_among : {x : List ℕ} (us : List ℕ) (wss : List (List ℕ)) → Among x (each_then us wss)
    → (u : ℕ) × (w : List ℕ) × Among u us × Among w wss × (x ≡ u ∷ w)
unfolding each_then
each_among [] wss h = elim h [ ]
each_among {x} (v ∷ vs) wss h =
    elim (among_or (map (λ ws. v ∷ ws) wss) (each_then vs wss) h) [
      | inl k ↦ let t : (w : List ℕ) × Among w wss × (x ≡ v ∷ w) = map_among v wss k in (v, t.0, first, t.1, t.2)
      | inr k ↦ let t : (u : ℕ) × (w : List ℕ) × Among u vs × Among w wss × (x ≡ u ∷ w) = each_among vs wss k in
          (t.0, t.1, later t.2, t.3, t.4)
    ]

among-words : (u n : ℕ) → u < n → Among u (below n)
unfolding below
among-words u zero h = absurd (not-suc-le-zero h)
among-words u (suc n) h = elim (u_or u n (le_of_suc-le-suc h)) [
  | inl e ↦ subst (λ (v : ℕ). Among u (v ∷ below n)) e
      first
  | inr k ↦ later (among-words u n k)
]
  where
    u_or : (u n : ℕ) → u ≤ n → (u ≡ n) ⊎ (u < n)
    u_or zero zero h = inl refl
    u_or zero (suc n) h = inr (suc-le-suc zero-le)
    u_or (suc u) zero h = absurd (not-suc-le-zero h)
    u_or (suc u) (suc n) h = elim (u_or u n (le_of_suc-le-suc h)) [
      | inl e ↦ inl (ap suc e)
      | inr k ↦ inr
          (suc-le-suc k)
    ]

words_among : {u : ℕ} (n : ℕ) → Among u (below n) → u < n
unfolding below
words_among zero h = elim h [ ]
words_among (suc n) first = le_refl (suc n)
words_among (suc n) (later h) = le_trans (words_among n h) (le-suc n)

-- a column agrees with the words present exactly when it is one of the fillings
pub agrees_among : (c : List (Option ℕ)) (w : List ℕ) → Agrees c w → Among w (fillings c)
unfolding fillings
agrees_among [] [] h = first
agrees_among [] (w ∷ ws) h = absurd h
agrees_among (None ∷ c) [] h = absurd h
agrees_among (Some u ∷ c) [] h = absurd h
agrees_among (None ∷ c) (w ∷ ws) h = among-each (below 65536) (fillings c) (among-words w 65536 h.0)
    (agrees_among c ws h.1)
agrees_among (Some u ∷ c) (w ∷ ws) h =
    subst (λ (v : ℕ). Among (v ∷ ws) (each_then (u ∷ []) (fillings c))) h.0
    (among-each (u ∷ []) (fillings c) first (agrees_among c ws h.1))

only_one : {u v : ℕ} → Among u (v ∷ []) → v ≡ u
only_one first = refl
only_one (later h) = elim h [ ]

pub among-agrees : (c : List (Option ℕ)) (w : List ℕ) → Among w (fillings c) → Agrees c w
unfolding fillings
among-agrees [] w first = tt
among-agrees [] w (later h) = elim h [ ]
among-agrees (None ∷ c) w h =
    let t : (u : ℕ) × (ws : List ℕ) × Among u (below 65536) × Among ws (fillings c) × (w ≡ u ∷ ws) = each_among
    (below 65536) (fillings c) h in
    subst (λ (x : List ℕ). Agrees (None ∷ c) x) (sym t.4) (words_among 65536 t.2, among-agrees c t.1 t.3)
among-agrees (Some v ∷ c) w h =
    let t : (u : ℕ) × (ws : List ℕ) × Among u (v ∷ []) × Among ws (fillings c) × (w ≡ u ∷ ws) = each_among (v ∷ [])
    (fillings c) h in
    subst (λ (x : List ℕ). Agrees (Some v ∷ c) x) (sym t.4) (only_one t.2, among-agrees c t.1 t.3)

not_first : (f : List ℕ → Bool) {w x : List ℕ} {xs : List (List ℕ)} → Among w (x ∷ xs) → T (f w) → f x ≡ false
    → Among w xs
not_first f first t e = absurd (subst T e t)
not_first f (later k) t e = k

pub find_only : (f : List ℕ → Bool) (wss : List (List ℕ)) (w : List ℕ) → Among w wss → T (f w)
    → ((u : List ℕ) → Among u wss → T (f u) → u ≡ w) → find f wss ≡ Some w
find_only f [] w h t one = elim h [ ]
find_only f (x ∷ xs) w h t one = go (f x) refl (λ k. find_only f xs w k t (λ u j. one u (later j)))
  where
    go : (b : Bool) → f x ≡ b → (Among w xs → find f xs ≡ Some w) → cond (f x) (Some x) (find f xs) ≡ Some w
    go true e ih = ap (λ (b : Bool). cond b (Some x) (find f xs)) e ∙ ap Some (one x first (subst T (sym e) tt))
    go false e ih = ap (λ (b : Bool). cond b (Some x) (find f xs)) e ∙ ih (not_first f h t e)

pub find_none : (f : List ℕ → Bool) (wss : List (List ℕ)) → ((w : List ℕ) → Among w wss → T (f w) → ⊥)
    → find f wss ≡ None
find_none f [] h = refl
find_none f (x ∷ xs) h = go (f x) (h x first) (find_none f xs (λ w a t. h w (later a) t))
  where
    go : (b : Bool) → (T b → ⊥) → find f xs ≡ None → cond b (Some x) (find f xs) ≡ None
    go true k e = absurd (k tt)
    go false k e = e

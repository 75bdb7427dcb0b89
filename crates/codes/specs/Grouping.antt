-- The check words of the words so far, carried from one group of four words to the next. Assumes nothing.
use Rattle.std.specs.Prelude.{◌≡◌, ℕ, zero, suc, ◌+◌, ◌*◌, ◌^◌, ◌<◌, List, [], ◌∷◌, length, bit_xor, slice_index, refl}
use Rattle.std.proofs.Math.Path.{sym, ap}
use Rattle.std.proofs.Common.{◌∙◌, ap₂, subst, add-zero, add-suc, add-mul, add_assoc, zero-add, le_of_suc-le-suc, not-suc-le-zero, pow_pos, lit<}
use Rattle.std.specs.Int.Bits.{xor_assoc, xor_zero_r}
use Rattle.std.proofs.lemmas.Nat.{xor_lt}
use Rattle.field.specs.Polynomials.{double, times, product, word_product, word_inverse}
use Rattle.field.specs.Sums.{total, power, weighted}
use Rattle.field.specs.Computed.{same_at}
use Rattle.field.proofs.Totals.{total_ext, total-xor, total_none, total-lt}
use Rattle.field.proofs.Vandermonde.{total-mul, zero_r}
use Rattle.field.proofs.Powers.{power-lt, power-add}
use Rattle.field.specs.TwoFields.{word_field_laws}
use Rattle.check_groups.proofs.LanesNext.{number_lt}
use Rattle.check_groups.specs.Groups.{numbers, number, next_word}

pub pw-lt : (n : ℕ) → power word_product 2 n < 2 ^ 16
pw-lt = power-lt 16 word_product word_inverse word_field_laws (lit< tt) 2 (lit< tt)

-- ---- sums taken apart and exchanged

pub total-add : (f : ℕ → ℕ) (n k : ℕ) → total f (n + k) ≡ bit_xor (total f n) (total (λ q. f (n + q)) k)
unfolding total
total-add f n zero = ap (total f) (add-zero n) ∙ sym (xor_zero_r (total f n))
total-add f n (suc k) =
    ap (total f) (add-suc n k) ∙ ap (λ t. bit_xor t (f (n + k))) (total-add f n k)
    ∙ xor_assoc (total f n) (total (λ q. f (n + q)) k) (f (n + k))

total-swap : (h : ℕ → ℕ → ℕ) (n k : ℕ) → total (λ p. total (λ q. h p q) k) n ≡ total (λ q. total (λ p. h p q) n) k
unfolding total
total-swap h zero k = sym (total_none (λ q. 0) k (λ i l. refl))
total-swap h (suc n) k =
    ap (λ t. bit_xor t (total (λ q. h n q) k)) (total-swap h n k)
    ∙ sym (total-xor (λ q. total (λ p. h p q) n) (λ q. h n q) k)

total-mul_left : (g : ℕ → ℕ) (v n : ℕ) → v < 2 ^ 16 → ((i : ℕ) → i < n → g i < 2 ^ 16)
    → word_product (total g n) v ≡ total (λ i. word_product (g i) v) n
total-mul_left g v n p h =
    word_field_laws.mul_comm (total g n) v (total-lt g 16 n h) p ∙ total-mul 16 word_product word_inverse word_field_laws v g n p h
    ∙ total_ext _ _ n (λ i l. word_field_laws.mul_comm v (g i) p (h i l))

-- ---- the numbers of a group

pub not-four : {n : ℕ} → suc (suc (suc (suc n))) < 4 → ⊥
not-four h = not-suc-le-zero (le_of_suc-le-suc (le_of_suc-le-suc (le_of_suc-le-suc (le_of_suc-le-suc h))))

-- in each of the four sums a word counts as much as what it adds to the check words behind its group
number-sums : (j : ℕ) → j < 4 → (q : ℕ) → q < 4
    → power word_product 2 (q * j) ≡ total (λ p. word_product (power word_product 2 ((4 + p) * j)) (number p q)) 4
unfolding power total word_product product times double number numbers
number-sums zero h = same_at (λ q. power word_product 2 (q * 0))
    (λ q. total (λ p. word_product (power word_product 2 ((4 + p) * 0)) (number p q)) 4) 4 tt
number-sums (suc zero) h = same_at (λ q. power word_product 2 (q * 1))
    (λ q. total (λ p. word_product (power word_product 2 ((4 + p) * 1)) (number p q)) 4) 4 tt
number-sums (suc (suc zero)) h =
    same_at (λ q. power word_product 2 (q * 2))
    (λ q. total (λ p. word_product (power word_product 2 ((4 + p) * 2)) (number p q)) 4) 4 tt
number-sums (suc (suc (suc zero))) h =
    same_at (λ q. power word_product 2 (q * 3))
    (λ q. total (λ p. word_product (power word_product 2 ((4 + p) * 3)) (number p q)) 4) 4 tt
number-sums (suc (suc (suc (suc j)))) h = absurd (not-four h)

-- what four words from position n on add to sum j
unfoldable pub tail : ℕ → ℕ → (ℕ → ℕ) → ℕ
tail n j s = total (λ q. word_product (power word_product 2 ((n + q) * j)) (s q)) 4

shift : (n q j v : ℕ) → v < 2 ^ 16
    → word_product (power word_product 2 ((n + q) * j)) v
    ≡ word_product (power word_product 2 (n * j)) (word_product (power word_product 2 (q * j)) v)
shift n q j v h =
    ap (λ t. word_product (power word_product 2 t) v) (add-mul n q j)
    ∙ ap (λ t. word_product t v)
    (power-add 16 word_product word_inverse word_field_laws (lit< tt) 2 (lit< tt) (n * j) (q * j)
    ∙ word_field_laws.mul_comm _ _ (pw-lt (q * j)) (pw-lt (n * j)))
    ∙ word_field_laws.mul_assoc _ _ v (pw-lt (n * j)) (pw-lt (q * j)) h

tail-shift : (n m j : ℕ) (s : ℕ → ℕ) → ((q : ℕ) → q < 4 → s q < 2 ^ 16)
    → tail (n + m) j s ≡ word_product (power word_product 2 (n * j)) (tail m j s)
unfolding tail
tail-shift n m j s h =
    total_ext _ _ 4 (λ q l. ap (λ t. word_product (power word_product 2 (t * j)) (s q)) (add_assoc n m q)
    ∙ shift n (m + q) j (s q) (h q l))
    ∙ sym (total-mul 16 word_product word_inverse word_field_laws (power word_product 2 (n * j))
    (λ q. word_product (power word_product 2 ((m + q) * j)) (s q)) 4
    (pw-lt (n * j)) (λ q l. word_field_laws.mul-lt _ _ (pw-lt ((m + q) * j)) (h q l)))

pub tail-xor : (n j : ℕ) (s t : ℕ → ℕ) → ((q : ℕ) → q < 4 → s q < 2 ^ 16) → ((q : ℕ) → q < 4 → t q < 2 ^ 16)
    → bit_xor (tail n j s) (tail n j t) ≡ tail n j (λ q. bit_xor (s q) (t q))
unfolding tail
tail-xor n j s t hs ht =
    sym (total-xor (λ q. word_product (power word_product 2 ((n + q) * j)) (s q))
    (λ q. word_product (power word_product 2 ((n + q) * j)) (t q)) 4)
    ∙ total_ext _ _ 4 (λ q l. sym (word_field_laws.mul-xor _ (s q) (t q) (pw-lt ((n + q) * j)) (hs q l) (ht q l)))

pub next-lt : (s g : ℕ → ℕ) → ((q : ℕ) → q < 4 → s q < 2 ^ 16) → ((q : ℕ) → q < 4 → g q < 2 ^ 16) → (p : ℕ) → p < 4
    → next_word s g p < 2 ^ 16
unfolding next_word
next-lt s g hs hg p l = total-lt _ 16 4
    (λ q k. word_field_laws.mul-lt _ _ (number_lt p q l k) (xor_lt 16 (s q) (g q) (hs q k) (hg q k)))

-- a group counts in each sum as much as its check words behind it
tail_next : (j : ℕ) (s g : ℕ → ℕ) → j < 4 → ((q : ℕ) → q < 4 → s q < 2 ^ 16) → ((q : ℕ) → q < 4 → g q < 2 ^ 16)
    → tail 0 j (λ q. bit_xor (s q) (g q)) ≡ tail 4 j (next_word s g)
unfolding tail next_word
tail_next j s g hj hs hg =
    total_ext _ _ 4 (λ q l.
    ap (λ t. word_product (power word_product 2 (t * j)) (f q)) (zero-add q)
    ∙ ap (λ t. word_product t (f q)) (number-sums j hj q l)
    ∙ total-mul_left (λ p. word_product (b p) (number p q)) (f q) 4 (f_lt q l)
    (λ p k. word_field_laws.mul-lt _ _ (b_lt p) (number_lt p q k l))
    ∙ total_ext _ _ 4 (λ p k. word_field_laws.mul_assoc (b p) (number p q) (f q) (b_lt p) (number_lt p q k l) (f_lt q l)))
    ∙ total-swap (λ q p. word_product (b p) (word_product (number p q) (f q))) 4 4
    ∙ total_ext _ _ 4 (λ p k.
    sym (total-mul 16 word_product word_inverse word_field_laws (b p) (λ q. word_product (number p q) (f q)) 4 (b_lt p)
    (λ q l. word_field_laws.mul-lt _ _ (number_lt p q k l) (f_lt q l))))
  where
    f : ℕ → ℕ
    f q = bit_xor (s q) (g q)

    f_lt : (q : ℕ) → q < 4 → f q < 2 ^ 16
    f_lt q l = xor_lt 16 (s q) (g q) (hs q l) (hg q l)

    b : ℕ → ℕ
    b p = power word_product 2 ((4 + p) * j)

    b_lt : (p : ℕ) → b p < 2 ^ 16
    b_lt p = pw-lt ((4 + p) * j)

-- s are check words of the first n words
pub record Carried (w : ℕ → ℕ) (n : ℕ) (s : List ℕ) : Type 0 where
  pub long : length s ≡ 4
  pub small : (q : ℕ) → q < 4 → slice_index s q < 2 ^ 16
  pub same : (j : ℕ) → j < 4 → weighted word_product 2 n j w ≡ tail n j (λ q. slice_index s q)

pub carried_none : (w : ℕ → ℕ) → Carried w 0 (0 ∷ 0 ∷ 0 ∷ 0 ∷ [])
carried_none w = record {
  long = refl;
  small = λ q l. subst (λ t. t < 2 ^ 16) (sym (zeros q l)) (pow_pos 16);
  same =
      λ j l. start j;
}
  where
    zeros : (q : ℕ) → q < 4 → ◌≡◌ {A = ℕ} (slice_index (0 ∷ 0 ∷ 0 ∷ 0 ∷ []) q) 0
    zeros = same_at (λ q. slice_index (0 ∷ 0 ∷ 0 ∷ 0 ∷ []) q) (λ q. 0) 4 tt

    start : (j : ℕ) → weighted word_product 2 0 j w ≡ tail 0 j (λ q. slice_index (0 ∷ 0 ∷ 0 ∷ 0 ∷ []) q)
    start j = unfold weighted total tail in
        sym (total_none _ 4 (λ q l. ap (word_product _) (zeros q l)
        ∙ zero_r 16 word_product word_inverse word_field_laws _ (pw-lt ((0 + q) * j))))

pub carried_more : (w : ℕ → ℕ) (n : ℕ) (s g s' : List ℕ) → ((q : ℕ) → q < 4 → w (n + q) < 2 ^ 16)
    → ((q : ℕ) → q < 4 → slice_index g q ≡ w (n + q))
    → length s' ≡ 4 → ((p : ℕ) → p < 4 → slice_index s' p ≡ next_word (λ q. slice_index s q) (λ q. slice_index g q) p) → Carried w n s
    → Carried w (n + 4) s'
carried_more w n s g s' hw eg l e c = record {
  long = l;
  small = λ p h. subst (λ t. t < 2 ^ 16) (sym (e p h)) (next-lt _ _ c.small g-lt p h);
  same = λ j h.
      split j
      ∙ ap₂ bit_xor (c.same j h) (group j)
      ∙ tail-xor n j (λ q. slice_index s q) (λ q. slice_index g q) c.small g-lt
      ∙ ap (λ t. tail t j (λ q. bit_xor (slice_index s q) (slice_index g q))) (sym (add-zero n))
      ∙ tail-shift n 0 j _ (λ q k. xor_lt 16 _ _ (c.small q k) (g-lt q k))
      ∙ ap (word_product (power word_product 2 (n * j))) (tail_next j _ _ h c.small g-lt)
      ∙ sym (tail-shift n 4 j _ (next-lt _ _ c.small g-lt))
      ∙ ends j;
}
  where
    g-lt : (q : ℕ) → q < 4 → slice_index g q < 2 ^ 16
    g-lt q k = subst (λ t. t < 2 ^ 16) (sym (eg q k)) (hw q k)

    group : (j : ℕ) → total (λ q. word_product (power word_product 2 ((n + q) * j)) (w (n + q))) 4
        ≡ tail n j (λ q. slice_index g q)
    group j = unfold tail in total_ext _ _ 4 (λ q k. ap (word_product _) (sym (eg q k)))

    split : (j : ℕ) → weighted word_product 2 (n + 4) j w
        ≡ bit_xor (weighted word_product 2 n j w)
        (total (λ q. word_product (power word_product 2 ((n + q) * j)) (w (n + q))) 4)
    split j = unfold weighted in total-add (λ i. word_product (power word_product 2 (i * j)) (w i)) n 4

    ends : (j : ℕ) → tail (n + 4) j (next_word (λ q. slice_index s q) (λ q. slice_index g q)) ≡ tail (n + 4) j (λ q. slice_index s' q)
    ends j = unfold tail in total_ext _ _ 4 (λ p k. ap (word_product _) (sym (e p k)))

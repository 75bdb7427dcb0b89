-- Columns of words whose sums over the powers of distinct points are 0, and that differ in few words, are equal.
-- Assumes nothing.
use Rattle.std.specs.Prelude.{◌≡◌, ℕ, zero, suc, ◌+◌, ◌^◌, ◌<◌, ◌≤◌, Bool, true, false, cond, T, List, [], ◌∷◌, length, ◌==◌, bit_xor, slice_index, refl}
use Rattle.std.proofs.Common.{sym, ◌∙◌, ap, ap₂, subst, zero-le, zero-add, add-zero, add_assoc, le_refl, le_trans, eqb→eq}
use Rattle.std.proofs.Math.Nat.{suc-ne-zero, suc_inj, add-le-add}
use Rattle.std.specs.Int.Bits.{xor_self}
use Rattle.std.proofs.lemmas.Nat.{xor_lt}
use Rattle.std.proofs.lemmas.List.{ext_get_or}
use Rattle.field.specs.Laws.{FieldLaws, PowersDiffer}
use Rattle.field.specs.Sums.{flag, nonzeros, weighted}
use Rattle.field.proofs.Totals.{xor-equal}
use Rattle.field.proofs.Powers.{few, weighted-xor}
use Rattle.codes.specs.Code.{differences}

-- ---- as many words of the difference are not 0 as the columns differ in
nonzeros_front : (d : ℕ → ℕ) (n : ℕ) → nonzeros d (suc n) ≡ flag (d 0) + nonzeros (λ i. d (suc i)) n
unfolding nonzeros
nonzeros_front d zero = zero-add (flag (d 0)) ∙ sym (add-zero (flag (d 0)))
nonzeros_front d (suc n) =
    ap (λ x. x + flag (d (suc n))) (nonzeros_front d n)
    ∙ add_assoc (flag (d 0)) (nonzeros (λ i. d (suc i)) n) (flag (d (suc n)))

flag_differs : (u w : ℕ) → flag (bit_xor u w) ≤ cond (u == w) 0 1
unfolding flag
flag_differs u w = go (u == w) refl
  where
    most : (a : ℕ) → flag a ≤ 1
    most zero = zero-le
    most (suc a) = le_refl 1

    go : (b : Bool) → (u == w) ≡ b → flag (bit_xor u w) ≤ cond b 0 1
    go true e =
        let q : bit_xor u w ≡ 0 = ap (λ x. bit_xor x w) (eqb→eq u w (subst T (sym e) tt)) ∙ xor_self w in
        subst (λ x. flag x ≤ 0) (sym q) (le_refl 0)
    go false e = most (bit_xor u w)

nonzeros_differs : (us ws : List ℕ) → length us ≡ length ws
    → nonzeros (λ i. bit_xor (slice_index us i) (slice_index ws i)) (length us) ≤ differences us ws
nonzeros_differs [] [] e = unfold nonzeros in zero-le
nonzeros_differs [] (w ∷ ws) e = absurd (suc-ne-zero (length ws) (sym e))
nonzeros_differs (u ∷ us) [] e = absurd (suc-ne-zero (length us) e)
nonzeros_differs (u ∷ us) (w ∷ ws) e =
    subst (λ (n : ℕ). n ≤ cond (u == w) 0 1 + differences us ws)
    (sym (nonzeros_front (λ i. bit_xor (slice_index (u ∷ us) i) (slice_index (w ∷ ws) i)) (length us)))
    (add-le-add (flag_differs u w) (nonzeros_differs us ws (suc_inj e)))

module _ (w : ℕ) (mul : ℕ → ℕ → ℕ) (inv : ℕ → ℕ) (F : FieldLaws w mul inv) (one-lt : 1 < 2 ^ w) (a : ℕ)
    (a_lt : a < 2 ^ w) where
  -- two columns of n words whose r sums are 0, and that differ in at most r words, are equal
  pub few-differences : (n : ℕ) → PowersDiffer mul a n → (r : ℕ) (xs ys : List ℕ)
      → length xs ≡ n → length ys ≡ n → ((i : ℕ) → i < n → slice_index xs i < 2 ^ w)
      → ((i : ℕ) → i < n → slice_index ys i < 2 ^ w)
      → ((j : ℕ) → j < r → weighted mul a n j (λ i. slice_index xs i) ≡ 0)
      → ((j : ℕ) → j < r → weighted mul a n j (λ i. slice_index ys i) ≡ 0)
      → differences xs ys ≤ r → xs ≡ ys
  few-differences n distinct r xs ys lx ly wx wy sx sy h =
      ext_get_or 0 xs ys (lx ∙ sym ly) (λ i p. xor-equal _ _ (all i (subst (λ k. i < k) lx p)))
    where
      words : nonzeros (λ i. bit_xor (slice_index xs i) (slice_index ys i)) n ≤ differences xs ys
      words = subst (λ (m : ℕ). nonzeros (λ i. bit_xor (slice_index xs i) (slice_index ys i)) m ≤ differences xs ys) lx
          (nonzeros_differs xs ys (lx ∙ sym ly))

      all : (i : ℕ) → i < n → bit_xor (slice_index xs i) (slice_index ys i) ≡ 0
      all = few w mul inv F one-lt a a_lt n distinct r (λ i. bit_xor (slice_index xs i) (slice_index ys i))
          (λ i p. xor_lt w _ _ (wx i p) (wy i p))
          (le_trans words h)
          (λ j p. weighted-xor w mul inv F one-lt a a_lt n j (λ i. slice_index xs i) (λ i. slice_index ys i) wx wy
          ∙ ap₂ bit_xor (sx j p) (sy j p))

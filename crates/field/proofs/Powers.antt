-- Powers, and sums weighted by the powers of one word. Assumes nothing.
use Rattle.std.proofs.Common.{◌≡◌, ℕ, zero, suc, ◌+◌, ◌*◌, ◌^◌, ◌<◌, ◌≤◌, sym, ap, ◌∙◌, add-zero, add-suc, mul-zero, mul-suc}
use Rattle.std.specs.Int.Bits.{bit_xor}
use Rattle.field.specs.Laws.{FieldLaws, PowersDiffer}
use Rattle.field.specs.Sums.{nonzeros, power, weighted}
use Rattle.field.proofs.Totals.{total_ext, total-xor}
use Rattle.field.proofs.Vandermonde.{vanish, moment}

module _ (w : ℕ) (mul : ℕ → ℕ → ℕ) (inv : ℕ → ℕ) (F : FieldLaws w mul inv) (one-lt : 1 < 2 ^ w) (a : ℕ)
    (a_lt : a < 2 ^ w) where
  pub power-lt : (n : ℕ) → power mul a n < 2 ^ w
  unfolding power
  power-lt zero = one-lt
  power-lt (suc n) = F.mul-lt a (power mul a n) a_lt (power-lt n)

  pub power-add : (n k : ℕ) → power mul a (n + k) ≡ mul (power mul a k) (power mul a n)
  unfolding power
  power-add n zero = ap (power mul a) (add-zero n) ∙ sym (F.mul-one _ (power-lt n))
  power-add n (suc k) =
      ap (power mul a) (add-suc n k) ∙ ap (mul a) (power-add n k)
      ∙ sym (F.mul_assoc a (power mul a k) (power mul a n) a_lt (power-lt k) (power-lt n))

  pub power-suc : (i j : ℕ) → power mul a (i * suc j) ≡ mul (power mul a i) (power mul a (i * j))
  power-suc i j = ap (power mul a) (mul-suc i j) ∙ power-add (i * j) i

  pub power_none : (i : ℕ) → power mul a (i * 0) ≡ 1
  unfolding power
  power_none i = ap (power mul a) (mul-zero i)

  -- r sums that are 0, and at most r words that are not: then all are 0
  pub few : (n : ℕ) → PowersDiffer mul a n → (r : ℕ) (d : ℕ → ℕ)
      → ((i : ℕ) → i < n → d i < 2 ^ w) → nonzeros d n ≤ r → ((j : ℕ) → j < r → weighted mul a n j d ≡ 0)
      → (i : ℕ) → i < n → d i ≡ 0
  unfolding weighted moment
  few n distinct r d h s z =
      vanish w mul inv F n (λ i. power mul a i) (λ i j. power mul a (i * j)) power-lt (λ i j. power-lt (i * j))
      power_none power-suc distinct r d h s z

  pub weighted-xor : (n j : ℕ) (f g : ℕ → ℕ) → ((i : ℕ) → i < n → f i < 2 ^ w) → ((i : ℕ) → i < n → g i < 2 ^ w)
      → weighted mul a n j (λ i. bit_xor (f i) (g i)) ≡ bit_xor (weighted mul a n j f) (weighted mul a n j g)
  unfolding weighted
  weighted-xor n j f g p q =
      total_ext _ _ n (λ i l. F.mul-xor (power mul a (i * j)) (f i) (g i) (power-lt (i * j)) (p i l) (q i l))
      ∙ total-xor (λ i. mul (power mul a (i * j)) (f i)) (λ i. mul (power mul a (i * j)) (g i)) n

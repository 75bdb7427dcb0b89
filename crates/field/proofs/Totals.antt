-- Sums of words, and how many of them are not 0. Assumes nothing.
use Rattle.std.proofs.Common.{◌≡◌, ℕ, zero, suc, ◌^◌, ◌<◌, ◌≤◌, ◌⊎◌, sym, refl, ap, ◌∙◌, ap₂, inl, inr, le_of_suc-le-suc, eq-or-lt_of_le, arith, pow_pos}
use Rattle.std.proofs.Math.Decide.{ℕ_discrete}
use Rattle.std.specs.Int.Bits.{bit_xor, xor_assoc, xor_self, xor_zero_r, xor_lt}
use Rattle.field.specs.Sums.{total, flag, nonzeros}
use Rattle.field.specs.ExclusiveOr.{xor-swap}

pub xor-equal : (a b : ℕ) → bit_xor a b ≡ 0 → a ≡ b
xor-equal a b e =
    sym (xor_zero_r a) ∙ ap (bit_xor a) (sym (xor_self b)) ∙ sym (xor_assoc a b b) ∙ ap (λ t. bit_xor t b) e

-- ---- sums

pub total_ext : (f g : ℕ → ℕ) (n : ℕ) → ((i : ℕ) → i < n → f i ≡ g i) → total f n ≡ total g n
unfolding total
total_ext f g zero e = refl
total_ext f g (suc n) e = ap₂ bit_xor (total_ext f g n (λ i p. e i (omega arith))) (e n (omega arith))

pub total-xor : (f g : ℕ → ℕ) (n : ℕ) → total (λ i. bit_xor (f i) (g i)) n ≡ bit_xor (total f n) (total g n)
unfolding total
total-xor f g zero = refl
total-xor f g (suc n) = ap (λ x. bit_xor x (bit_xor (f n) (g n))) (total-xor f g n)
    ∙ xor-swap (total f n) (total g n) (f n) (g n)

pub total_none : (f : ℕ → ℕ) (n : ℕ) → ((i : ℕ) → i < n → f i ≡ 0) → total f n ≡ 0
unfolding total
total_none f zero e = refl
total_none f (suc n) e = ap₂ bit_xor (total_none f n (λ i p. e i (omega arith))) (e n (omega arith))

pub total_single : (f : ℕ → ℕ) (n p : ℕ) → p < n → ((i : ℕ) → i < n → (i ≡ p → ⊥) → f i ≡ 0) → total f n ≡ f p
unfolding total
total_single f zero p l e = absurd (omega arith)
total_single f (suc n) p l e = elim (eq-or-lt_of_le (le_of_suc-le-suc l)) [
  | inl q ↦ ap₂ bit_xor (total_none f n (λ i k. e i (omega arith) (λ z. omega arith))) (sym (ap f q))
  | inr k ↦ ap₂ bit_xor (total_single f n p k (λ i o. e i (omega arith))) (e n (omega arith) (λ z. omega arith))
      ∙ xor_zero_r (f p)
]

pub total-lt : (f : ℕ → ℕ) (w n : ℕ) → ((i : ℕ) → i < n → f i < 2 ^ w) → total f n < 2 ^ w
unfolding total
total-lt f w zero e = pow_pos w
total-lt f w (suc n) e = xor_lt w (total f n) (f n) (total-lt f w n (λ i p. e i (omega arith))) (e n (omega arith))

-- ---- how many words are not 0

pub nonzeros_none : (d : ℕ → ℕ) (n : ℕ) → nonzeros d n ≡ 0 → (i : ℕ) → i < n → d i ≡ 0
unfolding nonzeros flag
nonzeros_none d zero s i p = absurd (omega arith)
nonzeros_none d (suc n) s i p = elim (eq-or-lt_of_le (le_of_suc-le-suc p)) [
  | inl e ↦ ap d e ∙ at (d n) (omega arith)
  | inr l ↦ nonzeros_none d n (omega arith) i l
]
  where
    at : (a : ℕ) → flag a ≡ 0 → a ≡ 0
    at zero q = refl
    at (suc a) q = absurd (omega arith)

flag-le : (a b : ℕ) → (a ≡ 0 → b ≡ 0) → flag b ≤ flag a
unfolding flag
flag-le zero zero h = omega arith
flag-le zero (suc b) h = omega (arith, h refl)
flag-le (suc a) zero h = omega arith
flag-le (suc a) (suc b) h = omega arith

pub nonzeros-le : (d e : ℕ → ℕ) (n : ℕ) → ((i : ℕ) → i < n → d i ≡ 0 → e i ≡ 0) → nonzeros e n ≤ nonzeros d n
unfolding nonzeros
nonzeros-le d e zero h = omega arith
nonzeros-le d e (suc n) h = omega
    (arith, nonzeros-le d e n (λ i p. h i (omega arith)), flag-le (d n) (e n) (h n (omega arith)))

flag_zero : (a : ℕ) → a ≡ 0 → flag a ≡ 0
unfolding flag
flag_zero a e = ap flag e

flag_one : (a : ℕ) → (a ≡ 0 → ⊥) → flag a ≡ 1
unfolding flag
flag_one zero h = absurd (h refl)
flag_one (suc a) h = refl

pub nonzeros-less : (d e : ℕ → ℕ) (n p : ℕ) → p < n → (d p ≡ 0 → ⊥) → e p ≡ 0
    → ((i : ℕ) → i < n → d i ≡ 0 → e i ≡ 0) → nonzeros e n < nonzeros d n
unfolding nonzeros
nonzeros-less d e zero p l ne z h = absurd (omega arith)
nonzeros-less d e (suc n) p l ne z h = elim (eq-or-lt_of_le (le_of_suc-le-suc l)) [
  | inl q ↦ omega (
    arith,
    nonzeros-le d e n (λ i k. h i (omega arith)),
    flag_one (d n) (λ t. ne (ap d q ∙ t)),
    flag_zero (e n) (sym (ap e q) ∙ z),
  )
  | inr k ↦ omega (
    arith,
    nonzeros-less d e n p k ne z (λ i o. h i (omega arith)),
    flag-le (d n) (e n)
        (h n (omega arith)),
  )
]

-- all are 0, or one is not
pub search-nonzero : (d : ℕ → ℕ) (n : ℕ) → ((i : ℕ) → i < n → d i ≡ 0) ⊎ ((p : ℕ) × (p < n) × (d p ≡ 0 → ⊥))
search-nonzero d zero = inl (λ i p. absurd (omega arith))
search-nonzero d (suc n) = elim (search-nonzero d n) [
  | inl h ↦ elim (ℕ_discrete (d n) 0) [
    | yes z ↦ inl (λ i p. elim (eq-or-lt_of_le (le_of_suc-le-suc p)) [ inl e ↦ ap d e ∙ z | inr l ↦ h i l ])
    | no z ↦ inr (n, omega arith, z)
  ]
  | inr s ↦ inr (s.0, (let k : s.0 < n = s.1 in omega arith), s.2)
]

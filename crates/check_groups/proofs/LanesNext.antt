-- The lanes of the summed products are the next check words. Assumes nothing.
use Rattle.std.proofs.Common.{◌≡◌, sym, ap, subst, ℕ, zero, suc, ◌%◌, ◌^◌, ◌<◌, arith, mod-lt, pow_pos}
use Rattle.std.specs.Int.Bits.{bit_xor, xor_zero_l}
use Rattle.field.specs.Polynomials.{word_product}
use Rattle.field.specs.Sums.{total}
use Rattle.field.specs.Computed.{same_at}
use Rattle.check_groups.specs.Groups.{numbers, number, next_word}
use Rattle.check_groups.proofs.Lanes.{lane}

pub number_lt : (p q : ℕ) → p < 4 → q < 4 → number p q < 2 ^ 16
unfolding number numbers
number_lt p q hp hq = subst (λ t. t < 2 ^ 16) (at p hp) (mod-lt (number p q) (pow_pos 16))
  where
    at : (p : ℕ) → p < 4 → number p q % 2 ^ 16 ≡ number p q
    at zero h = same_at (λ q. number 0 q % 2 ^ 16) (number 0) 4 tt q hq
    at (suc zero) h = same_at (λ q. number 1 q % 2 ^ 16) (number 1) 4 tt q hq
    at (suc (suc zero)) h = same_at (λ q. number 2 q % 2 ^ 16) (number 2) 4 tt q hq
    at (suc (suc (suc zero))) h = same_at (λ q. number 3 q % 2 ^ 16) (number 3) 4 tt q hq
    at (suc (suc (suc (suc p)))) h = absurd (omega arith)

module _ (s g : ℕ → ℕ) (x_lt : (q : ℕ) → q < 4 → bit_xor (s q) (g q) < 2 ^ 16) where
  pub lane_next : (p : ℕ) → lane number number_lt (λ q. bit_xor (s q) (g q)) x_lt p ≡ next_word s g p
  unfolding next_word total
  lane_next p =
      ap (λ z. bit_xor (bit_xor (bit_xor z (m 1)) (m 2)) (m 3)) (sym (xor_zero_l (m 0)))
    where
      m : ℕ → ℕ
      m q = word_product (number p q) (bit_xor (s q) (g q))

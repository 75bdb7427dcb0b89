-- Sums of words by exclusive-or, and powers. Assumes nothing.
--
--   total f n                the sum of f at the positions below n
--   nonzeros f n             how many of the positions below n have a word that is not 0
--   power mul a n            a to the power n, by the product mul
--   weighted mul a n j f     the sum over the positions i below n of a ^ (i * j) times the word f i
use Rattle.std.specs.Prelude.{ℕ, zero, suc, ◌+◌, ◌*◌, bit_xor}

unfoldable pub total : (ℕ → ℕ) → ℕ → ℕ
total f zero = 0
total f (suc n) = bit_xor (total f n) (f n)

-- 0 of 0, and 1 of every other word
unfoldable pub flag : ℕ → ℕ
flag zero = 0
flag (suc a) = 1

unfoldable pub nonzeros : (ℕ → ℕ) → ℕ → ℕ
nonzeros f zero = 0
nonzeros f (suc n) = nonzeros f n + flag (f n)

unfoldable pub power : (ℕ → ℕ → ℕ) → ℕ → ℕ → ℕ
power mul a zero = 1
power mul a (suc n) = mul a (power mul a n)

unfoldable pub weighted : (ℕ → ℕ → ℕ) → ℕ → ℕ → ℕ → (ℕ → ℕ) → ℕ
weighted mul a n j f = total (λ i. mul (power mul a (i * j)) (f i)) n

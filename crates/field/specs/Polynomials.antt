-- Words as polynomials over two elements, taken modulo a polynomial. Assumes nothing.
--
-- Bit k of a word is the coefficient of x to the power k. A word has h + 1 bits, and m is a polynomial of degree
-- h + 1, so that m = 1100Bh with h = 15 gives words of two bytes, and m = 11Dh with h = 7 bytes. The sum of words is
-- exclusive-or.
--
--   double h m v                 x times the word v, modulo m
--   times h m k a b              a times the lowest k bits of b, modulo m
--   product h m a b              a times b, modulo m
--   squares h m n b              b times its square times the square of that, n factors in all
--   inverse h m a                a to the power 2 ^ (h + 1) - 2
--   word_product, word_inverse, word_field  the field of two-byte words
--   one_above k                  the two-byte word that stands for 1 at place 16 + 8 * k, for k below 2
--   stands_for v                 the two-byte word of a polynomial of up to 32 bits
use Rattle.std.specs.Prelude.{ℕ, zero, suc, ◌*◌, ◌/◌, ◌%◌, ◌^◌, bit_xor}
use Rattle.field.specs.Laws.{Arithmetic}

-- one place up, and m added where the top bit was set
unfoldable pub double : ℕ → ℕ → ℕ → ℕ
double h m v = bit_xor (v * 2) (m * (v / 2 ^ h % 2))

-- by Horner's rule
unfoldable pub times : ℕ → ℕ → ℕ → ℕ → ℕ → ℕ
times h m zero a b = 0
times h m (suc k) a b = bit_xor (a * (b % 2)) (double h m (times h m k a (b / 2)))

unfoldable pub product : ℕ → ℕ → ℕ → ℕ → ℕ
product h m a b = times h m (suc h) a b

unfoldable pub squares : ℕ → ℕ → ℕ → ℕ → ℕ
squares h m zero b = 1
squares h m (suc n) b = product h m b (squares h m n (product h m b b))

unfoldable pub inverse : ℕ → ℕ → ℕ → ℕ
inverse h m a = squares h m h (product h m a a)

-- ---- words of two bytes, modulo 1100Bh

unfoldable pub word_product : ℕ → ℕ → ℕ
word_product = product 15 0x1100B

unfoldable pub word_inverse : ℕ → ℕ
word_inverse = inverse 15 0x1100B

abbrev pub word_field : Arithmetic
word_field = record { wide = 16; times = word_product; over = word_inverse }

-- what 1 stands for 16 places up, and 24
abbrev pub one_above : ℕ → ℕ
one_above zero = 0x100B
one_above (suc k) = 0x1BBB

-- what a number of 32 bits stands for modulo 1100Bh: its low sixteen bits, and two bytes above them
abbrev pub stands_for : ℕ → ℕ
stands_for v =
    bit_xor (bit_xor (v % 65536) (times 15 0x1100B 8 0x100B (v / 65536 % 256))) (times 15 0x1100B 8 0x1BBB (v / 16777216))

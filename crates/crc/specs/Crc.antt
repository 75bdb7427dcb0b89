-- The CRC-64 that closes a DLT 5 block, bit by bit. Assumes nothing.
--
--   polynomial      ECMA-182's polynomial of degree 64 without its highest term, high bit first
--   crc_bit c       the 64-bit register c after one shift: leftwards by one place, and the polynomial
--                  exclusive-ored in where the bit that left is ONE
--   crc_bits n c    the register after n shifts
--   crc_byte c b    the register after the byte b: into its top eight bits, then eight shifts
--   crc_more c bs   the register after the bytes bs, the first one first
--   crc bs          the CRC of the bytes bs: the register starts at zero, and nothing is inverted
use Rattle.std.specs.Prelude.{ℕ, zero, suc, ◌*◌, ◌/◌, ◌%◌, ◌^◌, List, [], ◌∷◌, bit_xor}

abbrev pub polynomial : ℕ
polynomial = 0x42F0E1EBA9EA3693

abbrev pub crc_bit : ℕ → ℕ
crc_bit c = bit_xor (c * 2 % 2 ^ 64) (c / 2 ^ 63 % 2 * polynomial)

abbrev pub crc_bits : ℕ → ℕ → ℕ
crc_bits zero c = c
crc_bits (suc n) c = crc_bits n (crc_bit c)

unfoldable pub crc_byte : ℕ → ℕ → ℕ
crc_byte c b = crc_bits 8 (bit_xor c (b * 2 ^ 56))

unfoldable pub crc_more : ℕ → List ℕ → ℕ
crc_more c [] = c
crc_more c (b ∷ bs) = crc_more (crc_byte c b) bs

abbrev pub crc : List ℕ → ℕ
crc bs = crc_more 0 bs

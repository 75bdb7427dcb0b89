-- One shift of the CRC and one byte: linear over exclusive-or, within 64 bits, and never two registers to one.
-- Assumes nothing.
use Rattle.std.proofs.Common.{◌≡◌, ℕ, zero, suc, ◌+◌, ◌*◌, ◌/◌, ◌%◌, ◌^◌, ◌<◌, sym, refl, ap, ◌∙◌, ap₂, le_of_suc-le-suc, not-suc-le-zero, add-zero, mod-eq_of_lt, mul_assoc, mul-one, le-mul_of_pos_right, arith, pow_pos}
use native.Mathlib.Nat.{pow-succ'}
use lib.Bits.{
  bit_xor,
  xor_block,
  xor_mod,
  xor_shr,
  xor_assoc,
  xor_comm,
  xor_self,
  xor_zero_r,
  xor_lt,
  xor_shifted,
}
use Rattle.crc.specs.Crc.{polynomial, crc_bit, crc_bits, crc_byte}

-- (a b) (c d) as (a c) (b d)
pub xor-swap : (a b c d : ℕ) → bit_xor (bit_xor a b) (bit_xor c d) ≡ bit_xor (bit_xor a c) (bit_xor b d)
xor-swap a b c d =
    xor_assoc a b (bit_xor c d)
    ∙ ap (bit_xor a) (sym (xor_assoc b c d) ∙ ap (λ x. bit_xor x d) (xor_comm b c) ∙ xor_assoc c b d)
    ∙ sym (xor_assoc a c (bit_xor b d))

pub same_from_xor : (a b : ℕ) → bit_xor a b ≡ 0 → a ≡ b
same_from_xor a b e =
    sym (xor_zero_r a) ∙ ap (bit_xor a) (sym (xor_self b)) ∙ sym (xor_assoc a b b) ∙ ap (λ x. bit_xor x b) e

shl-xor : (k a b : ℕ) → bit_xor a b * 2 ^ k ≡ bit_xor (a * 2 ^ k) (b * 2 ^ k)
shl-xor k a b =
    sym (add-zero (bit_xor a b * 2 ^ k)) ∙ sym (xor_block k a b 0 0 (pow_pos k) (pow_pos k))
    ∙ ap₂ bit_xor (add-zero (a * 2 ^ k)) (add-zero (b * 2 ^ k))

not_below_two {ℓ} : {A : Type ℓ} {x : ℕ} → suc (suc x) < 2 → A
not_below_two h = absurd (not-suc-le-zero (le_of_suc-le-suc (le_of_suc-le-suc h)))

out-xor : (x y : ℕ) → x < 2 → y < 2 → bit_xor x y * polynomial ≡ bit_xor (x * polynomial) (y * polynomial)
out-xor zero zero h k = refl
out-xor zero (suc zero) h k = refl
out-xor zero (suc (suc y)) h k = not_below_two k
out-xor (suc zero) zero h k = refl
out-xor (suc zero) (suc zero) h k = refl
out-xor (suc zero) (suc (suc y)) h k = not_below_two k
out-xor (suc (suc x)) y h k = not_below_two h

out-lt : (c : ℕ) → c / 2 ^ 63 % 2 < 2
out-lt c = omega arith

bit-xor : (a b : ℕ) → crc_bit (bit_xor a b) ≡ bit_xor (crc_bit a) (crc_bit b)
bit-xor a b =
    ap₂ bit_xor
    (ap (λ x. x % 2 ^ 64) (shl-xor 1 a b) ∙ xor_mod (a * 2) (b * 2) 64)
    (ap (λ x. x % 2 * polynomial) (xor_shr a b 63)
    ∙ ap (λ x. x * polynomial) (xor_mod (a / 2 ^ 63) (b / 2 ^ 63) 1)
    ∙ out-xor (a / 2 ^ 63 % 2) (b / 2 ^ 63 % 2) (out-lt a) (out-lt b))
    ∙ xor-swap (a * 2 % 2 ^ 64) (b * 2 % 2 ^ 64) (a / 2 ^ 63 % 2 * polynomial) (b / 2 ^ 63 % 2 * polynomial)

bit-lt : (c : ℕ) → crc_bit c < 2 ^ 64
bit-lt c =
    let t : c / 2 ^ 63 % 2 < 2 = out-lt c in
    xor_lt 64 (c * 2 % 2 ^ 64) (c / 2 ^ 63 % 2 * polynomial) (omega arith) (omega arith)

bit-low : (m : ℕ) → m < 2 ^ 63 → crc_bit m ≡ m * 2
bit-low m h =
    let low : m * 2 % 2 ^ 64 ≡ m * 2 = omega arith in
    let none : m / 2 ^ 63 % 2 ≡ 0 = omega arith in
    ap₂ bit_xor low (ap (λ x. x * polynomial) none) ∙ xor_zero_r (m * 2)

-- the polynomial is odd, so a shift that takes it in leaves a ONE at the low end
odd_out : (c x : ℕ) → c < 2 ^ 64 → x < 2 → c / 2 ^ 63 % 2 ≡ x → c * 2 % 2 ^ 64 ≡ x * polynomial → c ≡ 0
odd_out c zero h k out e =
    let two : c / 2 ^ 63 < 2 = omega arith in
    let none : c / 2 ^ 63 ≡ 0 = sym (mod-eq_of_lt two) ∙ out in
    let low : c < 2 ^ 63 = omega arith in
    let whole : c * 2 % 2 ^ 64 ≡ c * 2 = omega arith in
    omega (arith, sym whole ∙ e)
odd_out c (suc zero) h k out e =
    let even : c * 2 % 2 ^ 64 ≡ c % 2 ^ 63 * 2 = omega arith in
    omega (arith, sym even ∙ e)
odd_out c (suc (suc x)) h k out e = not_below_two k

bit_zero : (c : ℕ) → c < 2 ^ 64 → crc_bit c ≡ 0 → c ≡ 0
bit_zero c h e =
    odd_out c (c / 2 ^ 63 % 2) h (out-lt c) refl
    (same_from_xor (c * 2 % 2 ^ 64) (c / 2 ^ 63 % 2 * polynomial) e)

bits-xor : (n a b : ℕ) → crc_bits n (bit_xor a b) ≡ bit_xor (crc_bits n a) (crc_bits n b)
bits-xor zero a b = refl
bits-xor (suc n) a b = ap (crc_bits n) (bit-xor a b) ∙ bits-xor n (crc_bit a) (crc_bit b)

bits-lt : (n c : ℕ) → c < 2 ^ 64 → crc_bits n c < 2 ^ 64
bits-lt zero c h = h
bits-lt (suc n) c h = bits-lt n (crc_bit c) (bit-lt c)

bits_zero : (n c : ℕ) → c < 2 ^ 64 → crc_bits n c ≡ 0 → c ≡ 0
bits_zero zero c h e = e
bits_zero (suc n) c h e = bit_zero c h (bits_zero n (crc_bit c) (bit-lt c) e)

-- while no bit leaves, a shift doubles
bits-low : (n m : ℕ) → m * 2 ^ n < 2 ^ 64 → crc_bits n m ≡ m * 2 ^ n
bits-low zero m h = sym (mul-one m)
bits-low (suc n) m h =
    let twice : m * 2 * 2 ^ n ≡ m * 2 ^ suc n = mul_assoc m 2 (2 ^ n) ∙ ap (λ x. m * x) (sym (pow-succ' 2 n)) in
    let below : m < 2 ^ 63 = omega (arith, le-mul_of_pos_right (m * 2) (pow_pos n)) in
    ap (crc_bits n) (bit-low m below) ∙ bits-low n (m * 2) (omega arith) ∙ twice

pub byte-xor : (a b x y : ℕ) → crc_byte (bit_xor a b) (bit_xor x y) ≡ bit_xor (crc_byte a x) (crc_byte b y)
unfolding crc_byte
byte-xor a b x y =
    ap (crc_bits 8)
    (ap (bit_xor (bit_xor a b)) (shl-xor 56 x y) ∙ xor-swap a b (x * 2 ^ 56) (y * 2 ^ 56))
    ∙ bits-xor 8 (bit_xor a (x * 2 ^ 56)) (bit_xor b (y * 2 ^ 56))

pub byte-lt : (c b : ℕ) → crc_byte c b < 2 ^ 64
unfolding crc_byte
byte-lt c b = bits-lt 7 (crc_bit (bit_xor c (b * 2 ^ 56))) (bit-lt (bit_xor c (b * 2 ^ 56)))

byte_zero : (c : ℕ) → c < 2 ^ 64 → crc_byte c 0 ≡ 0 → c ≡ 0
unfolding crc_byte
byte_zero c h e = bits_zero 8 c h (ap (crc_bits 8) (sym (xor_zero_r c)) ∙ e)

-- two registers that the same byte brings together were one
pub same_from_byte : (a b x : ℕ) → a < 2 ^ 64 → b < 2 ^ 64 → crc_byte a x ≡ crc_byte b x → a ≡ b
same_from_byte a b x ha hb e =
    same_from_xor a b
    (byte_zero (bit_xor a b) (xor_lt 64 a b ha hb)
    (ap (crc_byte (bit_xor a b)) (sym (xor_self x)) ∙ byte-xor a b x x
    ∙ ap (λ r. bit_xor r (crc_byte b x)) e ∙ xor_self (crc_byte b x)))

-- the top byte of the register apart from the rest, which moves up
pub byte_top : (c : ℕ) → c < 2 ^ 64 → crc_byte c 0 ≡ bit_xor (crc_byte 0 (c / 2 ^ 56)) (c * 256 % 2 ^ 64)
unfolding crc_byte
byte_top c h =
    let top : ℕ = c / 2 ^ 56 in
    let low : ℕ = c % 2 ^ 56 in
    let below : low < 2 ^ 56 = omega arith in
    let whole : c ≡ top * 2 ^ 56 + low = omega arith in
    let up : low * 256 ≡ c * 256 % 2 ^ 64 = omega arith in
    let room : low * 2 ^ 8 < 2 ^ 64 = omega arith in
    ap (crc_bits 8) (xor_zero_r c ∙ whole ∙ sym (xor_shifted top 56 low below)) ∙ bits-xor 8 (top * 2 ^ 56) low
    ∙ ap (bit_xor (crc_bits 8 (top * 2 ^ 56))) (bits-low 8 low room ∙ up)

-- a byte by one look into the table of single bytes
pub byte_by_top : (c b : ℕ) → c < 2 ^ 64
    → crc_byte c b ≡ bit_xor (c * 256 % 2 ^ 64) (crc_byte 0 (bit_xor (c / 2 ^ 56) b))
byte_by_top c b h =
    let top : ℕ = c / 2 ^ 56 in
    let up : ℕ = c * 256 % 2 ^ 64 in
    ap (λ x. crc_byte x b) (sym (xor_zero_r c)) ∙ byte-xor c 0 0 b
    ∙ ap (λ x. bit_xor x (crc_byte 0 b)) (byte_top c h ∙ xor_comm (crc_byte 0 top) up)
    ∙ xor_assoc up (crc_byte 0 top) (crc_byte 0 b)
    ∙ ap (bit_xor up) (sym (byte-xor 0 0 top b))

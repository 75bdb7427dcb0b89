-- A register as bytes, the high byte first. Assumes nothing.
--
--   width n   the bits of n bytes
use Rattle.std.proofs.Common.{◌≡◌, ℕ, zero, suc, ◌+◌, ◌*◌, ◌/◌, ◌%◌, ◌^◌, ◌<◌, List, ◌∷◌, length, replicate, sym, refl, ap, ◌∙◌, ap₂, mod-lt, mod-eq_of_lt, mul_assoc, mul_comm, zero-mul, mul-one, arith, lit<}
use native.Mathlib.Nat.{mul-mod_left, mul-div-mul_right}
use lib.Bits.{bit_xor, xor_mod, xor_shr}
use Rattle.std.proofs.lemmas.Nat.{pow-add, field_of}
use Rattle.bits.specs.Fields.{sum, bytes}
use Rattle.bits.proofs.BitLaws.{length-bytes}
use Rattle.crc.specs.Crc.{crc, crc_byte, crc_more}
use Rattle.crc.specs.Laws.{xor_bytes}
use Rattle.crc.proofs.Steps.{byte_top}
use Rattle.crc.proofs.Linear.{zeros, more-xor, more-apart, crc-cons}

abbrev pub width : ℕ → ℕ
width n = sum (replicate n 8)

pub bytes-xor : (n a b : ℕ) → bytes n (bit_xor a b) ≡ xor_bytes (bytes n a) (bytes n b)
bytes-xor zero a b = refl
bytes-xor (suc n) a b =
    ap₂ ◌∷◌
    (ap (λ x. x % 256) (xor_shr a b (width n)) ∙ xor_mod (a / 2 ^ width n) (b / 2 ^ width n) 8)
    (bytes-xor n a b)

top_unit : (s w : ℕ) → s * 2 ^ (8 + w) ≡ 2 ^ 64 → s * 2 ^ w ≡ 2 ^ 56
top_unit s w e =
    omega (arith, mul_assoc s (2 ^ w) 256 ∙ ap (λ p. s * p) (mul_comm (2 ^ w) 256 ∙ sym (pow-add 2 8 w)) ∙ e)

pub pos_from_mul : (s p : ℕ) → 0 < s * p → 0 < s
pos_from_mul zero p h = omega (arith, zero-mul p)
pos_from_mul (suc s) p h = omega arith

top_byte : (x s w : ℕ) → s * 2 ^ w ≡ 2 ^ 56 → x * s % 2 ^ 64 / 2 ^ 56 ≡ x / 2 ^ w % 256
top_byte x s w e =
    field_of (x * s) 8 56
    ∙ ap (λ q. x * s / q % 256) (sym e ∙ mul_comm s (2 ^ w))
    ∙ ap (λ q. q % 256) (mul-div-mul_right x (2 ^ w) (pos_from_mul s (2 ^ w) (omega arith)))

up-byte : (z : ℕ) → z % 2 ^ 64 * 256 % 2 ^ 64 ≡ z * 256 % 2 ^ 64
up-byte z = omega arith

xor_bytes-zeros-zeros : (n : ℕ) → xor_bytes (zeros n) (zeros n) ≡ zeros n
xor_bytes-zeros-zeros zero = refl
xor_bytes-zeros-zeros (suc n) = ap (λ xs. 0 ∷ xs) (xor_bytes-zeros-zeros n)

-- x moved to the top of the register, n zero bytes on: the CRC of its n lowest bytes
pub crc-bytes : (n s x : ℕ) → s * 2 ^ width n ≡ 2 ^ 64 → crc_more (x * s % 2 ^ 64) (zeros n) ≡ crc (bytes n x)
unfolding crc_more
crc-bytes zero s x e = ap (λ p. x * p % 2 ^ 64) (sym (mul-one s) ∙ e) ∙ mul-mod_left x (2 ^ 64)
crc-bytes (suc n) s x e =
    let w : ℕ = width n in
    let y : ℕ = x * s % 2 ^ 64 in
    let d : ℕ = x / 2 ^ w % 256 in
    let t : ℕ = x * (s * 256) % 2 ^ 64 in
    let next : s * 256 * 2 ^ w ≡ 2 ^ 64 =
    mul_assoc s 256 (2 ^ w) ∙ ap (λ p. s * p) (sym (pow-add 2 8 w)) ∙ e in
    let top : y / 2 ^ 56 ≡ d = top_byte x s w (top_unit s w e) in
    let up : y * 256 % 2 ^ 64 ≡ t = up-byte (x * s) ∙ ap (λ p. p % 2 ^ 64) (mul_assoc x s 256) in
    let split : crc_byte y 0 ≡ bit_xor (crc_byte 0 d) t =
    byte_top y (mod-lt (x * s) (lit< tt)) ∙ ap₂ (λ a b. bit_xor (crc_byte 0 a) b) top up in
    ap₂ crc_more split (sym (xor_bytes-zeros-zeros n)) ∙ more-xor (crc_byte 0 d) t (zeros n) (zeros n) refl
    ∙ ap₂ bit_xor (ap (λ m. crc (d ∷ zeros m)) (sym (length-bytes n x))) (crc-bytes n (s * 256) x next)
    ∙ sym (crc-cons d (bytes n x))

pub more-eight : (c : ℕ) (bs : List ℕ) → c < 2 ^ 64 → length bs ≡ 8 → crc_more c bs ≡ crc (xor_bytes (bytes 8 c) bs)
more-eight c bs h e =
    let all : crc_more c (zeros 8) ≡ crc (bytes 8 c) =
    ap (λ r. crc_more r (zeros 8)) (sym (ap (λ r. r % 2 ^ 64) (mul-one c) ∙ mod-eq_of_lt h))
    ∙ crc-bytes 8 1 c refl in
    more-apart c bs
    ∙ ap (λ r. bit_xor r (crc bs)) (ap (λ n. crc_more c (zeros n)) e ∙ all)
    ∙ sym (more-xor 0 0 (bytes 8 c) bs (sym e))

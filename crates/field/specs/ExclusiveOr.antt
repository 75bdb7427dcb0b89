-- Exclusive-or of numbers by their bits. Assumes nothing.
use Rattle.std.specs.Prelude.{◌≡◌, ℕ, zero, suc, ◌*◌, ◌/◌, ◌%◌, ◌<◌, bit_xor}
use Rattle.std.proofs.Common.{sym, ◌∙◌, ap, ap₂, mul-zero, mul-one, add-zero, mod-lt, le_of_suc-le-suc, not-suc-le-zero, lit<}
use Rattle.std.specs.Int.Bits.{xor_assoc, xor_self, xor_zero_l, xor_zero_r}
use Rattle.std.proofs.lemmas.Nat.{xor_comm, xor_block, xor_shr, xor_mod}

pub xor-swap : (a b c d : ℕ) → bit_xor (bit_xor a b) (bit_xor c d) ≡ bit_xor (bit_xor a c) (bit_xor b d)
xor-swap a b c d =
    xor_assoc a b (bit_xor c d)
    ∙ ap (bit_xor a) (sym (xor_assoc b c d) ∙ ap (λ x. bit_xor x d) (xor_comm b c) ∙ xor_assoc c b d)
    ∙ sym (xor_assoc a c (bit_xor b d))

pub not-two : {x : ℕ} → suc (suc x) < 2 → ⊥
not-two p = not-suc-le-zero (le_of_suc-le-suc (le_of_suc-le-suc p))

-- a number times a bit
pub bit_right : (n x y : ℕ) → x < 2 → y < 2 → n * bit_xor x y ≡ bit_xor (n * x) (n * y)
bit_right n zero y p q =
    ap (λ z. n * z) (xor_zero_l y) ∙ sym (xor_zero_l (n * y))
    ∙ ap (λ z. bit_xor z (n * y)) (sym (mul-zero n))
bit_right n (suc zero) zero p q =
    ap (λ z. n * z) (xor_zero_r 1) ∙ sym (xor_zero_r (n * 1)) ∙ ap (bit_xor (n * 1)) (sym (mul-zero n))
bit_right n (suc zero) (suc zero) p q = ap (λ z. n * z) (xor_self 1) ∙ mul-zero n ∙ sym (xor_self (n * 1))
bit_right n (suc zero) (suc (suc y)) p q = absurd (not-two q)
bit_right n (suc (suc x)) y p q = absurd (not-two p)

pub bit_left : (a b x : ℕ) → x < 2 → bit_xor a b * x ≡ bit_xor (a * x) (b * x)
bit_left a b zero p = mul-zero (bit_xor a b) ∙ sym (xor_self 0) ∙ ap₂ bit_xor (sym (mul-zero a)) (sym (mul-zero b))
bit_left a b (suc zero) p = mul-one (bit_xor a b) ∙ ap₂ bit_xor (sym (mul-one a)) (sym (mul-one b))
bit_left a b (suc (suc x)) p = absurd (not-two p)

pub mod2-lt : (n : ℕ) → n % 2 < 2
mod2-lt n = mod-lt n (lit< tt)

pub xor_half : (a b : ℕ) → bit_xor a b / 2 ≡ bit_xor (a / 2) (b / 2)
xor_half a b = xor_shr a b 1

pub xor_low : (a b : ℕ) → bit_xor a b % 2 ≡ bit_xor (a % 2) (b % 2)
xor_low a b = xor_mod a b 1

pub xor-twice : (a b : ℕ) → bit_xor a b * 2 ≡ bit_xor (a * 2) (b * 2)
xor-twice a b =
    sym (add-zero (bit_xor a b * 2)) ∙ sym (xor_block 1 a b 0 0 (lit< tt) (lit< tt))
    ∙ ap₂ bit_xor (add-zero (a * 2)) (add-zero (b * 2))

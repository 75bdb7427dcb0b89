-- The fields of two-byte words and of bytes, by the two tests of their polynomials. Assumes nothing.
use Rattle.std.specs.Prelude.{◌≡◌, ℕ, zero, suc, ◌*◌, ◌/◌, ◌^◌, ◌<◌, cond, List, [], ◌∷◌, ◌==◌, bit_xor, refl}
use Rattle.std.proofs.Common.{sym, ◌∙◌, ap, lit<}
use Rattle.field.specs.Polynomials.{double, times, product, inverse, word_product, word_inverse}
use Rattle.field.specs.Laws.{FieldLaws, PowersDiffer}
use Rattle.field.specs.Sums.{power}
use Rattle.field.specs.Linear.{combine}
use Rattle.field.specs.Computed.{same_at}
use Rattle.field.specs.Inverses.{frob, field}

-- ---- words of two bytes, modulo 1100Bh

rows16 : List ℕ
rows16 = 350 ∷ 42420 ∷ 42422 ∷ 7412 ∷ 42418 ∷ 10272 ∷ 7420 ∷ 1328 ∷ 42402 ∷ 38610 ∷ 10240 ∷ 5068 ∷ 7356 ∷ 0 ∷ 1456
    ∷ 21936 ∷ []

pub field16 : FieldLaws 16 (product 15 0x1100B) (inverse 15 0x1100B)
unfolding frob combine product times double rows16
field16 =
    field 15 0x1100B 0x100B refl (lit< tt) (lit< tt) rows16
    (same_at (λ i. frob 15 0x1100B 16 (2 ^ i)) (λ i. 2 ^ i) 16 tt)
    (same_at (λ i. combine rows16 (bit_xor (product 15 0x1100B (2 ^ i) (2 ^ i)) (2 ^ i))) (λ i. 2 ^ i / 2 * 2) 16 tt)

-- ---- bytes, modulo 11Dh

rows8 : List ℕ
rows8 = 214 ∷ 232 ∷ 234 ∷ 44 ∷ 238 ∷ 0 ∷ 36 ∷ 80 ∷ []

pub field8 : FieldLaws 8 (product 7 0x11D) (inverse 7 0x11D)
unfolding frob combine product times double rows8
field8 =
    field 7 0x11D 0x1D refl (lit< tt) (lit< tt) rows8
    (same_at (λ i. frob 7 0x11D 8 (2 ^ i)) (λ i. 2 ^ i) 8 tt)
    (same_at (λ i. combine rows8 (bit_xor (product 7 0x11D (2 ^ i) (2 ^ i)) (2 ^ i))) (λ i. 2 ^ i / 2 * 2) 8 tt)

-- ---- the first twenty powers of 2

place : (ℕ → ℕ → ℕ) → ℕ → ℕ → ℕ
place mul v zero = 0
place mul v (suc n) = cond (power mul 2 n == v) n (place mul v n)

-- they differ where each can be told its place
powers_differ : (mul : ℕ → ℕ → ℕ) → ((i : ℕ) → i < 20 → place mul (power mul 2 i) 20 ≡ i) → PowersDiffer mul 2 20
powers_differ mul told i j p q e = sym (told i p) ∙ ap (λ v. place mul v 20) e ∙ told j q

pub differ16 : PowersDiffer (product 15 0x1100B) 2 20
unfolding place power product times double
differ16 =
    powers_differ (product 15 0x1100B)
    (same_at (λ i. place (product 15 0x1100B) (power (product 15 0x1100B) 2 i) 20) (λ i. i) 20 tt)

pub differ8 : PowersDiffer (product 7 0x11D) 2 20
unfolding place power product times double
differ8 = powers_differ (product 7 0x11D)
    (same_at (λ i. place (product 7 0x11D) (power (product 7 0x11D) 2 i) 20) (λ i. i) 20 tt)

-- ---- the two-byte field by its own names

pub word_field_laws : FieldLaws 16 word_product word_inverse
unfolding word_product word_inverse
word_field_laws = field16

pub word_differ : PowersDiffer word_product 2 20
unfolding word_product
word_differ = differ16

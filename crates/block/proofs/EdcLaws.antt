-- The EDC, one word of a loop more. Assumes nothing.
use Rattle.std.proofs.Common.{◌≡◌, ℕ, ◌+◌, ◌*◌, ◌/◌, ◌%◌, ◌<◌, ◌≤◌, List, [], ◌∷◌, ◌++◌, length, get_or, sym, refl, ap, ◌∙◌, add-zero, arith}
use Prim.Native.Nat.{suc-le-suc}
use lib.Bits.{bit_xor, bit_or, or_shifted}
use Rattle.block.specs.Edc.{words, turned, edc_words}

-- rotating left by one is doubling, with the high bit moved to the low end
pub rotated : (w : ℕ) → w < 65536 → bit_or (w * 2 % 65536) (w / 32768) ≡ turned w
rotated w h =
    let even : w * 2 % 65536 ≡ w % 32768 * 2 = omega arith in
    let top : w / 32768 < 2 = omega arith in
    ap (λ (x : ℕ). bit_or x (w / 32768)) even ∙ or_shifted (w % 32768) 1 (w / 32768) top
    ∙ ap (λ (x : ℕ). x + w / 32768) (sym even)

-- a word more
pub edc_more : (pair bs : List ℕ) (e : ℕ) → 2 ≤ length pair → length pair ≤ 2
    → edc_words e (words (pair ++ bs)) ≡ edc_words (turned (bit_xor e (get_or pair 0 0 + 256 * get_or pair 1 0))) (words bs)
unfolding edc_words words
edc_more [] bs e h l = elim h [ ]
edc_more (a ∷ []) bs e (suc-le-suc h) l = elim h [ ]
edc_more (a ∷ b ∷ []) bs e h l = refl
edc_more (a ∷ b ∷ x ∷ xs) bs e h (suc-le-suc (suc-le-suc l)) = elim l [ ]

-- one byte alone
pub edc_one : (bs : List ℕ) (e : ℕ) → 1 ≤ length bs → length bs ≤ 1
    → edc_words e (words bs) ≡ turned (bit_xor e (get_or bs 0 0 + 256 * 0))
unfolding edc_words words
edc_one [] e h l = elim h [ ]
edc_one (a ∷ []) e h l = ap (λ (x : ℕ). turned (bit_xor e x)) (sym (add-zero a))
edc_one (a ∷ b ∷ bs) e h (suc-le-suc l) = elim l [ ]

-- nothing
pub edc_none : (bs : List ℕ) (e : ℕ) → length bs ≤ 0 → edc_words e (words bs) ≡ e
unfolding edc_words words
edc_none [] e h = refl
edc_none (a ∷ bs) e h = elim h [ ]

-- The EDC of bytes has 16 bits. Assumes nothing.
use Rattle.std.proofs.Common.{ℕ, ◌+◌, ◌*◌, ◌<◌, List, [], ◌∷◌, arith, lit<}
use lib.Bits.{bit_xor, xor_lt}
use Rattle.bits.specs.Fields.{AllBytes}
use Rattle.block.specs.Edc.{words, turned, edc_words, edc}

turned_lt : (w : ℕ) → w < 65536 → turned w < 65536
turned_lt w h = omega arith

words-lt : (bs : List ℕ) (e : ℕ) → e < 65536 → AllBytes bs → edc_words e (words bs) < 65536
unfolding words edc_words
words-lt [] e h a = h
words-lt (x ∷ []) e h a = turned_lt (bit_xor e x) (xor_lt 16 e x h (omega (arith, a.0)))
words-lt (x ∷ y ∷ bs) e h a =
    words-lt bs (turned (bit_xor e (x + 256 * y))) (turned_lt (bit_xor e (x + 256 * y)) (xor_lt 16 e (x + 256 * y) h (omega (arith, a.0, a.1.0)))) a.1.1

pub edc-lt : (bs : List ℕ) → AllBytes bs → edc bs < 65536
unfolding edc
edc-lt bs a = words-lt bs 0x45 (lit< tt) a

-- The EDC of a Data Field: an exclusive-or of its words that turns by one bit after each. Assumes nothing.
--
--   words bs      the two-byte words of bs, low byte first; a last byte alone is a word
--   turned w      w of 16 bits, one bit position leftwards, the high bit to the low end
--   edc_words e ws the sum e after the words ws
--   edc bs        the EDC of the bytes bs
use Rattle.std.specs.Prelude.{ℕ, ◌+◌, ◌*◌, ◌/◌, ◌%◌, List, [], ◌∷◌, bit_xor}

unfoldable pub words : List ℕ → List ℕ
words [] = []
words (a ∷ []) = a ∷ []
words (a ∷ b ∷ bs) = (a + 256 * b) ∷ words bs

abbrev pub turned : ℕ → ℕ
turned w = w * 2 % 65536 + w / 32768

unfoldable pub edc_words : ℕ → List ℕ → ℕ
edc_words e [] = e
edc_words e (w ∷ ws) = edc_words (turned (bit_xor e w)) ws

unfoldable pub edc : List ℕ → ℕ
edc bs = edc_words 0x45 (words bs)

-- The check words of the four-check code taken group by group, four words each. Assumes nothing.
--
--   numbers p         by what each word of a group goes into check word p behind it
--   number p q        by what word q of a group does
--   next_word s g p   check word p behind a group g, if the check words before it are s
--   next_words s g    the four check words behind a group g, if those before it are s
--   four a b c d x    the products of x with four numbers, in one number of sixteen bits each
--   products q x      those with the numbers of word q
use Rattle.std.specs.Prelude.{ℕ, zero, suc, ◌+◌, ◌*◌, ◌^◌, List, [], ◌∷◌, map, get_or}
use Rattle.std.specs.Int.Bits.{bit_xor}
use Rattle.field.specs.Polynomials.{word_product}
use Rattle.field.specs.Sums.{total}

unfoldable pub numbers : ℕ → List ℕ
numbers zero = 0x3FD1 ∷ 0xA20D ∷ 0x6242 ∷ 0xAA05 ∷ []
numbers (suc zero) = 0x522B ∷ 0xD219 ∷ 0xA1B4 ∷ 0x8085 ∷ []
numbers (suc (suc zero)) = 0xAFB4 ∷ 0xC218 ∷ 0xEF9E ∷ 0x7343 ∷ []
numbers (suc (suc (suc p))) = 0xC24F ∷ 0xB20D ∷ 0x2C69 ∷ 0x59C2 ∷ []

unfoldable pub number : ℕ → ℕ → ℕ
number p q = get_or (numbers p) q 0

unfoldable pub next_word : (ℕ → ℕ) → (ℕ → ℕ) → ℕ → ℕ
next_word s g p = total (λ q. word_product (number p q) (bit_xor (s q) (g q))) 4

abbrev pub next_words : List ℕ → List ℕ → List ℕ
next_words s g = map (next_word (λ q. get_or s q 0) (λ q. get_or g q 0)) (0 ∷ 1 ∷ 2 ∷ 3 ∷ [])

abbrev pub four : ℕ → ℕ → ℕ → ℕ → ℕ → ℕ
four a b c d x = word_product a x + word_product b x * 2 ^ 16 + word_product c x * 2 ^ 32 + word_product d x * 2 ^ 48

abbrev pub products : ℕ → ℕ → ℕ
products q x = four (number 0 q) (number 1 q) (number 2 q) (number 3 q) x

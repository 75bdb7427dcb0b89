-- The parity code and the four-check code. Assumes nothing.
--
--   sum j ws           the sum over the positions i of ws of a ^ (i * j) times word i, where a is 0002h
--   zero_sums r ws     the sums for j below r are all 0, as a test
--   SumsAreZero        the same, as a fact
--   by_sums r ws       the r words that make the sums for j below r zero, if they are put behind the words ws
--   parity, four_check the two codes
--   SumsMakeRight      the right columns of a code are those whose sums are 0
use Rattle.std.specs.Prelude.{◌≡◌, ℕ, zero, suc, ◌+◌, ◌<◌, Bool, true, ◌&&◌, List, [], ◌∷◌, ◌++◌, map, length, drop, replicate, ◌==◌, slice_index, unwrap_or, Some, None}
use Rattle.field.specs.Polynomials.{word_product}
use Rattle.field.specs.Sums.{total, weighted}
use Rattle.codes.specs.Code.{Code, AllWords, Right}
use Rattle.std.specs.List.{find}
use Rattle.codes.specs.Rebuild.{fillings}

unfoldable pub sum : ℕ → List ℕ → ℕ
sum j ws = weighted word_product 2 (length ws) j (λ i. slice_index ws i)

abbrev pub zero_sums : ℕ → List ℕ → Bool
zero_sums zero ws = true
zero_sums (suc j) ws = sum j ws == 0 && zero_sums j ws

abbrev pub SumsAreZero : ℕ → List ℕ → Type 0
SumsAreZero r ws = (j : ℕ) → j < r → sum j ws ≡ 0

-- found among all columns that have the words ws and then any r words
unfoldable pub by_sums : ℕ → List ℕ → List ℕ
by_sums r ws = drop (length ws) (unwrap_or (find (zero_sums r) (fillings (map Some ws ++ replicate r None))) [])

-- the exclusive-or of the sixteen words
unfoldable pub parity_word : List ℕ → ℕ
parity_word ws = total (λ i. slice_index ws i) 16

abbrev pub parity : Code
parity = record { r = 1; checks = λ ws. parity_word ws ∷ [] }

abbrev pub four_check : Code
four_check = record { r = 4; checks = by_sums 4 }

-- A column is right exactly when its sums for j below r are 0.
abbrev pub SumsMakeRight : ℕ → Code → Type 0
SumsMakeRight r code =
    (ws : List ℕ) → length ws ≡ 16 + r → AllWords ws
    → (Right code ws → SumsAreZero r ws) × (SumsAreZero r ws → Right code ws)

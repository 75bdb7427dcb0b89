-- Missing words filled in, by position. Assumes nothing.
--
--   missing_count marks n        how many of the positions below n are marked missing
--   Keeps ws column marks n      ws has the column's word at each position below n that is not missing
--   Filled code column marks out  out is the column if there is a right one at all
--   Blanked column marks n out   the column with zeros at what is missing and from n on
--   Vanishes w mul n r ws        n words of w bits whose first r sums are 0
--   FilledBySums ..              out is the column of zero sums if there is one at all
--   Differs ..                   words at the missing positions that have these sums
--   SumsOf, FillsIn, MissingWord, taken_out  the same over the arithmetic of a field
use Rattle.std.specs.Prelude.{◌≡◌, ℕ, zero, suc, ◌+◌, ◌-◌, ◌^◌, ◌<◌, ◌≤◌, Bool, true, false, cond, List, length, take, drop, replicate, bit_xor, slice_index, slice_index_or}
use Rattle.field.specs.Laws.{Arithmetic}
use Rattle.field.specs.Sums.{weighted}
use Rattle.codes.specs.Code.{Code, Right}

unfoldable pub missing_count : List Bool → ℕ → ℕ
missing_count marks zero = 0
missing_count marks (suc n) = missing_count marks n + cond (slice_index_or marks n false) 1 0

abbrev pub Keeps : List ℕ → List ℕ → List Bool → ℕ → Type 0
Keeps ws column marks n = (i : ℕ) → i < n → slice_index_or marks i false ≡ false → slice_index ws i ≡ slice_index column i

-- No word that is present is changed, and every right column that has those is the answer, if at most r are missing.
pub record Filled (code : Code) (column : List ℕ) (marks : List Bool) (out : List ℕ) : Type 0 where
  pub keeps : Keeps out column marks (16 + code.r)
  pub rest : drop (16 + code.r) out ≡ replicate (4 - code.r) 0
  pub forced :
      missing_count marks (16 + code.r) ≤ code.r
      → (ws : List ℕ) → Right code ws → Keeps ws column marks (16 + code.r) → ws ≡ take (16 + code.r) out

pub record Blanked (column : List ℕ) (marks : List Bool) (n : ℕ) (out : List ℕ) : Type 0 where
  pub present : (k : ℕ) → k < n → slice_index_or marks k false ≡ false → slice_index out k ≡ slice_index column k
  pub absent : (k : ℕ) → k < n → slice_index_or marks k false ≡ true → slice_index out k ≡ 0
  pub rest : (k : ℕ) → n ≤ k → slice_index out k ≡ 0

pub record Vanishes (w : ℕ) (mul : ℕ → ℕ → ℕ) (n r : ℕ) (ws : List ℕ) : Type 0 where
  pub long : length ws ≡ n
  pub small : (i : ℕ) → i < n → slice_index ws i < 2 ^ w
  pub sums : (j : ℕ) → j < r → weighted mul 2 n j (λ i. slice_index ws i) ≡ 0

-- Outside what is missing below n nothing of the blank column is changed, and every column of zero sums that has its
-- words
-- is the answer, if at most r are missing.
pub record FilledBySums (w : ℕ) (mul : ℕ → ℕ → ℕ) (n r : ℕ) (blank : List ℕ) (marks : List Bool) (out : List ℕ) : Type
    0 where
  pub keeps : (i : ℕ) → slice_index_or marks i false ≡ false → slice_index out i ≡ slice_index blank i
  pub rest : (i : ℕ) → n ≤ i → slice_index out i ≡ slice_index blank i
  pub forced :
      missing_count marks n ≤ r → (ws : List ℕ) → Vanishes w mul n r ws → Keeps ws blank marks n
      → (i : ℕ) → i < n → slice_index ws i ≡ slice_index out i

-- words e at the missing positions, 0 elsewhere, that have these sums
pub record Differs (w : ℕ) (mul : ℕ → ℕ → ℕ) (n r : ℕ) (marks : List Bool) (totals : List ℕ) (e : ℕ → ℕ) : Type 0 where
  pub small : (i : ℕ) → i < n → e i < 2 ^ w
  pub off : (i : ℕ) → i < n → slice_index_or marks i false ≡ false → e i ≡ 0
  pub total : (j : ℕ) → j < r → slice_index totals j ≡ weighted mul 2 n j e

-- ---- as the solver promises it, over the arithmetic of a field

-- the first r sums of the blank column
abbrev pub SumsOf : Arithmetic → ℕ → List ℕ → List ℕ → Type 0
SumsOf F r blank totals = (j : ℕ) → j < r → slice_index totals j ≡ weighted F.times 2 (16 + r) j (λ i. slice_index blank i)

abbrev pub FillsIn : Arithmetic → ℕ → List ℕ → List Bool → List ℕ → Type 0
FillsIn F r blank marks out = FilledBySums F.wide F.times (16 + r) r blank marks out

-- w is the word at position p that has these sums together with words at the other missing positions
abbrev pub MissingWord : Arithmetic → ℕ → List ℕ → List Bool → ℕ → ℕ → Type 0
MissingWord F r totals marks p w =
    missing_count marks (16 + r) ≤ r → (e : ℕ → ℕ) → Differs F.wide F.times (16 + r) r marks totals e → w ≡ e p

-- sum j of the words, each times the distance of its point from y
abbrev pub taken_out : Arithmetic → List ℕ → ℕ → ℕ → ℕ
taken_out F sums y j = bit_xor (slice_index sums (j + 1)) (F.times y (slice_index sums j))

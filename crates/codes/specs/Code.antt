-- What a check code means, and its law. Assumes nothing.
--
--   AllWords ws         every number of the list is a two-byte word
--   differences us ws   at how many positions two columns differ
--   Code                the meaning of a code: r, and the check words of any sixteen words
--   check_four code ws  the check words of ws, and zeros up to four
--   Right code ws       ws is a column of 16 + r words with right check words
--   Lawful code         what is asked of a code
use Rattle.std.specs.Prelude.{◌≡◌, ℕ, ◌+◌, ◌-◌, ◌<◌, ◌≤◌, cond, List, [], ◌∷◌, ◌++◌, length, take, drop, replicate, ◌==◌}

abbrev pub AllWords : List ℕ → Type 0
AllWords [] = Unit {0}
AllWords (w ∷ ws) = (w < 65536) × AllWords ws

abbrev pub differences : List ℕ → List ℕ → ℕ
differences [] ws = 0
differences (u ∷ us) [] = 0
differences (u ∷ us) (w ∷ ws) = cond (u == w) 0 1 + differences us ws

pub record Code : Type 0 where
  pub r : ℕ
  pub checks : List ℕ → List ℕ

-- the check words, and zeros up to four
abbrev pub check_four : Code → List ℕ → List ℕ
check_four code ws = code.checks ws ++ replicate (4 - code.r) 0

abbrev pub Right : Code → List ℕ → Type 0
Right code ws = (length ws ≡ 16 + code.r) × AllWords ws × (drop 16 ws ≡ code.checks (take 16 ws))

-- Words in, words out; and two right columns that agree in all but at most r positions are equal.
pub record Lawful (code : Code) : Type 0 where
  pub at_least_one : 1 ≤ code.r
  pub at_most_four : code.r ≤ 4
  pub makes-words :
      (ws : List ℕ) → length ws ≡ 16 → AllWords ws → (length (code.checks ws) ≡ code.r) × AllWords (code.checks ws)
  pub distance : (us ws : List ℕ) → Right code us → Right code ws → differences us ws ≤ code.r → us ≡ ws

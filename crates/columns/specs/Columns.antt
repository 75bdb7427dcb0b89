-- Columns of words in a work area of twenty blocks. Assumes nothing.
--
--   work_len               the bytes of a work area; judged_work n refuses another number with 1
--   word_at work i c       word c of the block at position i: two bytes, the low one first
--   column work c          word c of each of the twenty positions: data blocks 0 to 15, check blocks from 16 on
--   is_under first n q     byte q of a work area is under a word of the n blocks from position first on
--   is_check r q           byte q of a work area is under a check word
--   check_at code work j c the check word j of column c
--   right_column           the right column for column c, if there is one, where some positions are marked missing
--   Done                   each column below m is rebuilt, and each from m on is as it was
--   Rebuilds               all columns are rebuilt, or the first that has no right one is named
--   RebuildsAll            the same, with what is refused before
use Rattle.std.specs.Prelude.{◌≡◌, ℕ, ◌+◌, ◌-◌, ◌*◌, ◌/◌, ◌%◌, ◌<◌, ◌≤◌, Bool, true, false, cond, ◌&&◌, List, [], ◌∷◌, ◌++◌, map, length, take, replicate, Ok, Err, ◌==◌, nat_le, nat_lt, slice_index, Option, Some, None}
use Rattle.std.specs.List.{range_with_len}
use Rattle.refusal.specs.Tells.{Answer, and_then}
use Rattle.refusal.specs.Lengths.{of_length}
use Rattle.codes.specs.Code.{Code}
use Rattle.codes.specs.Rebuild.{seen, rebuild}
use Rattle.codes.specs.Filling.{missing_count}

abbrev pub work_len : ℕ
work_len = 165120

abbrev pub judged_work : ℕ → Answer (Unit {0})
judged_work n = of_length work_len n tt

abbrev pub word_at : List ℕ → ℕ → ℕ → ℕ
word_at work i c = slice_index work (i * 8256 + 2 * c) + 256 * slice_index work (i * 8256 + 2 * c + 1)

unfoldable pub column : List ℕ → ℕ → List ℕ
column work c = map (λ i. word_at work i c) (range_with_len 0 20)

-- a block has 4,114 words under check words: its first 8,228 bytes
abbrev pub is_under : ℕ → ℕ → ℕ → Bool
is_under first n q = nat_le first (q / 8256) && (nat_lt (q / 8256) (first + n) && nat_lt (q % 8256) 8228)

abbrev pub is_check : ℕ → ℕ → Bool
is_check r q = is_under 16 r q

abbrev pub check_at : Code → List ℕ → ℕ → ℕ → ℕ
check_at code work j c = slice_index (code.checks (take 16 (column work c))) j

-- every check word stands, and no other byte is changed
pub record Checked (code : Code) (before after : List ℕ) : Type 0 where
  pub words : (j c : ℕ) → j < code.r → c < 4114 → word_at after (16 + j) c ≡ check_at code before j c
  pub others : (q : ℕ) → is_check code.r q ≡ false → slice_index after q ≡ slice_index before q

-- a work area of another length stays as it is
abbrev pub MadeChecks : Code → List ℕ → List ℕ → Type 0
MadeChecks code before after = elim (length before == work_len) [
  | true ↦ Checked code before after
  | false ↦ after
      ≡ before
]

-- a right column, and zeros up to twenty words
abbrev pub twenty : Code → Option (List ℕ) → Option (List ℕ)
twenty code None = None
twenty code (Some ws) = Some (ws ++ replicate (4 - code.r) 0)

abbrev pub right_column : Code → List ℕ → List Bool → ℕ → Option (List ℕ)
right_column code work marks c = twenty code (rebuild code (seen code (column work c) marks))

-- the bytes of a block that no check word covers are as they were
pub record Done (code : Code) (marks : List Bool) (before after : List ℕ) (m : ℕ) : Type 0 where
  pub below : (c : ℕ) → c < m → right_column code before marks c ≡ Some (column after c)
  pub from : (c : ℕ) → m ≤ c → c < 4114 → column after c ≡ column before c
  pub uncovered : (q : ℕ) → 8228 ≤ q % 8256 → slice_index after q ≡ slice_index before q

-- all columns are rebuilt, or 13 names the first that has no right one; its other values name no entity
abbrev pub Rebuilds : Code → List Bool → List ℕ → List ℕ → Answer (Unit {0}) → Type 0
Rebuilds code marks before after (Ok u) = Done code marks before after 4114
Rebuilds code marks before after (Err e) =
    (c : ℕ) × (c < 4114) × (e ≡ (13, 0 ∷ 0 ∷ c ∷ [])) × Done code marks before after c
    × (right_column code before marks c ≡ None)

-- another length is refused with 1 and more than r marks with 15, and then nothing is changed
abbrev pub judged_marks : Code → List Bool → ℕ → Answer (Unit {0})
judged_marks code marks n =
    and_then (judged_work n)
    (λ _. cond (nat_lt code.r (missing_count marks (16 + code.r))) (Err (15, missing_count marks (16 + code.r) ∷ [])) (Ok tt))

abbrev pub RebuildsAll : Code → List Bool → List ℕ → List ℕ → Answer (Unit {0}) → Type 0
RebuildsAll code marks before after a =
    elim (judged_marks code marks (length before)) [ Ok u ↦ Rebuilds code marks before after a | Err e ↦ (a ≡ Err e) × (after ≡ before) ]

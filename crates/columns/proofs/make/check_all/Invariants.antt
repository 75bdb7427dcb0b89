-- The columns below c have their check words, and no byte outside the check words is changed. Assumes nothing.
use Rattle.std.proofs.Common.{◌≡◌, ℕ, ◌+◌, ◌<◌, false, get_or}
use Rattle.columns.specs.Columns.{word_at, check_at, is_check}
use Rattle.columns.proofs.make.check_all.Given as goal

abbrev pub invariant-loop-c : goal.invariant-loop-c
invariant-loop-c g l =
    ((j k : ℕ) → j < (g.K.CheckCode.code l.code).r → k < l.c
    → word_at l.work (16 + j) k ≡ check_at (g.K.CheckCode.code l.code) l.initial.work j k)
    × ((q : ℕ) → is_check (g.K.CheckCode.code l.code).r q ≡ false → get_or l.work q 0 ≡ get_or l.initial.work q 0)

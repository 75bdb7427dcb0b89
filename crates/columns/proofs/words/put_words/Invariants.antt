-- The words below j stand in column c, and no other byte is changed. Assumes nothing.
use Rattle.std.proofs.Common.{◌≡◌, ℕ, ◌+◌, ◌<◌, false, ◌≢◌, length, get_or}
use Rattle.columns.specs.Columns.{word_at, is_under}
use Rattle.columns.proofs.words.put_words.Given as goal

abbrev pub invariant-loop-j : goal.invariant-loop-j
invariant-loop-j l =
    ((j : ℕ) → j < l.j → word_at l.work (l.first + j) l.c ≡ get_or l.words j 0)
    × ((i k : ℕ) → k < 4114 → k ≢ l.c → word_at l.work i k ≡ word_at l.initial.work i k)
    × ((q : ℕ) → is_under l.first (length l.words) q ≡ false → get_or l.work q 0 ≡ get_or l.initial.work q 0)

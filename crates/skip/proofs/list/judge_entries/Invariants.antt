-- What judging the entries in turn keeps. Assumes nothing.
use Rattle.std.proofs.Common.{◌≡◌, ◌-◌, length}
use Rattle.std.specs.List.{range_with_len}
use Rattle.skip.specs.BadPlaces.{judged_at}
use Rattle.skip.proofs.ListLaws.{least_at}
use Rattle.skip.proofs.list.judge_entries.Given as goal

-- the entries from the index on decide, and the next one may be as low as the one above the last
abbrev pub invariant-loop-index : goal.invariant-loop-index
invariant-loop-index l =
    (judged_at l.places l.list (range_with_len l.index (length l.list - l.index))
    ≡ judged_at l.places l.list (range_with_len 0 (length l.list)))
    × (l.least ≡ least_at l.list l.index)

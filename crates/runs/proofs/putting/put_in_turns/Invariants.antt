-- What putting in turns keeps. Assumes nothing.
use Rattle.std.specs.List.{range_with_len, FoldsTo}
use Rattle.runs.specs.Turns.{PutInTurn}
use Rattle.runs.proofs.putting.put_in_turns.Given as goal

-- the turns so far took the places from what they held to what they hold
abbrev pub invariant-loop-i : goal.invariant-loop-i
invariant-loop-i g l =
    FoldsTo (PutInTurn (goal.F-post g l.turn)) (g.C.Card.contents l.initial.card) (range_with_len 0 l.i) (g.C.Card.contents l.card)

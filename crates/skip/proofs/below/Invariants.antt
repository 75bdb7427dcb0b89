-- What stepping over the bad places keeps. Assumes nothing.
use Rattle.std.proofs.Common.{◌≡◌, ◌+◌, ◌≤◌, drop}
use Rattle.skip.specs.Skipped.{unlisted}
use Rattle.skip.proofs.below.Given as goal

-- the bad places that are left give the answer
abbrev pub invariant-loop-bad : goal.invariant-loop-bad
invariant-loop-bad l =
    (unlisted (drop l.bad-index l.list) l.at ≡ unlisted l.list l.place)
    × (l.at ≤ l.place + l.bad-index)

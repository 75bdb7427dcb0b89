-- What getting the places in turn keeps. Assumes nothing.
use Rattle.std.proofs.Common.{◌≡◌, ◌*◌, ◌++◌, drop}
use Rattle.runs.specs.Runs.{run_bytes}
use Rattle.runs.proofs.getting.get_run.Given as goal

-- the first i blocks of the work area are got, the rest is as it was
abbrev pub invariant-loop-i : goal.invariant-loop-i
invariant-loop-i g l =
    l.work ≡ run_bytes (g.C.Card.contents l.card) l.start l.i ++ drop (l.i * 8256) l.initial.work

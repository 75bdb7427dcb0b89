-- The missing positions below k, but for this one, are taken out of the sums. Assumes nothing.
use Rattle.std.proofs.Common.{◌+◌}
use Rattle.codes.proofs.Solving.{Held}
use Rattle.codes.proofs.solve.missing_word.Given as goal

abbrev pub invariant-loop-k : goal.invariant-loop-k
invariant-loop-k g l =
    Held (g.F.Field.means l.field).times (g.F.Field.means l.field).wide (16 + l.r) l.r l.fn.marks
    l.at l.initial.sums l.k l.scale l.sums

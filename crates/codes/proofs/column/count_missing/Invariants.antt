-- The missing words so far. Assumes nothing.
use Rattle.std.proofs.Common.{◌≡◌, ◌≤◌}
use Rattle.codes.specs.Filling.{missing_count}
use Rattle.codes.proofs.column.count_missing.Given as goal

abbrev pub invariant-loop-missing : goal.invariant-loop-missing
invariant-loop-missing l = (l.count ≡ missing_count l.fn.marks l.missing-index) × (l.count ≤ l.missing-index)

-- The entries of the table, by one computed test. Assumes nothing.
use Rattle.std.proofs.Common.{ℕ, Bool, eqb, eqb→eq, ◌<◌, arith}
use Rattle.field.specs.declared.tables.TheConstants.{ABOVE}
use Rattle.field.specs.Polynomials.{double, times, one_above}
use Rattle.field.specs.Computed.{at_row}
use Rattle.field.proofs.tables.above.Goals as goal

right : ℕ → ℕ → ℕ → Bool
right k x e = eqb e (times 15 0x1100B 8 (one_above k) x)

pub returns : goal.returns
unfolding right times double
returns c =
    let h : c.args.x < 256 = omega (arith, c.ranges.x) in
    eqb→eq _ (times 15 0x1100B 8 (one_above c.args.k) c.args.x)
    (at_row right 256 ABOVE tt _ c.args.k c.args.x c.requires h)

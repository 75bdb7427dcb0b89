-- The entries of the table, by one computed test. Assumes nothing.
use Rattle.std.proofs.Common.{ℕ, Bool, eqb, eqb→eq, ◌<◌, arith}
use Rattle.field.specs.declared.tables.TheConstants.{NIBBLES}
use Rattle.field.specs.Polynomials.{double, times}
use Rattle.field.specs.Computed.{at_row}
use Rattle.field.proofs.tables.nibble_times_byte.Goals as goal

right : ℕ → ℕ → ℕ → Bool
right n y e = eqb e (times 15 0 4 y n)

pub returns : goal.returns
unfolding right times double
returns c =
    let h : c.args.y < 256 = omega (arith, c.ranges.y) in
    eqb→eq _ (times 15 0 4 c.args.y c.args.n) (at_row right 256 NIBBLES tt _ c.args.n c.args.y c.requires h)

-- The entries of the table, by one computed test. Assumes nothing.
use Rattle.field.specs.declared.points.TheConstants.{GAPS}
use Rattle.field.specs.Polynomials.{double, times, product, word_product}
use Rattle.field.specs.Sums.{power}
use Rattle.field.specs.Computed.{at_row}
use Rattle.field.proofs.Gaps.{is_gap, gap-inverse}
use Rattle.field.proofs.points.near_gap.Goals as goal

pub returns : goal.returns
unfolding is_gap power word_product product times double
returns c =
    gap-inverse c.args.i c.args.k _ (at_row is_gap 20 GAPS tt _ c.args.i c.args.k c.requires.0 c.requires.1)

-- The entries of the table, by one computed test. Assumes nothing.
use Rattle.std.proofs.Common.{get_or}
use Rattle.field.specs.declared.points.TheConstants.{POINTS}
use Rattle.field.specs.Polynomials.{double, times, product, word_product}
use Rattle.field.specs.Sums.{power}
use Rattle.field.specs.Computed.{same_at}
use Rattle.field.proofs.points.near_point.Goals as goal

pub returns : goal.returns
unfolding power word_product product times double
returns c = same_at (λ i. get_or POINTS i 0) (power word_product 2) 20 tt c.args.i c.requires

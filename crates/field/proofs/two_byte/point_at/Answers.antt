-- A turn doubles once more. Assumes nothing.
use Rattle.std.proofs.Common.{sym, refl, ap, ◌∙◌, add-one}
use Rattle.field.specs.Polynomials.{word_product}
use Rattle.field.specs.Sums.{power}
use Rattle.field.proofs.two_byte.point_at.Goals as goal

pub loop-init : goal.loop-init
unfolding power
loop-init c = refl

pub loop-preserved : goal.loop-preserved
unfolding power
loop-preserved c =
    c.multiply-x.ensures ∙ ap (word_product 2) c.loop.invariant
    ∙ ap (power word_product 2) (sym (add-one c.loop.counter))

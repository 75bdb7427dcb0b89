-- A turn squares once more; the last product is the inverse. Assumes nothing.
use Rattle.std.proofs.Common.{◌<◌, arith}
use Rattle.field.proofs.WordSteps.{squares-start, squares-step, squares_end}
use Rattle.field.proofs.two_byte.reciprocal.Goals as goal

pub loop-init : goal.loop-init
loop-init c =
    let lt : c.args.a < 65536 = omega arith in (
      omega arith,
      c.multiply-square.type_inv,
      squares-start c.args.a c.multiply-square.result lt
          c.multiply-square.ensures,
    )

pub loop-preserved : goal.loop-preserved
loop-preserved c = (
  c.multiply-product.type_inv,
  c.multiply-square-in-loop.type_inv,
  squares-step c.loop.counter c.loop.product c.loop.square c.multiply-product.result
      c.multiply-square-in-loop.result _
      c.loop-test.true c.loop.invariant.0 c.loop.invariant.1 c.multiply-product.ensures
      c.multiply-square-in-loop.ensures c.loop.invariant.2,
)

pub returns : goal.returns
returns c = squares_end c.loop.counter c.loop.product c.loop.square _ c.loop-test.false
    c.loop.invariant.0 c.loop.invariant.2

-- The square and the product are powers of the word. Assumes nothing.
use Rattle.std.proofs.Common.{◌≡◌, ◌-◌, ◌<◌}
use Rattle.field.specs.Polynomials.{squares, word_inverse}
use Rattle.field.specs.Polynomials.{word_product}
use Rattle.field.proofs.two_byte.reciprocal.Given as goal

abbrev pub invariant-loop : goal.invariant-loop
invariant-loop l = (l.product < 65536) × (l.square < 65536) ×
    (word_product l.product (squares 15 0x1100B (15 - l.counter) l.square) ≡ word_inverse l.a)

-- The word is a power of 2. Assumes nothing.
use Rattle.std.proofs.Common.{◌≡◌}
use Rattle.field.specs.Polynomials.{word_product}
use Rattle.field.specs.Sums.{power}
use Rattle.field.proofs.two_byte.point_at.Given as goal

abbrev pub invariant-loop : goal.invariant-loop
invariant-loop l = l.x ≡ power word_product 2 l.counter

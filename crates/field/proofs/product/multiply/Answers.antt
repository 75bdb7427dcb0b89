-- Four products of four bits are the whole product. Assumes nothing.
use Rattle.std.proofs.Common.{◌*◌, ◌<◌, ap, ◌∙◌, ap₂, arith}
use Rattle.std.proofs.Common.{bit_xor}
use Rattle.field.proofs.Additive.{back, product_by_tables}
use Rattle.field.proofs.product.multiply.Goals as goal

pub returns : goal.returns
returns c =
    let a : c.args.a < 65536 = omega (arith, c.ranges.a) in
    let b : c.args.b < 65536 = omega (arith, c.ranges.b) in
    c.put_back.ensures
    ∙ ap back
    (ap₂ bit_xor
    (ap₂ bit_xor (ap₂ bit_xor c.by_nibble.ensures.value (ap (λ z. z * 16) c.by_nibble-2.ensures.value))
    (ap (λ z. z * 256) c.by_nibble-3.ensures.value))
    (ap (λ z. z * 4096) c.by_nibble-4.ensures.value))
    ∙ product_by_tables c.args.a c.args.b a b

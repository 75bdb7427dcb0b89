-- The products of both bytes are those of the word. Assumes nothing.
use Rattle.std.proofs.Common.{◌≡◌, ◌*◌, ◌/◌, ◌%◌, ◌^◌, ◌<◌, ap, ◌∙◌, ap₂, arith, lit<, rules, get_or, bit_xor}
use Rattle.check_groups.specs.Groups.{number, products}
use Rattle.check_groups.proofs.Lanes.{by_bytes}
use Rattle.check_groups.proofs.LanesNext.{number_lt}
use Rattle.check_groups.proofs.group.products.Goals as goal

pub returns : goal.returns
returns c =
    let q = c.args.position in
    let h : c.args.x < 2 ^ 16 = omega (arith, c.ranges.x) in
    let low : get_or c.to_le_bytes.result 0 0 ≡ c.args.x % 256 = search rules in
    let high : get_or c.to_le_bytes.result 1 0 ≡ c.args.x / 256 = search rules in
    ap₂ bit_xor (c.product.ensures ∙ ap (λ x. products q (x * 1)) low)
    (c.product-2.ensures ∙ ap (λ x. products q (x * 256)) high)
    ∙ by_bytes (number 0 q) (number 1 q) (number 2 q) (number 3 q) c.args.x (number_lt 0 q (lit< tt) c.requires)
    (number_lt 1 q (lit< tt) c.requires) (number_lt 2 q (lit< tt) c.requires) (number_lt 3 q (lit< tt) c.requires) h

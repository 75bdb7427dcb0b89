-- The two bytes of a word, each times four bits. Assumes nothing.
use Rattle.std.proofs.Common.{◌≡◌, ◌*◌, ◌/◌, ◌%◌, ◌<◌, sym, ap, ◌∙◌, subst, ap₂, arith, bit_xor, get_or, rules}
use Rattle.field.specs.Polynomials.{times}
use Rattle.field.proofs.Additive.{nibble-bytes, nibble-lt}
use Rattle.field.proofs.product.by_nibble.Goals as goal

pub returns : goal.returns
returns c =
    let h : c.args.a < 65536 = omega (arith, c.ranges.a) in
    let l : get_or c.to_le_bytes.result 0 0 ≡ c.args.a % 256 = search rules in
    let u : get_or c.to_le_bytes.result 1 0 ≡ c.args.a / 256 = search rules in
    let low : c.from.result ≡ times 15 0 4 (c.args.a % 256) c.args.n =
    c.from.ensures ∙ c.nibble_times_byte.ensures ∙ ap (λ y. times 15 0 4 y c.args.n) l in
    let high : c.from-2.result ≡ times 15 0 4 (c.args.a / 256) c.args.n =
    c.from-2.ensures ∙ c.nibble_times_byte-2.ensures ∙ ap (λ y. times 15 0 4 y c.args.n) u in
    let e : bit_xor c.from.result (c.from-2.result * 256) ≡ times 15 0 4 c.args.a c.args.n =
    ap₂ (λ u v. bit_xor u (v * 256)) low high ∙ nibble-bytes c.args.a c.args.n in
    record { value = e; narrow = subst (λ z. z < 1048576) (sym e) (nibble-lt c.args.a c.args.n h) }

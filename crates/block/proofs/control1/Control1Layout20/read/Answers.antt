-- The groups of bytes hold the fields. Assumes nothing.
use Rattle.std.proofs.Common.{◌≡◌, length, ℕ, ◌<◌, get_or, sym, ◌∙◌, arith, rules}
use Rattle.bits.proofs.Numbers.{value_one, value_two, value_three, value_four}
use Rattle.block.proofs.ControlRead.{control1_is}
use Rattle.block.proofs.control1.Control1Layout20.read.Goals as goal

pub returns : goal.returns
returns c =
    let bs = c.args.bytes.now in
    let small : (q : ℕ) → get_or c.args.bytes.now q 0 < 256 = λ q. search rules in
    let long : length c.args.bytes.now ≡ 20 = search rules in
    let e = control1_is bs long c.from_be_bytes-head.result c.from_be_bytes-marks.result (get_or bs 16 0)
    c.from_be_bytes.result (get_or bs 7 0) c.from_be_bytes-2.result c.from_be_bytes-3.result c.from_be_bytes-4.result
    (c.from_be_bytes-head.ensures ∙ sym (value_four bs 0 small (omega (arith, long))))
    (c.from_be_bytes-marks.ensures ∙ sym (value_two bs 14 small (omega (arith, long))))
    (sym (value_one bs 16 small (omega (arith, long))))
    (omega (arith, c.from_be_bytes.ensures, value_three bs 4 small (omega (arith, long))))
    (sym (value_one bs 7 small (omega (arith, long))))
    (c.from_be_bytes-2.ensures ∙ sym (value_four bs 8 small (omega (arith, long))))
    (c.from_be_bytes-3.ensures ∙ sym (value_two bs 12 small (omega (arith, long))))
    (omega (arith, c.from_be_bytes-4.ensures, value_three bs 17 small (omega (arith, long))))
    c.from_be_bytes-head.type_inv c.from_be_bytes-marks.type_inv (small 16) in
    rw c.from.ensures (sym e)

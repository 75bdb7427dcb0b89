-- The groups of bytes hold the fields. Assumes nothing.
use Rattle.std.proofs.Common.{◌≡◌, length, ℕ, ◌<◌, get_or, sym, ◌∙◌, arith, rules}
use Rattle.bits.proofs.Numbers.{value_one, value_two, value_three, value_four, value-eight, value-nine}
use Rattle.block.proofs.ControlRead.{control2_is}
use Rattle.block.proofs.control2.Control2Layout16.read.Goals as goal

pub returns : goal.returns
returns c =
    let bs = c.args.bytes.now in
    let small : (q : ℕ) → get_or c.args.bytes.now q 0 < 256 = λ q. search rules in
    let long : length c.args.bytes.now ≡ 16 = search rules in
    let nine = value-nine bs 0 small (omega (arith, long)) in
    let eight = value-eight bs 0 (omega (arith, long)) in
    let low = value_four bs 0 small (omega (arith, long)) in
    let high = value_four bs 4 small (omega (arith, long)) in
    let e = control2_is bs long c.from_be_bytes-head.result (get_or bs 15 0) (get_or bs 9 0) c.from_be_bytes.result c.from_be_bytes-2.result
    (omega (arith, c.from_be_bytes-head.ensures, nine, eight, low, high))
    (sym (value_one bs 15 small (omega (arith, long))))
    (sym (value_one bs 9 small (omega (arith, long))))
    (c.from_be_bytes.ensures ∙ sym (value_two bs 10 small (omega (arith, long))))
    (omega (arith, c.from_be_bytes-2.ensures, value_three bs 12 small (omega (arith, long))))
    (omega (arith, c.from_be_bytes-head.ensures, small 0, small 1, small 2, small 3, small 4, small 5, small 6, small 7, small 8))
    (small 15) in
    sym e

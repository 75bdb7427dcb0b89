-- The number that eight bytes write. Assumes nothing.
use Rattle.std.proofs.Common.{◌≡◌, ℕ, ◌<◌, length, get_or, take, ap, ◌∙◌, arith, rules}
use Rattle.std.proofs.lemmas.List.{take_all}
use Rattle.bits.specs.Fields.{value}
use Rattle.bits.proofs.Numbers.{value_four, value-eight}
use Rattle.block.proofs.sound.number_in.Goals as goal

pub returns : goal.returns
returns c =
    let bs = c.args.bytes.now in
    let small : (q : ℕ) → get_or c.args.bytes.now q 0 < 256 = λ q. search rules in
    let long : length c.args.bytes.now ≡ 8 = search rules in
    let whole : take 8 bs ≡ bs = take_all 8 bs (omega (arith, long)) in
    let read : c.from_be_bytes.result ≡ value (take 8 bs) =
    omega (
      arith,
      c.from_be_bytes.ensures,
      value-eight bs 0 (omega (arith, long)),
      value_four bs 0 small (omega (arith, long)),
      value_four bs 4 small (omega (arith, long)),
    ) in
    read ∙ ap value whole

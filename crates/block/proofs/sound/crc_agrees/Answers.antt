-- The last eight bytes are the stored CRC. Assumes nothing.
use Rattle.std.proofs.Common.{◌≡◌, ℕ, ◌-◌, ◌≤◌, length, drop, sym, ap, ap₂, ◌∙◌, arith, eqb, length-drop, rules}
use Rattle.std.proofs.lemmas.List.{take_all}
use Rattle.bits.specs.Fields.{value}
use Rattle.block.proofs.sound.crc_agrees.Goals as goal

pub returns : goal.returns
returns c =
    let whole = (rw c.unwrap.ensures at c.last_chunk.ensures.cases).1 in
    let long : length c.args.block.now ≡ 8256 = search rules in
    let is : c.unwrap.result.now ≡ drop 8248 c.args.block.now = whole.same ∙ ap (λ (n : ℕ). drop (n - 8) c.args.block.now) long in
    let few : length (drop 8248 c.args.block.now) ≤ 8 = simp length-drop (omega (arith, long)) in
    ap₂ eqb c.crc64.ensures (c.number_in.ensures ∙ ap value (is ∙ sym (take_all 8 (drop 8248 c.args.block.now) few)))

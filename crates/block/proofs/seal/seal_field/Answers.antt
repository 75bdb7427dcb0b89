-- EDC and pad, the control fields and the CRC, one behind the other. Assumes nothing.
use Rattle.std.proofs.Common.{◌≡◌, ℕ, ◌+◌, List, [], ◌∷◌, ◌++◌, length, get_or, take, sym, ap, ◌∙◌}
use Rattle.block.specs.Control.{bytes1, bytes2}
use Rattle.block.proofs.ControlLaws.{length-bytes1, length-bytes2}
use Rattle.block.proofs.Sealing.{field_is}
use Rattle.block.proofs.seal.seal_field.Goals as goal

pub returns : goal.returns
returns c =
    let one : length c.to_bytes.result ≡ 20 = ap length c.to_bytes.ensures ∙ length-bytes1 c.args.c1 in
    let two : length c.to_bytes-2.result ≡ 16 = ap length c.to_bytes-2.ensures ∙ length-bytes2 c.args.c2 in
    let w : List ℕ = get_or c.to_le_bytes.result 0 0 ∷ get_or c.to_le_bytes.result 1 0 ∷ 0 ∷ 0 ∷ [] in
    let b2 : take 8232 c.put-2.new.block ≡ take 8212 c.put.new.block ++ bytes1 c.args.c1 =
    ap (λ (n : ℕ). take (8212 + n) c.put-2.new.block) (sym one) ∙ c.put-2.ensures
    ∙ ap (λ (t : List ℕ). take 8212 c.put.new.block ++ t) c.to_bytes.ensures in
    let b3 : take 8248 c.put-3.new.block ≡ take 8232 c.put-2.new.block ++ bytes2 c.args.c2 =
    ap (λ (n : ℕ). take (8232 + n) c.put-3.new.block) (sym two) ∙ c.put-3.ensures
    ∙ ap (λ (t : List ℕ). take 8232 c.put-2.new.block ++ t) c.to_bytes-2.ensures in
    field_is (take 8208 c.args.block.now) (take 8212 c.put.new.block) (take 8232 c.put-2.new.block)
    (take 8248 c.put-3.new.block) c.seal_crc.new.block w c.edc_of.result c.args.c1 c.args.c2
    (ap (λ (t : List ℕ). get_or t 0 0 ∷ get_or t 1 0 ∷ 0 ∷ 0 ∷ []) c.to_le_bytes.ensures) c.edc_of.ensures
    c.put.ensures b2 b3 c.seal_crc.ensures

-- The end of Control Field 1, Control Field 2 and the CRC, one behind the other. Assumes nothing.
use Rattle.std.proofs.Common.{◌≡◌, ℕ, ◌+◌, List, ◌++◌, length, take, drop, sym, ap, ◌∙◌}
use Rattle.std.proofs.lemmas.List.{append_assoc}
use Rattle.block.specs.Block.{sealed}
use Rattle.block.specs.Control.{bytes1, bytes2}
use Rattle.block.proofs.ControlLaws.{length-bytes2, bytes1_end, length-bytes1_end}
use Rattle.block.proofs.seal.seal_words.Goals as goal

pub returns : goal.returns
returns c =
    let end : List ℕ = drop 16 (bytes1 c.args.c1) in
    let e : take 4 (drop 16 c.to_bytes-control.result) ≡ drop 16 (bytes1 c.args.c1) =
    ap (λ (t : List ℕ). take 4 (drop 16 t)) c.to_bytes-control.ensures ∙ bytes1_end c.args.c1 in
    let one : length (take 4 (drop 16 c.to_bytes-control.result)) ≡ 4 = ap length e ∙ length-bytes1_end c.args.c1 in
    let two : length c.to_bytes.result ≡ 16 = ap length c.to_bytes.ensures ∙ length-bytes2 c.args.c2 in
    let b1 : take 8232 c.put.new.block ≡ take 8228 c.args.block.now ++ end =
    ap (λ (n : ℕ). take (8228 + n) c.put.new.block) (sym one) ∙ c.put.ensures
    ∙ ap (λ (t : List ℕ). take 8228 c.args.block.now ++ t) e in
    let b2 : take 8248 c.put-2.new.block ≡ take 8232 c.put.new.block ++ bytes2 c.args.c2 =
    ap (λ (n : ℕ). take (8232 + n) c.put-2.new.block) (sym two) ∙ c.put-2.ensures
    ∙ ap (λ (t : List ℕ). take 8232 c.put.new.block ++ t) c.to_bytes.ensures in
    c.seal_crc.ensures
    ∙ ap sealed (b2 ∙ ap (λ (t : List ℕ). t ++ bytes2 c.args.c2) b1 ∙ append_assoc (take 8228 c.args.block.now) end (bytes2 c.args.c2))

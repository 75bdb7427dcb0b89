-- The zeros stand where the Data Field stood. Assumes nothing.
use Rattle.std.proofs.Common.{◌≡◌, ℕ, List, length, take, ap, ◌∙◌, arith, length-take}
use Rattle.std.proofs.lemmas.List.{take_at}
use Rattle.block.specs.Block.{zeros, field_block}
use Rattle.block.proofs.Sealing.{zeros_are}
use Rattle.block.proofs.seal.seal_zeros.Goals as goal

pub returns : goal.returns
returns c =
    let l : length (take 8208 c.args.block.now) ≡ 8208 = simp length-take (omega arith) in
    let z : c.fill.new.self ≡ zeros 8208 =
    c.fill.ensures.after (λ y e. e) ∙ zeros_are (length (take 8208 c.args.block.now)) ∙ ap zeros l in
    c.seal_field.ensures
    ∙ ap (λ (t : List ℕ). field_block t c.args.c1 c.args.c2) (take_at c.fill.new.self _ 8208 (c.fill.ensures.len ∙ l) ∙ z)

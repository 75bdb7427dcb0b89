-- A fold of exclusive-or is the total. Assumes nothing.
use Rattle.std.proofs.Common.{◌≡◌, fold, ◌∙◌, rules, bit_xor}
use Rattle.std.proofs.iter.runs.Made.{chains}
use Rattle.codes.proofs.Folding.{total_folded}
use Rattle.codes.proofs.parity.xor.Goals as goal

pub returns : goal.returns
returns c =
    let e : c.fold.result ≡ fold (λ a x. bit_xor a x) 0 c.args.words.now = search (rules, chains) in
    e ∙ total_folded (λ x. x) c.args.words.now 0

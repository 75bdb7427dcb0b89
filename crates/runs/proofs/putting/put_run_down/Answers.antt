-- Putting joined blocks, the top place first, lays them over the places. Assumes nothing.
use Rattle.std.proofs.Common.{◌/◌, length, sym, ◌∙◌, arith, rules}
use Rattle.cards.specs.Content.{block_len}
use Rattle.runs.specs.Runs.{blocks}
use Rattle.runs.proofs.BlockLaws.{length-blocks, length-chunks, run_within}
use Rattle.runs.proofs.TurnLaws.{puts_chunk, laid_down}
use Rattle.runs.proofs.putting.put_run_down.Goals as goal

pub returns-clause-card : goal.returns-clause-card
returns-clause-card g c =
    let cs = g.C.Card.contents c.args.card.now in
    let bytes = c.args.bytes.now in
    let n = length bytes / block_len in
    let cut = c.in_ok-blocks.ensures.1 in
    let l = length-chunks bytes n _ cut in
    let w = run_within (length cs) c.args.start (length bytes) c.in_ok-blocks.ensures.0 in
    laid_down cs (blocks bytes n) c.args.start _ _ _ (length-blocks bytes n ∙ sym l) (omega arith) c.put_in_turns.ensures
    (λ was i then low r. puts_chunk bytes n _ _ _ was then cut (omega arith) (omega arith) (search rules))
    ∙ search rules

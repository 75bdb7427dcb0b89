-- Putting in turns takes the places from what they held to what they hold. Assumes nothing.
use Rattle.std.proofs.Common.{sym, subst, rules}
use Rattle.std.specs.List.{FoldsTo}
use Rattle.std.proofs.lemmas.Fn.{FoldsTo-push}
use Rattle.runs.specs.Turns.{PutInTurn}
use Rattle.runs.proofs.BlockLaws.{counting_more}
use Rattle.runs.proofs.putting.put_in_turns.Goals as goal

pub loop-i-preserved : goal.loop-i-preserved
loop-i-preserved g c =
    let R = PutInTurn (λ i put. g.F.Fn.post c.args.turn (i, tt) put) in
    let before = g.C.Card.contents c.args.card.now in
    let after = g.C.Card.contents c.put.new.self in
    subst (λ z. FoldsTo R before z after) (sym (counting_more c.loop-i.i))
    (FoldsTo-push R before _ _ c.loop-i.i after c.loop-i.invariant (c.turn-place.result, search rules, search rules))

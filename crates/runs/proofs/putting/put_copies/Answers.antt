-- Putting the same block in turns lays copies of it over the places. Assumes nothing.
use Rattle.std.proofs.Common.{◌+◌, ◌≤◌, length, replicate, ◌∙◌, rules}
use Rattle.std.proofs.lemmas.List.{get_or-replicate, length-replicate}
use Rattle.cards.specs.Content.{block, lost}
use Rattle.runs.proofs.TurnLaws.{laid_up}
use Rattle.runs.proofs.putting.put_copies.Goals as goal

pub returns-clause-card : goal.returns-clause-card
returns-clause-card g c =
    let cs = g.C.Card.contents c.args.card.now in
    let ys = replicate c.args.count (block c.args.body.now) in
    let h : c.args.start + c.args.count ≤ length cs = search rules in
    laid_up cs ys c.args.start c.args.count _ _ (length-replicate c.args.count (block c.args.body.now)) h
    c.put_in_turns.ensures
    (λ was i then l r. record {
      bytes = c.args.body.now;
      sized = search rules;
      is = get_or-replicate c.args.count i (block c.args.body.now) lost l;
      put = search rules;
    })
    ∙ search rules

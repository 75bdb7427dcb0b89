-- A place behind the last one gives zeros. Assumes nothing.
use Rattle.std.proofs.Common.{◌+◌, replicate, sym, ap, ◌∙◌, arith}
use Rattle.std.proofs.lemmas.List.{get_or_past}
use Rattle.cards.specs.Content.{lost, bytes_of}
use Rattle.runs.proofs.getting.fetch.Goals as goal

pub returns-else-index-saturating_sub : goal.returns-else-index-saturating_sub
returns-else-index-saturating_sub g c =
    c.fill.ensures.after (λ y e. e) ∙ ap (λ z. replicate z 0) c.requires
    ∙ sym (ap bytes_of (get_or_past (g.C.Card.contents c.args.card.now) (c.args.start + c.args.index) lost
    (omega arith)))

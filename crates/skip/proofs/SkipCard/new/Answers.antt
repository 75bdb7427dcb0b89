-- The places of a new skip card are the unlisted ones. Assumes nothing.
use Rattle.std.proofs.Common.{length, ap, ◌∙◌}
use Rattle.skip.specs.Skipped.{skipped}
use Rattle.skip.proofs.ListLaws.{lawful_from_granted}
use Rattle.skip.proofs.SparedLaws.{skipped_is_spared}
use Rattle.skip.proofs.SkipCard.new.Goals as goal

pub returns-clause-places : goal.returns-clause-places
returns-clause-places g c =
    let cs = g.C.Card.contents c.args.card in
    ap (λ z. skipped z cs) c.new.ensures
    ∙ skipped_is_spared c.args.list.now cs (lawful_from_granted (length cs) c.args.list.now c.requires)

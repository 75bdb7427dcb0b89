-- What a strike of a strip card leaves at its places. Assumes nothing.
use Rattle.std.proofs.Common.{ap, ◌∙◌}
use Rattle.cards.specs.Rows.{rows}
use Rattle.cards.proofs.RowLaws.{rows-strike}
use Rattle.cards.proofs.strip.StripCardCard.strike.Goals as goal

pub returns-clause-card : goal.returns-clause-card
returns-clause-card c = ap rows c.strike_row.ensures.memory ∙ rows-strike c.args.self.now.mem.now c.args.place

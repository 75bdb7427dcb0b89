-- What a put of a strip card leaves at its places. Assumes nothing.
use Rattle.std.proofs.Common.{ap, ◌∙◌}
use Rattle.cards.specs.Rows.{rows}
use Rattle.cards.proofs.RowLaws.{rows-put}
use Rattle.cards.proofs.strip.StripCardCard.put.Goals as goal

pub returns-clause-card : goal.returns-clause-card
returns-clause-card c = ap rows c.put_row.ensures.memory ∙ rows-put c.args.self.now.mem.now c.args.place c.args.block.now

-- The places of a strip card are the rows of its memory. Assumes nothing.
use Rattle.std.proofs.Common.{sym, ◌∙◌}
use Rattle.cards.proofs.RowLaws.{length-rows}
use Rattle.cards.proofs.strip.StripCardCard.places.Goals as goal

pub returns : goal.returns
returns c = c.row_count.ensures ∙ sym (length-rows c.args.self.now.mem.now)

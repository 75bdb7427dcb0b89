-- The arrays that the bytes are cut into are their blocks. Assumes nothing.
use Rattle.std.proofs.Common.{ap, ◌∙◌, map, rules}
use Rattle.cards.specs.Content.{block}
use Rattle.runs.proofs.BlockLaws.{chunks_are_blocks}
use Rattle.runs.proofs.putting.blocks_of.Goals as goal

pub returns : goal.returns
returns g c = (search rules, ap (map block) c.as_chunks.ensures.front ∙ chunks_are_blocks _ _, search rules)

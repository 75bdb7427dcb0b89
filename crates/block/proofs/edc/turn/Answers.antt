-- Rotating is turning. Assumes nothing.
use Rattle.std.proofs.Common.{◌∙◌, arith}
use Rattle.block.proofs.EdcLaws.{rotated}
use Rattle.block.proofs.edc.turn.Goals as goal

pub returns : goal.returns
returns c = c.rotate_left.ensures ∙ rotated c.args.word (omega arith)

-- Every block that is made is sound and gives back what it was made of. Assumes nothing.
use Rattle.block.proofs.MadeField.{data_blocks_made, end_blocks_made}
use Rattle.block.proofs.MadeCheck.{check_blocks_made}
use Rattle.block.proofs.laws.blocks_stand.Goals as goal

pub returns : goal.returns
returns c = record { «data» = data_blocks_made; check = check_blocks_made; end = end_blocks_made }

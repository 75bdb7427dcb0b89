-- Control fields go into their bytes and come out again. Assumes nothing.
use Rattle.block.proofs.BlockTypes.{number_again, type_again}
use Rattle.block.proofs.ControlLaws.{control1_decodes, control1_encodes, control2_decodes, control2_encodes}
use Rattle.block.proofs.laws.controls_stand.Goals as goal

pub returns : goal.returns
returns c = record { types = (number_again, type_again); control1 = (control1_decodes, control1_encodes); control2 = (control2_decodes, control2_encodes) }

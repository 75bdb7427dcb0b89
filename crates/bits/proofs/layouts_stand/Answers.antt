-- Fields go into bytes and come out again. Assumes nothing.
use Rattle.bits.proofs.BitLaws.{decode_narrows, decode_encode, encode_decode}
use Rattle.bits.proofs.layouts_stand.Goals as goal

pub returns : goal.returns
returns c = record { narrows = decode_narrows; decodes = decode_encode; encodes = encode_decode }

-- The groups of bytes are those of the field. Assumes nothing.
use Rattle.std.proofs.Common.{sym, arith}
use Rattle.block.proofs.ControlBytes.{bytes2_are}
use Rattle.block.proofs.control2.Control2Layout16.to_bytes.Goals as goal

pub returns : goal.returns
returns c =
    let all = bytes2_are c.args.self c.head.result c.track_byte-k.result c.head.ensures c.track_byte-k.ensures
    c.track_byte-k.type_inv (omega arith) in
    simp (c.to_be_bytes.ensures, c.to_be_bytes-2.ensures, c.to_be_bytes-3.ensures) (sym all)

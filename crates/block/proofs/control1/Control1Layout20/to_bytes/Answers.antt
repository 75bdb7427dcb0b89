-- The groups of bytes are those of the field. Assumes nothing.
use Rattle.std.proofs.Common.{sym, arith}
use Rattle.block.proofs.ControlBytes.{bytes1_are}
use Rattle.block.proofs.control1.Control1Layout20.to_bytes.Goals as goal

pub returns : goal.returns
returns c =
    let all = bytes1_are c.args.self c.head.result c.kind_byte-k.result c.head.ensures c.kind_byte-k.ensures
    c.kind_byte-k.type_inv (omega arith) c.file_marks.result c.file_marks.ensures in
    simp (
      c.to_be_bytes.ensures,
      c.to_be_bytes-2.ensures,
      c.to_be_bytes-3.ensures,
      c.to_be_bytes-4.ensures,
      c.to_be_bytes-5.ensures,
      c.to_be_bytes-6.ensures,
    ) (sym all)

-- A byte by its top eight bits: one look into the first table, and the rest moved up. Assumes nothing.
use Rattle.std.proofs.Common.{◌*◌, ◌%◌, ◌^◌, sym, ap, ◌∙◌, arith}
use lib.Bits.{bit_xor}
use Rattle.crc.specs.Crc.{crc_more}
use Rattle.crc.proofs.Steps.{byte_by_top}
use Rattle.crc.proofs.after_byte.Goals as goal

pub returns : goal.returns
unfolding crc_more
returns c =
    ap (bit_xor (c.args.register * 256 % 2 ^ 64)) c.entry.ensures
    ∙ sym (byte_by_top c.args.register c.args.byte (omega (arith, c.ranges.register)))

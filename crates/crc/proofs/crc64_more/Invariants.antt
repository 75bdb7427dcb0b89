-- The register and the chunks that are left give what the start and all the bytes give. Assumes nothing.
use Rattle.std.proofs.Common.{◌≡◌, ◌++◌, drop}
use Rattle.bits.proofs.Chunks.{joined}
use Rattle.crc.specs.Crc.{crc_more}
use Rattle.crc.proofs.crc64_more.Given as goal

abbrev pub invariant-loop-eight : goal.invariant-loop-eight
invariant-loop-eight l = crc_more l.register (joined (drop l.eight-index l.eights) ++ l.rest) ≡ crc_more l.start l.bytes

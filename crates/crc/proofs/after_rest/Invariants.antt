-- The register and the bytes that are left give what the start and all the bytes give. Assumes nothing.
use Rattle.std.proofs.Common.{◌≡◌, drop}
use Rattle.crc.specs.Crc.{crc_more}
use Rattle.crc.proofs.after_rest.Given as goal

abbrev pub invariant-loop-byte : goal.invariant-loop-byte
invariant-loop-byte l = crc_more l.register (drop l.byte-index l.rest) ≡ crc_more l.start l.rest

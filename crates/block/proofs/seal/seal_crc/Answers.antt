-- The CRC's eight bytes close the block. Assumes nothing.
use Rattle.std.proofs.Common.{◌≤◌, length, take, ap, arith}
use Rattle.block.proofs.Sealing.{sealed_is}
use Rattle.block.proofs.seal.seal_crc.Goals as goal

pub returns : goal.returns
returns c =
    let h : length c.put.new.block ≤ 8256 = omega (arith, c.put.array_long) in
    sealed_is (take 8248 c.args.block.now) c.put.new.block c.to_be_bytes-crc.result c.crc64.result h
    c.crc64.ensures (ap length c.to_be_bytes-crc.ensures) c.to_be_bytes-crc.ensures c.put.ensures

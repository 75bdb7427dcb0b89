-- What stands before the bytes stays. Assumes nothing.
use Rattle.std.proofs.Common.{rules}
use Rattle.std.proofs.lemmas.Slice.{overwrites}
use Rattle.block.proofs.seal.put.Goals as goal

pub returns : goal.returns
returns c = search (rules, overwrites)

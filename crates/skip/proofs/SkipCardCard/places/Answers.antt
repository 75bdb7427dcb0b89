-- The places of a skip card are those below less the listed ones. Assumes nothing.
use Rattle.std.proofs.Common.{arith}
use Rattle.skip.proofs.SkipLaws.{length-skipped}
use Rattle.skip.proofs.SkipCardCard.places.Goals as goal

pub returns : goal.returns
returns g c = let n = length-skipped c.args.self.now.bad (g.C.Card.contents c.args.self.now.card) in omega arith

-- A skip card with a lawful list has exactly the unlisted places. Assumes nothing.
use Rattle.skip.proofs.SparedLaws.{skips_the_listed}
use Rattle.skip.proofs.skipping_stands.Goals as goal

pub returns : goal.returns
returns c = skips_the_listed

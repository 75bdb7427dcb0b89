-- Exactly the lawful lists are granted. Assumes nothing.
use Rattle.skip.proofs.ListLaws.{grants_lawful_lists}
use Rattle.skip.proofs.list.judgement_stands.Goals as goal

pub returns : goal.returns
returns c = grants_lawful_lists

-- MAP entries go into their bytes and come out again. Assumes nothing.
use Rattle.pages.proofs.PageTypes.{number_again, type_again}
use Rattle.pages.proofs.EntryLaws.{entry_decodes, entry_encodes}
use Rattle.pages.proofs.laws.entries_stand.Goals as goal

pub returns : goal.returns
returns c = record { types = (number_again, type_again); decodes = entry_decodes; encodes = entry_encodes }

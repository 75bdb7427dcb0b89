-- The groups of bytes are those of the entry. Assumes nothing.
use Rattle.std.proofs.Common.{sym}
use Rattle.pages.proofs.EntryLaws.{entry_bytes_are}
use Rattle.pages.proofs.entry.EntryLayoutENTRY_LEN.to_bytes.Goals as goal

pub returns : goal.returns
returns c =
    let all = entry_bytes_are c.args.self c.flags.result c.flags.ensures in
    simp (c.to_be_bytes.ensures, c.to_be_bytes-2.ensures, c.to_be_bytes-3.ensures) (sym all)

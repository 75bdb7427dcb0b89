-- The groups of bytes hold the entry. Assumes nothing.
use Rattle.std.proofs.Common.{ℕ, ◌<◌, get_or, sym, ◌∙◌, arith, rules}
use Rattle.bits.proofs.Numbers.{value_two, value_four}
use Rattle.pages.proofs.EntryLaws.{entry_is}
use Rattle.pages.proofs.entry.EntryLayoutENTRY_LEN.read.Goals as goal

pub returns : goal.returns
returns c =
    let bs = c.args.bytes.now in
    let small : (q : ℕ) → get_or c.args.bytes.now q 0 < 256 = λ q. search rules in
    let all = sym (entry_is bs c.told-bytes c.from_be_bytes-flags.result c.from_be_bytes.result c.from_be_bytes-2.result
    (c.from_be_bytes-flags.ensures ∙ sym (value_two bs 0 small (omega arith)))
    (c.from_be_bytes.ensures ∙ sym (value_two bs 2 small (omega arith)))
    (c.from_be_bytes-2.ensures ∙ sym (value_four bs 4 small (omega arith)))
    c.from_be_bytes-flags.type_inv) in
    rw c.from.ensures all

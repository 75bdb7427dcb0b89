-- Eight bytes by eight looks into the tables. Assumes nothing.
use Rattle.std.proofs.Common.{◌≡◌, ℕ, length, sym, ap, ◌∙◌, ap₂, arith, rules}
use lib.Bits.{bit_xor}
use Rattle.bits.specs.Fields.{bytes, AllBytes}
use Rattle.bits.proofs.BitLaws.{all-bytes}
use Rattle.crc.specs.Crc.{crc}
use Rattle.crc.proofs.Eights.{word, taken, taken_is, more-word, crc_by_tables}
use Rattle.crc.proofs.after_eight.Goals as goal

pub returns : goal.returns
returns c =
    let w : ℕ = bit_xor c.args.register (word c.args.bytes) in
    let parts : c.to_be_bytes.result ≡ bytes 8 w =
    c.to_be_bytes.ensures
    ∙ ap (λ x. taken (bit_xor c.args.register x)) c.from_be_bytes.ensures ∙ taken_is w in
    let eight : length c.args.bytes ≡ 8 = search rules in
    let proper : AllBytes c.args.bytes = all-bytes c.args.bytes (λ k. search rules) in
    ap₂ bit_xor c.entry-5.ensures
    (ap₂ bit_xor c.entry-6.ensures
    (ap₂ bit_xor c.entry-7.ensures
    (ap₂ bit_xor c.entry-8.ensures
    (ap₂ bit_xor c.entry.ensures
    (ap₂ bit_xor c.entry-2.ensures (ap₂ bit_xor c.entry-3.ensures c.entry-4.ensures))))))
    ∙ sym (crc_by_tables c.to_be_bytes.result (ap length parts))
    ∙ ap crc parts
    ∙ sym (more-word c.args.register c.args.bytes (omega (arith, c.ranges.register)) proper eight)

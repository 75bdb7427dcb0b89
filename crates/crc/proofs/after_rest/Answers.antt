-- What is left of the bytes is taken in one by one. Assumes nothing.
use Rattle.std.proofs.Common.{◌+◌, drop, sym, ap, ◌∙◌}
use Rattle.std.proofs.lemmas.List.{at_drop_more, at_drop_all}
use Rattle.crc.specs.Crc.{crc_more}
use Rattle.crc.proofs.after_rest.Goals as goal

pub loop-byte-preserved : goal.loop-byte-preserved
unfolding crc_more
loop-byte-preserved c =
    ap (λ r. crc_more r (drop (c.loop-byte.byte-index + 1) c.args.rest.now)) c.after_byte-register.ensures
    ∙ sym (at_drop_more (crc_more c.loop-byte.register) c.args.rest.now c.loop-byte.byte-index 0
    c.loop-byte-test.true)
    ∙ c.loop-byte.invariant

pub returns : goal.returns
unfolding crc_more
returns c =
    sym (at_drop_all (crc_more c.loop-byte.register) c.args.rest.now c.loop-byte.byte-index
    c.loop-byte-test.false)
    ∙ c.loop-byte.invariant

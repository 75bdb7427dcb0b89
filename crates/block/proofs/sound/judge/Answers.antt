-- The CRC is judged first, then type and EDC. Assumes nothing.
use Rattle.std.proofs.Common.{Bool, ◌&&◌, sym, ap, ◌∙◌}
use Rattle.block.specs.declared.control1.Control1.{Control1}
use Rattle.block.specs.Block.{edc_agrees, sound_kind}
use Rattle.block.proofs.SoundLaws.{sound_by, unsound_by}
use Rattle.block.proofs.sound.judge.Goals as goal

pub returns-then-crc_agrees : goal.returns-then-crc_agrees
returns-then-crc_agrees c =
    ap (λ (x : Bool). x && c.kind_agrees.result) (sym c.if-crc_agrees.true)
    ∙ sound_by c.args.block.now c.crc_agrees.result c.kind_agrees.result c.crc_agrees.ensures
    (c.kind_agrees.ensures ∙ ap (λ (x : Control1). sound_kind x.kind (edc_agrees c.args.block.now)) c.control1_in.ensures)

pub returns-else-crc_agrees : goal.returns-else-crc_agrees
returns-else-crc_agrees c =
    c.if-crc_agrees.false ∙ sym (unsound_by c.args.block.now (sym c.if-crc_agrees.ensures))

-- The control fields of the three kinds of block that are made. Assumes nothing.
--
--   control1_with format kind mark object sequence entities back  Control Field 1 with these fields, and 0 in every other
--   data_control h               Control Field 1 of a data block
--   check_control entities back  Control Field 1 of a check block
--   end_control h                Control Field 1 of an end block; end_place h, its Control Field 2
use Rattle.std.specs.Prelude.{ℕ, false}
use Rattle.block.specs.declared.block_type.BlockType.{BlockType}
use Rattle.block.specs.declared.block_type.BlockType.TheVariants.{Data, End, Check}
use Rattle.block.specs.declared.control1.Control1.{Control1}
use Rattle.block.specs.declared.control2.Control2.{Control2}
use Rattle.block.specs.declared.header.DataHeader.{DataHeader}
use Rattle.block.specs.declared.header.EndHeader.{EndHeader}

abbrev pub control1_with : ℕ → BlockType → ℕ → ℕ → ℕ → ℕ → ℕ → Control1
control1_with format kind mark object sequence entities back = record {
  reserved = 0;
  format = format;
  mark = mark;
  compression = 0;
  object = object;
  sequence = sequence;
  file_mark_offset = 0;
  file_mark_number = 0;
  kind = kind;
  early_warning = false;
  entities = entities;
  back = back;
}

abbrev pub data_control : DataHeader → Control1
data_control h = control1_with 5 Data h.mark h.object h.sequence h.entities h.back

abbrev pub check_control : ℕ → ℕ → Control1
check_control entities back = control1_with 0 Check 0 0 0 entities back

abbrev pub end_control : EndHeader → Control1
end_control h = control1_with 5 End 0 0 0 0 h.back

abbrev pub end_place : EndHeader → Control2
end_place h = record {
  reserved = 0;
  offset = 15;
  first = 0;
  place = h.place;
  blocks = 0;
  starts = false;
  entity = 0;
  envelope = h.envelope;
  tag = h.tag;
  k = false;
  track = 0;
}

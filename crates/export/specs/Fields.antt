-- The fields of a data block as a C program hands them over. Assumes nothing.
--
--   header_from f   what they say in Control Field 1
--   place_from f    what they say in Control Field 2; reserved bits, K and track are ZERO
--   sealed_as b f   what the buffer b holds after its Data Field is sealed with them
use Rattle.std.specs.Prelude.{ℕ, false, List}
use Rattle.block.specs.Block.{data_field, data_block, made_of}
use Rattle.block.specs.declared.control2.Control2.{Control2}
use Rattle.block.specs.declared.header.DataHeader.{DataHeader}
use Rattle.export.specs.declared.DataFields.{DataFields}

abbrev pub header_from : DataFields → DataHeader
header_from f = record {
  mark = f.mark;
  object = f.object;
  sequence = f.sequence;
  entities = f.entities;
  back = f.back;
}

abbrev pub place_from : DataFields → Control2
place_from f = record {
  reserved = 0;
  offset = f.offset;
  first = f.first;
  place = f.place;
  blocks = f.blocks;
  starts = f.starts;
  entity = f.entity;
  envelope = f.envelope;
  tag = f.tag;
  k = false;
  track = 0;
}

abbrev pub sealed_as : List ℕ → DataFields → List ℕ
sealed_as b f = made_of b (data_block (data_field b) (header_from f) (place_from f))

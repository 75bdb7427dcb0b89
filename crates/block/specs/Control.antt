-- The two control fields as fields of bits. Assumes nothing.
--
--   widths1, widths2          the widths of the fields, in order
--   fields1 c, fields2 c      the fields of c, in the same order
--   bytes1 c, bytes2 c        Control Field 1 in 20 bytes, Control Field 2 in 16
--   control1_of, control2_of  the fields that such bytes hold
use Rattle.std.specs.Prelude.{◌≡◌, ℕ, List, [], ◌∷◌, length, ◌==◌, slice_index}
use Rattle.bits.specs.Fields.{encode, decode, bit, Within, AllBytes}
use Rattle.block.specs.BlockType.{number_of, type_of}
use Rattle.block.specs.declared.control1.Control1.{Control1}
use Rattle.block.specs.declared.control2.Control2.{Control2}

abbrev pub widths1 : List ℕ
widths1 = 26 ∷ 6 ∷ 24 ∷ 8 ∷ 32 ∷ 16 ∷ 4 ∷ 12 ∷ 3 ∷ 1 ∷ 4 ∷ 24 ∷ []

abbrev pub fields1 : Control1 → List ℕ
fields1 c =
    c.reserved ∷ c.format ∷ c.mark ∷ c.compression ∷ c.object ∷ c.sequence
    ∷ c.file_mark_offset ∷ c.file_mark_number ∷ number_of c.kind ∷ bit c.early_warning ∷ c.entities ∷ c.back ∷ []

unfoldable pub bytes1 : Control1 → List ℕ
bytes1 c = encode widths1 (fields1 c)

abbrev pub from_fields1 : List ℕ → Control1
from_fields1 f = record {
  reserved = slice_index f 0;
  format = slice_index f 1;
  mark = slice_index f 2;
  compression = slice_index f 3;
  object = slice_index f 4;
  sequence = slice_index f 5;
  file_mark_offset = slice_index f 6;
  file_mark_number = slice_index f 7;
  kind = type_of (slice_index f 8);
  early_warning = (slice_index f 9 == 1);
  entities = slice_index f 10;
  back = slice_index f 11;
}

unfoldable pub control1_of : List ℕ → Control1
control1_of bs = from_fields1 (decode widths1 bs)

abbrev pub widths2 : List ℕ
widths2 = 5 ∷ 5 ∷ 32 ∷ 24 ∷ 5 ∷ 1 ∷ 8 ∷ 16 ∷ 24 ∷ 1 ∷ 7 ∷ []

abbrev pub fields2 : Control2 → List ℕ
fields2 c =
    c.reserved ∷ c.offset ∷ c.first ∷ c.place ∷ c.blocks ∷ bit c.starts
    ∷ c.entity ∷ c.envelope ∷ c.tag ∷ bit c.k ∷ c.track ∷ []

unfoldable pub bytes2 : Control2 → List ℕ
bytes2 c = encode widths2 (fields2 c)

abbrev pub from_fields2 : List ℕ → Control2
from_fields2 f = record {
  reserved = slice_index f 0;
  offset = slice_index f 1;
  first = slice_index f 2;
  place = slice_index f 3;
  blocks = slice_index f 4;
  starts = (slice_index f 5 == 1);
  entity = slice_index f 6;
  envelope = slice_index f 7;
  tag = slice_index f 8;
  k = (slice_index f 9 == 1);
  track = slice_index f 10;
}

unfoldable pub control2_of : List ℕ → Control2
control2_of bs = from_fields2 (decode widths2 bs)

-- A control field within its widths comes back from its bytes, and bytes come back from the fields they hold.
abbrev pub Control1Decodes : Type 0
Control1Decodes = (c : Control1) → Within widths1 (fields1 c) → control1_of (bytes1 c) ≡ c

abbrev pub Control1Encodes : Type 0
Control1Encodes = (bs : List ℕ) → length bs ≡ 20 → AllBytes bs → bytes1 (control1_of bs) ≡ bs

abbrev pub Control2Decodes : Type 0
Control2Decodes = (c : Control2) → Within widths2 (fields2 c) → control2_of (bytes2 c) ≡ c

abbrev pub Control2Encodes : Type 0
Control2Encodes = (bs : List ℕ) → length bs ≡ 16 → AllBytes bs → bytes2 (control2_of bs) ≡ bs

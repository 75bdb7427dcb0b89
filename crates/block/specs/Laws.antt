-- What holds of every block that is made. Assumes nothing.
--
--   Made b c1 c2          b is a sound block of 8,256 bytes; control fields within their widths stand in it
--   DataBlocksMade        a data block is such a block and gives its Data Field back
--   EndBlocksMade         so does an end block, whose Data Field is zeros
--   CheckBlocksMade       a check block is sound and gives its covered bytes back, and what it keeps of Control Field 1
use Rattle.std.specs.Prelude.{◌≡◌, ℕ, ◌^◌, ◌<◌, true, List, length, take}
use Rattle.bits.specs.Fields.{Within, AllBytes}
use Rattle.block.specs.Control.{widths1, fields1, widths2, fields2}
use Rattle.block.specs.Made.{data_control, end_control, end_place}
use Rattle.block.specs.Block.{zeros, data_field, control1_at, control2_at, data_block, end_block, check_block, sound}
use Rattle.block.specs.declared.block_type.BlockType.TheVariants.{Check}
use Rattle.block.specs.declared.control1.Control1.{Control1}
use Rattle.block.specs.declared.control2.Control2.{Control2}
use Rattle.block.specs.declared.header.DataHeader.{DataHeader}
use Rattle.block.specs.declared.header.EndHeader.{EndHeader}

pub record Made (b : List ℕ) (c1 : Control1) (c2 : Control2) : Type 0 where
  pub long : length b ≡ 8256
  pub proper : AllBytes b
  pub judged : sound b ≡ true
  pub kind : (control1_at b).kind ≡ c1.kind
  pub first : Within widths1 (fields1 c1) → control1_at b ≡ c1
  pub second : Within widths2 (fields2 c2) → control2_at b ≡ c2

abbrev pub DataBlocksMade : Type 0
DataBlocksMade =
    (field : List ℕ) (h : DataHeader) (c2 : Control2) → length field ≡ 8208 → AllBytes field
    → Made (data_block field h c2) (data_control h) c2 × (data_field (data_block field h c2) ≡ field)

abbrev pub EndBlocksMade : Type 0
EndBlocksMade =
    (h : EndHeader) → Made (end_block h) (end_control h) (end_place h) × (data_field (end_block h) ≡ zeros 8208)

pub record CheckMade (b covered : List ℕ) (entities back : ℕ) (c2 : Control2) : Type 0 where
  pub long : length b ≡ 8256
  pub proper : AllBytes b
  pub judged : sound b ≡ true
  pub words : take 8228 b ≡ covered
  pub kind : (control1_at b).kind ≡ Check
  pub size : entities < 2 ^ 4 → (control1_at b).entities ≡ entities
  pub link : back < 2 ^ 24 → (control1_at b).back ≡ back
  pub second : Within widths2 (fields2 c2) → control2_at b ≡ c2

abbrev pub CheckBlocksMade : Type 0
CheckBlocksMade =
    (covered : List ℕ) (entities back : ℕ) (c2 : Control2) → length covered ≡ 8228 → AllBytes covered
    → CheckMade (check_block covered entities back c2) covered entities back c2

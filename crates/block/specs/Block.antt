-- The block of 8,256 bytes: its layout, how the three kinds are made, and when it is sound. Assumes nothing.
--
--   data_field b              bytes 0 to 8,207
--   zeros n                   n zero bytes
--   control1_at b             what Control Field 1 of b holds; control2_at b, Control Field 2
--   word_bytes w              a two-byte word, low byte first
--   sealed body               8,248 bytes with their CRC behind them
--   field_block field c1 c2   a block with a Data Field and its EDC
--   data_block, end_block     such a block of type data; the end block, whose Data Field is zeros
--   check_block words n k c2  a block of check words, of whose Control Field 1 only the last four bytes stand
--   sound b                   the CRC agrees, the type is known, and the EDC agrees where there is one
--   length_answer b x         x, or the refusal of a buffer b that is no block long
--   made_of b x               x in place of b, if b is a block long
use Rattle.std.specs.Prelude.{ℕ, ◌+◌, ◌*◌, ◌/◌, ◌%◌, Bool, true, false, cond, ◌&&◌, List, [], ◌∷◌, ◌++◌, length, take, drop, replicate, ◌==◌, slice_index}
use Rattle.refusal.specs.Tells.{Answer}
use Rattle.refusal.specs.Lengths.{of_length}
use Rattle.bits.specs.Fields.{bytes, value}
use Rattle.crc.specs.Crc.{crc}
use Rattle.block.specs.Control.{bytes1, control1_of, bytes2, control2_of}
use Rattle.block.specs.Edc.{edc}
use Rattle.block.specs.Made.{data_control, check_control, end_control, end_place}
use Rattle.block.specs.declared.block_type.BlockType.{BlockType}
use Rattle.block.specs.declared.block_type.BlockType.TheVariants.{Data, End, Check}
use Rattle.block.specs.declared.control1.Control1.{Control1}
use Rattle.block.specs.declared.control2.Control2.{Control2}
use Rattle.block.specs.declared.header.DataHeader.{DataHeader}
use Rattle.block.specs.declared.header.EndHeader.{EndHeader}

abbrev pub block_len : ℕ
block_len = 8256

abbrev pub field_len : ℕ
field_len = 8208

-- the bytes that the check words cover: Data Field, EDC, pad, and all of Control Field 1 but its last four bytes
abbrev pub covered_len : ℕ
covered_len = 8228

abbrev pub data_field : List ℕ → List ℕ
data_field b = take field_len b

unfoldable pub zeros : ℕ → List ℕ
zeros n = replicate n 0

abbrev pub control1_at : List ℕ → Control1
control1_at b = control1_of (take 20 (drop 8212 b))

abbrev pub control2_at : List ℕ → Control2
control2_at b = control2_of (take 16 (drop 8232 b))

-- ---- making

abbrev pub word_bytes : ℕ → List ℕ
word_bytes w = w % 256 ∷ w / 256 % 256 ∷ []

unfoldable pub sealed : List ℕ → List ℕ
sealed body = body ++ bytes 8 (crc body)

unfoldable pub field_block : List ℕ → Control1 → Control2 → List ℕ
field_block field c1 c2 = sealed (field ++ (word_bytes (edc field) ++ (0 ∷ 0 ∷ (bytes1 c1 ++ bytes2 c2))))

abbrev pub data_block : List ℕ → DataHeader → Control2 → List ℕ
data_block field h c2 = field_block field (data_control h) c2

abbrev pub end_block : EndHeader → List ℕ
end_block h = field_block (zeros field_len) (end_control h) (end_place h)

abbrev pub check_block : List ℕ → ℕ → ℕ → Control2 → List ℕ
check_block covered entities back c2 = sealed (covered ++ (drop 16 (bytes1 (check_control entities back)) ++ bytes2 c2))

-- ---- judging

abbrev pub crc_agrees : List ℕ → Bool
crc_agrees b = crc (take 8248 b) == value (take 8 (drop 8248 b))

abbrev pub edc_agrees : List ℕ → Bool
edc_agrees b = edc (data_field b) == slice_index b 8208 + slice_index b 8209 * 256

-- whether a block of this type may be sound, by whether its EDC agrees
abbrev pub sound_kind : BlockType → Bool → Bool
sound_kind t agrees = elim t [ Data ↦ agrees | End ↦ agrees | Check ↦ true | _ ↦ false ]

unfoldable pub sound : List ℕ → Bool
sound b = crc_agrees b && sound_kind (control1_at b).kind (edc_agrees b)

-- ---- answers

-- a block buffer of another length is refused with 1
abbrev pub length_answer : {A : Type 0} → List ℕ → A → Answer A
length_answer b x = of_length block_len (length b) x

-- what the buffer b holds after a call that makes x of it
abbrev pub made_of : List ℕ → List ℕ → List ℕ
made_of b x = cond (length b == block_len) x b

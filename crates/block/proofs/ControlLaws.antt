-- The control fields, as fields of bits, go into bytes and come out again. Assumes nothing.
use Rattle.std.proofs.Common.{◌≡◌, ℕ, ◌*◌, ◌/◌, ◌^◌, ◌<◌, [], ◌∷◌, length, get_or, take, drop, sym, refl, ap, ◌∙◌, mod-lt, lit<, arith, ◌%◌}
use Rattle.bits.specs.Fields.{encode, value, split, join, AllBytes}
use Rattle.block.specs.BlockType.{number_of, type_of}
use Rattle.block.proofs.BlockTypes.{number_again, type_again}
use Rattle.block.specs.Control.{
  widths1,
  fields1,
  from_fields1,
  bytes1,
  control1_of,
  widths2,
  fields2,
  from_fields2,
  bytes2,
  control2_of,
  Control1Decodes,
  Control1Encodes,
  Control2Decodes,
  Control2Encodes,
}
use Rattle.block.specs.declared.control1.Control1.{Control1}
use Rattle.block.specs.declared.control2.Control2.{Control2}
use Rattle.bits.proofs.BitLaws.{decode_encode, encode_decode, bytes_all, flag-bit, bit-flag}

control1-fields : (c : Control1) → number_of c.kind < 8 → from_fields1 (fields1 c) ≡ c
control1-fields c h = λ i. record {
  reserved = c.reserved;
  format = c.format;
  mark = c.mark;
  compression = c.compression;
  object = c.object;
  sequence = c.sequence;
  file_mark_offset = c.file_mark_offset;
  file_mark_number = c.file_mark_number;
  kind = type_again c.kind h i;
  early_warning = flag-bit c.early_warning i;
  entities = c.entities;
  back = c.back;
}

pub control1_decodes : Control1Decodes
unfolding bytes1 control1_of
control1_decodes c h =
    ap from_fields1 (decode_encode widths1 (fields1 c) 20 refl h) ∙ control1-fields c h.1.1.1.1.1.1.1.1.0

control2-fields : (c : Control2) → from_fields2 (fields2 c) ≡ c
control2-fields c = λ i. record {
  reserved = c.reserved;
  offset = c.offset;
  first = c.first;
  place = c.place;
  blocks = c.blocks;
  starts = flag-bit c.starts i;
  entity = c.entity;
  envelope = c.envelope;
  tag = c.tag;
  k = flag-bit c.k i;
  track = c.track;
}

pub control2_decodes : Control2Decodes
unfolding bytes2 control2_of
control2_decodes c h = ap from_fields2 (decode_encode widths2 (fields2 c) 16 refl h) ∙ control2-fields c

-- the fields of what bytes hold are those fields
fields1_back : (x : ℕ) → fields1 (from_fields1 (split widths1 x)) ≡ split widths1 x
fields1_back x =
    let again : f 8 % 8 ≡ f 8 = omega arith in
    let kept : number_of (type_of (f 8)) ≡ f 8 = number_again (f 8) ∙ again in
    λ i.
    f 0 ∷ f 1 ∷ f 2 ∷ f 3 ∷ f 4 ∷ f 5 ∷ f 6 ∷ f 7 ∷ kept i ∷ bit-flag (f 9) (mod-lt (x / 2 ^ 28) (lit< tt)) i ∷ f 10 ∷ f 11 ∷ []
  where
    f : ℕ → ℕ
    f n = get_or (split widths1 x) n 0

pub control1_encodes : Control1Encodes
unfolding bytes1 control1_of
control1_encodes bs l h =
    ap (encode widths1) (fields1_back (value bs)) ∙ encode_decode widths1 bs (ap (λ (n : ℕ). 8 * n) (sym l)) h

fields2_back : (x : ℕ) → fields2 (from_fields2 (split widths2 x)) ≡ split widths2 x
fields2_back x = λ i.
    f 0 ∷ f 1 ∷ f 2 ∷ f 3 ∷ f 4 ∷ bit-flag (f 5) (mod-lt (x / 2 ^ 56) (lit< tt)) i ∷ f 6 ∷ f 7 ∷ f 8
    ∷ bit-flag (f 9) (mod-lt (x / 2 ^ 7) (lit< tt)) i ∷ f 10 ∷ []
  where
    f : ℕ → ℕ
    f n = get_or (split widths2 x) n 0

pub control2_encodes : Control2Encodes
unfolding bytes2 control2_of
control2_encodes bs l h =
    ap (encode widths2) (fields2_back (value bs)) ∙ encode_decode widths2 bs (ap (λ (n : ℕ). 8 * n) (sym l)) h

pub length-bytes1 : (c : Control1) → length (bytes1 c) ≡ 20
unfolding bytes1
length-bytes1 c = refl

pub length-bytes2 : (c : Control2) → length (bytes2 c) ≡ 16
unfolding bytes2
length-bytes2 c = refl

pub bytes1_end : (c : Control1) → take 4 (drop 16 (bytes1 c)) ≡ drop 16 (bytes1 c)
unfolding bytes1
bytes1_end c = refl

pub length-bytes1_end : (c : Control1) → length (drop 16 (bytes1 c)) ≡ 4
unfolding bytes1
length-bytes1_end c = refl

pub bytes1-proper : (c : Control1) → AllBytes (bytes1 c)
unfolding bytes1
bytes1-proper c = bytes_all 20 (join widths1 (fields1 c))

pub bytes2-proper : (c : Control2) → AllBytes (bytes2 c)
unfolding bytes2
bytes2-proper c = bytes_all 16 (join widths2 (fields2 c))

pub bytes2-whole : (c : Control2) → take 16 (bytes2 c) ≡ bytes2 c
unfolding bytes2
bytes2-whole c = refl

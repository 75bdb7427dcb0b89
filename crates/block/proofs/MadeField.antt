-- A block made of a Data Field and two control fields is sound and gives all three back. Assumes nothing.
use Rattle.std.proofs.Common.{◌≡◌, ℕ, zero, suc, ◌+◌, ◌*◌, ◌/◌, ◌%◌, ◌<◌, true, List, [], ◌∷◌, ◌++◌, length, get_or, take, drop, sym, refl, ap, ◌∙◌, subst, ap₂, mod-lt, arith, lit<, length-append, eq-eqb}
use lib.ListN.{length-replicate}
use Rattle.std.proofs.lemmas.List.{take_at, drop_at, append_assoc, get_or-drop, get_or-take}
use Rattle.bits.specs.Fields.{AllBytes}
use Rattle.bits.proofs.BitLaws.{decode_narrows}
use Rattle.block.specs.BlockType.{number_of}
use Rattle.block.proofs.BlockTypes.{type_low, type_again}
use Rattle.block.specs.Control.{widths1, fields1, from_fields1, bytes1, control1_of, bytes2, control2_of}
use Rattle.block.specs.Edc.{edc}
use Rattle.block.specs.Block.{zeros, word_bytes, sealed, field_block, data_field, control1_at, crc_agrees, edc_agrees, sound_kind}
use Rattle.block.specs.Made.{data_control, end_control, end_place}
use Rattle.block.specs.Laws.{Made, DataBlocksMade, EndBlocksMade}
use Rattle.block.specs.declared.control1.Control1.{Control1}
use Rattle.block.specs.declared.control2.Control2.{Control2}
use Rattle.block.proofs.ControlLaws.{control1_decodes, control2_decodes, length-bytes1, length-bytes2, bytes2-whole, bytes1-proper, bytes2-proper}
use Rattle.block.proofs.EdcBounds.{edc-lt}
use Rattle.block.proofs.Sealed.{all_append, sealed-long, sealed-proper, sealed-agrees, sealed-part}
use Rattle.block.proofs.SoundLaws.{sound_by}

word_sum : (w : ℕ) → w < 65536 → w ≡ w % 256 + w / 256 % 256 * 256
word_sum w h = omega arith

-- the type that Control Field 1 keeps
kind-kept : (c : Control1) → number_of c.kind < 8 → (control1_of (bytes1 c)).kind ≡ c.kind
unfolding bytes1 control1_of
kind-kept c h =
    ap (λ (f : List ℕ). (from_fields1 f).kind) (decode_narrows widths1 (fields1 c) 20 refl refl)
    ∙ type_low (number_of c.kind) ∙ type_again c.kind h

module _ (field : List ℕ) (c1 : Control1) (c2 : Control2) (l : length field ≡ 8208) where
  edge : List ℕ
  edge = word_bytes (edc field) ++ (0 ∷ 0 ∷ [])

  front : List ℕ
  front = field ++ edge

  body : List ℕ
  body = field ++ (word_bytes (edc field) ++ (0 ∷ 0 ∷ (bytes1 c1 ++ bytes2 c2)))

  block_is : field_block field c1 c2 ≡ sealed body
  unfolding field_block body
  block_is = refl

  front_length : length front ≡ 8212
  unfolding front edge
  front_length = length-append field (word_bytes (edc field) ++ (0 ∷ 0 ∷ [])) ∙ ap (λ (n : ℕ). n + 4) l

  body_is : body ≡ front ++ (bytes1 c1 ++ bytes2 c2)
  unfolding body front edge
  body_is = sym (append_assoc field (word_bytes (edc field) ++ (0 ∷ 0 ∷ [])) (bytes1 c1 ++ bytes2 c2))

  body-length : length body ≡ 8248
  body-length =
      ap length body_is ∙ length-append front (bytes1 c1 ++ bytes2 c2)
      ∙ ap₂ ◌+◌ front_length (length-append (bytes1 c1) (bytes2 c2) ∙ ap₂ ◌+◌ (length-bytes1 c1) (length-bytes2 c2))

  pub field_back : data_field (field_block field c1 c2) ≡ field
  unfolding body
  field_back =
      ap (take 8208) block_is ∙ sealed-part body body-length 0 8208 (omega arith)
      ∙ take_at field (word_bytes (edc field) ++ (0 ∷ 0 ∷ (bytes1 c1 ++ bytes2 c2))) 8208 l

  behind_front : drop 8212 body ≡ bytes1 c1 ++ bytes2 c2
  behind_front = ap (drop 8212) body_is ∙ drop_at front (bytes1 c1 ++ bytes2 c2) 8212 front_length

  first-bytes : take 20 (drop 8212 (field_block field c1 c2)) ≡ bytes1 c1
  first-bytes =
      ap (λ (t : List ℕ). take 20 (drop 8212 t)) block_is ∙ sealed-part body body-length 8212 20 (omega arith)
      ∙ ap (take 20) behind_front ∙ take_at (bytes1 c1) (bytes2 c2) 20 (length-bytes1 c1)

  behind_first : drop 8232 body ≡ bytes2 c2
  behind_first =
      ap (drop 8232) (body_is ∙ sym (append_assoc front (bytes1 c1) (bytes2 c2)))
      ∙ drop_at (front ++ bytes1 c1) (bytes2 c2) 8232 (length-append front (bytes1 c1) ∙ ap₂ ◌+◌ front_length (length-bytes1 c1))

  second-bytes : take 16 (drop 8232 (field_block field c1 c2)) ≡ bytes2 c2
  second-bytes =
      ap (λ (t : List ℕ). take 16 (drop 8232 t)) block_is ∙ sealed-part body body-length 8232 16 (omega arith)
      ∙ ap (take 16) behind_first ∙ bytes2-whole c2

  edc-bytes : take 2 (drop 8208 (field_block field c1 c2)) ≡ word_bytes (edc field)
  unfolding body
  edc-bytes =
      ap (λ (t : List ℕ). take 2 (drop 8208 t)) block_is ∙ sealed-part body body-length 8208 2 (omega arith)
      ∙ ap (take 2) (drop_at field (word_bytes (edc field) ++ (0 ∷ 0 ∷ (bytes1 c1 ++ bytes2 c2))) 8208 l)

  -- an element of two is an element of the list they stand in
  edc_at : (k : ℕ) → k < 2 → get_or (field_block field c1 c2) (8208 + k) 0 ≡ get_or (word_bytes (edc field)) k 0
  edc_at k h =
      sym (get_or-drop 8208 (field_block field c1 c2) k 0) ∙ sym (get_or-take 2 (drop 8208 (field_block field c1 c2)) k 0 h)
      ∙ ap (λ (t : List ℕ). get_or t k 0) edc-bytes

  edc_back : AllBytes field → edc_agrees (field_block field c1 c2) ≡ true
  edc_back a =
      eq-eqb (edc (data_field (field_block field c1 c2))) (get_or (field_block field c1 c2) 8208 0 + get_or (field_block field c1 c2) 8209 0 * 256)
      (ap edc field_back ∙ word_sum (edc field) (edc-lt field a)
      ∙ sym (ap₂ (λ (x y : ℕ). x + y * 256) (edc_at 0 (omega arith)) (edc_at 1 (omega arith))))

  body-proper : AllBytes field → AllBytes body
  unfolding body
  body-proper a =
      all_append field (word_bytes (edc field) ++ (0 ∷ 0 ∷ (bytes1 c1 ++ bytes2 c2))) a (
        mod-lt (edc field) (lit< tt),
        (
          mod-lt (edc field / 256) (lit< tt),
          (
            lit< tt,
            (
              lit< tt,
              all_append (bytes1 c1) (bytes2 c2) (bytes1-proper c1) (bytes2-proper c2),
            ),
          ),
        ),
      )

  pub field-made : AllBytes field → number_of c1.kind < 8 → sound_kind c1.kind true ≡ true → Made (field_block field c1 c2) c1 c2
  field-made a h k =
      let kept : (control1_at (field_block field c1 c2)).kind ≡ c1.kind = ap (λ (t : List ℕ). (control1_of t).kind) first-bytes ∙ kind-kept c1 h in
      record {
        long = ap length block_is ∙ sealed-long body body-length;
        proper = subst AllBytes (sym block_is) (sealed-proper body body-length (body-proper a));
        judged =
            sym (sound_by (field_block field c1 c2) true true
            (sym (ap crc_agrees block_is ∙ sealed-agrees body body-length))
            (sym (ap₂ sound_kind kept (edc_back a) ∙ k)));
        kind = kept;
        first = λ w. ap control1_of first-bytes ∙ control1_decodes c1 w;
        second = λ w. ap control2_of second-bytes ∙ control2_decodes c2 w;
      }

pub data_blocks_made : DataBlocksMade
data_blocks_made field h c2 l a =
    (field-made field (data_control h) c2 l a (lit< tt) refl, field_back field (data_control h) c2 l)

zeros-proper : (n : ℕ) → AllBytes (zeros n)
unfolding zeros
zeros-proper zero = tt
zeros-proper (suc n) = (lit< tt, zeros-proper n)

length-zeros : (n : ℕ) → length (zeros n) ≡ n
unfolding zeros
length-zeros n = length-replicate n 0

pub end_blocks_made : EndBlocksMade
end_blocks_made h = (
  field-made (zeros 8208) (end_control h) (end_place h) (length-zeros 8208) (zeros-proper 8208) (lit< tt) refl,
  field_back (zeros 8208) (end_control h) (end_place h) (length-zeros 8208),
)

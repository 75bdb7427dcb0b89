-- A check block is sound and gives back its words and what it keeps of the control fields. Assumes nothing.
use Rattle.std.proofs.Common.{◌≡◌, ℕ, ◌+◌, ◌-◌, ◌%◌, ◌^◌, ◌≤◌, true, List, [], ◌∷◌, ◌++◌, length, take, drop, sym, refl, ap, ◌∙◌, subst, ap₂, mod-eq_of_lt, arith, length-append, length-drop}
use Rattle.std.proofs.lemmas.List.{take_at, drop_at, append_assoc, drop-append-le}
use Rattle.bits.specs.Fields.{AllBytes, decode, encode, bit}
use Rattle.bits.proofs.BitLaws.{decode_narrows}
use Rattle.bits.proofs.Groups.{group, decode-append}
use Rattle.block.specs.BlockType.{number_of}
use Rattle.block.specs.declared.block_type.BlockType.{BlockType}
use Rattle.block.specs.declared.block_type.BlockType.TheVariants.{Check}
use Rattle.block.specs.Control.{widths1, fields1, from_fields1, bytes1, control1_of, bytes2, control2_of}
use Rattle.block.specs.Made.{check_control}
use Rattle.block.specs.Block.{sealed, check_block, control1_at, crc_agrees, edc_agrees, sound_kind}
use Rattle.block.specs.Laws.{CheckMade, CheckBlocksMade}
use Rattle.block.specs.declared.control1.Control1.{Control1}
use Rattle.block.specs.declared.control2.Control2.{Control2}
use Rattle.block.proofs.ControlLaws.{control2_decodes, length-bytes1_end, length-bytes2, bytes2-whole, bytes1-proper, bytes2-proper}
use Rattle.block.proofs.Sealed.{all_append, all_drop, sealed-long, sealed-proper, sealed-agrees, sealed-part}
use Rattle.block.proofs.SoundLaws.{sound_by}

-- the last four fields of Control Field 1 stand in its last four bytes
end_is : (c : Control1) → drop 16 (bytes1 c) ≡ encode (drop 8 widths1) (drop 8 (fields1 c))
unfolding bytes1
end_is c =
    ap (drop 16) (group 8 16 4 widths1 (fields1 c) refl refl refl refl refl)
    ∙ drop_at (encode (take 8 widths1) (take 8 (fields1 c))) (encode (drop 8 widths1) (drop 8 (fields1 c))) 16 refl

-- whatever stands before them
end-fields : (xs : List ℕ) (c : Control1)
    → control1_of (xs ++ drop 16 (bytes1 c))
    ≡ from_fields1 (decode (take 8 widths1) xs ++ (number_of c.kind % 2 ^ 3 ∷ bit c.early_warning % 2 ∷ c.entities % 2 ^ 4 ∷ c.back % 2 ^ 24 ∷ []))
unfolding control1_of
end-fields xs c =
    ap from_fields1
    (ap (λ (t : List ℕ). decode widths1 (xs ++ t)) (end_is c)
    ∙ decode-append (take 8 widths1) (drop 8 widths1) xs (encode (drop 8 widths1) (drop 8 (fields1 c))) refl
    ∙ ap (λ (t : List ℕ). decode (take 8 widths1) xs ++ t) (decode_narrows (drop 8 widths1) (drop 8 (fields1 c)) 4 refl refl))

module _ (covered : List ℕ) (entities back : ℕ) (c2 : Control2) (l : length covered ≡ 8228) where
  end : List ℕ
  end = drop 16 (bytes1 (check_control entities back))

  body : List ℕ
  body = covered ++ (end ++ bytes2 c2)

  block_is : check_block covered entities back c2 ≡ sealed body
  unfolding body end
  block_is = refl

  end-length : length end ≡ 4
  unfolding end
  end-length = length-bytes1_end (check_control entities back)

  body-length : length body ≡ 8248
  unfolding body
  body-length =
      length-append covered (end ++ bytes2 c2) ∙ ap₂ ◌+◌ l (length-append end (bytes2 c2) ∙ ap₂ ◌+◌ end-length (length-bytes2 c2))

  body-proper : AllBytes covered → AllBytes body
  unfolding body end
  body-proper a =
      all_append covered (end ++ bytes2 c2) a
      (all_append end (bytes2 c2) (all_drop 16 (bytes1 (check_control entities back)) (bytes1-proper (check_control entities back))) (bytes2-proper c2))

  words_back : take 8228 (check_block covered entities back c2) ≡ covered
  unfolding body
  words_back =
      ap (take 8228) block_is ∙ sealed-part body body-length 0 8228 (omega arith) ∙ take_at covered (end ++ bytes2 c2) 8228 l

  first-bytes : take 20 (drop 8212 (check_block covered entities back c2)) ≡ drop 8212 covered ++ end
  unfolding body
  first-bytes =
      let most : 8212 ≤ length covered = omega arith in
      let long : length (drop 8212 covered ++ end) ≡ 20 =
      length-append (drop 8212 covered) end ∙ ap₂ ◌+◌ (length-drop 8212 covered ∙ ap (λ (n : ℕ). n - 8212) l) end-length in
      ap (λ (t : List ℕ). take 20 (drop 8212 t)) block_is ∙ sealed-part body body-length 8212 20 (omega arith)
      ∙ ap (take 20) (drop-append-le 8212 covered (end ++ bytes2 c2) most ∙ sym (append_assoc (drop 8212 covered) end (bytes2 c2)))
      ∙ take_at (drop 8212 covered ++ end) (bytes2 c2) 20 long

  second-bytes : take 16 (drop 8232 (check_block covered entities back c2)) ≡ bytes2 c2
  unfolding body
  second-bytes =
      ap (λ (t : List ℕ). take 16 (drop 8232 t)) block_is ∙ sealed-part body body-length 8232 16 (omega arith)
      ∙ ap (λ (t : List ℕ). take 16 (drop 8232 t)) (sym (append_assoc covered end (bytes2 c2)))
      ∙ ap (take 16) (drop_at (covered ++ end) (bytes2 c2) 8232 (length-append covered end ∙ ap₂ ◌+◌ l end-length))
      ∙ bytes2-whole c2

  kept : control1_at (check_block covered entities back c2)
      ≡ from_fields1 (decode (take 8 widths1) (drop 8212 covered) ++ (5 ∷ 0 ∷ entities % 2 ^ 4 ∷ back % 2 ^ 24 ∷ []))
  unfolding end
  kept = ap control1_of first-bytes ∙ end-fields (drop 8212 covered) (check_control entities back)

  pub check_is : AllBytes covered → CheckMade (check_block covered entities back c2) covered entities back c2
  check_is a =
      let kind : (control1_at (check_block covered entities back c2)).kind ≡ Check = ap (λ (c : Control1). c.kind) kept in
      record {
        long = ap length block_is ∙ sealed-long body body-length;
        proper = subst AllBytes (sym block_is) (sealed-proper body body-length (body-proper a));
        judged =
            sym (sound_by (check_block covered entities back c2) true true
            (sym (ap crc_agrees block_is ∙ sealed-agrees body body-length))
            (sym (ap (λ (k : BlockType). sound_kind k (edc_agrees (check_block covered entities back c2))) kind)));
        words = words_back;
        kind = kind;
        size = λ h. ap (λ (c : Control1). c.entities) kept ∙ mod-eq_of_lt h;
        link = λ h. ap (λ (c : Control1). c.back) kept ∙ mod-eq_of_lt h;
        second = λ w. ap control2_of second-bytes ∙ control2_decodes c2 w;
      }

pub check_blocks_made : CheckBlocksMade
check_blocks_made covered entities back c2 l a = check_is covered entities back c2 l a

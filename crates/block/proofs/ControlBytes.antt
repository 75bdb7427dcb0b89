-- The bytes of the control fields, group by group. Assumes nothing.
use Rattle.std.proofs.Common.{◌≡◌, ℕ, ◌/◌, ◌%◌, ◌<◌, [], ◌∷◌, ◌++◌, drop, sym, refl, ap, ◌∙◌}
use Rattle.bits.specs.Fields.{join, bytes, bit}
use Rattle.block.specs.BlockType.{number_of}
use Rattle.block.specs.Control.{widths1, fields1, bytes1, widths2, fields2, bytes2}
use Rattle.block.specs.declared.control1.Control1.{Control1}
use Rattle.block.specs.declared.control2.Control2.{Control2}
use Rattle.bits.proofs.Groups.{group}
use Rattle.bits.proofs.Digits.{bytes_one, bytes_two, bytes_three, bytes_four, bytes-nine, encode_one}

abbrev head1 : Control1 → ℕ
head1 c = join (26 ∷ 6 ∷ []) (c.reserved ∷ c.format ∷ [])

abbrev marks1 : Control1 → ℕ
marks1 c = join (4 ∷ 12 ∷ []) (c.file_mark_offset ∷ c.file_mark_number ∷ [])

abbrev kind1 : Control1 → ℕ
kind1 c = join (3 ∷ 1 ∷ 4 ∷ []) (number_of c.kind ∷ bit c.early_warning ∷ c.entities ∷ [])

groups1 : (c : Control1)
    → bytes1 c ≡ bytes 4 (head1 c) ++ (bytes 3 c.mark ++ (bytes 1 c.compression ++ (bytes 4 c.object
    ++ (bytes 2 c.sequence ++ (bytes 2 (marks1 c) ++ (bytes 1 (kind1 c) ++ bytes 3 c.back))))))
unfolding bytes1
groups1 c =
    group 2 4 16 widths1 (fields1 c) refl refl refl refl
    (group 1 3 13 (drop 2 widths1) (drop 2 (fields1 c)) refl refl refl (encode_one 3 c.mark)
    (group 1 1 12 (drop 3 widths1) (drop 3 (fields1 c)) refl refl refl (encode_one 1 c.compression)
    (group 1 4 8 (drop 4 widths1) (drop 4 (fields1 c)) refl refl refl (encode_one 4 c.object)
    (group 1 2 6 (drop 5 widths1) (drop 5 (fields1 c)) refl refl refl (encode_one 2 c.sequence)
    (group 2 2 4 (drop 6 widths1) (drop 6 (fields1 c)) refl refl refl refl
    (group 3 1 3 (drop 8 widths1) (drop 8 (fields1 c)) refl refl refl refl (encode_one 3 c.back)))))))

-- as the code writes them
pub bytes1_are : (c : Control1) (h k : ℕ) → h ≡ head1 c → k ≡ kind1 c → k < 256 → c.compression < 256 → (m : ℕ) → m ≡ marks1 c
    → bytes1 c ≡ h / 16777216 % 256 ∷ h / 65536 % 256 ∷ h / 256 % 256 ∷ h % 256
    ∷ c.mark / 65536 % 256 ∷ c.mark / 256 % 256 ∷ c.mark % 256 ∷ c.compression
    ∷ c.object / 16777216 % 256 ∷ c.object / 65536 % 256 ∷ c.object / 256 % 256 ∷ c.object % 256
    ∷ c.sequence / 256 % 256 ∷ c.sequence % 256 ∷ m / 256 % 256 ∷ m % 256 ∷ k
    ∷ c.back / 65536 % 256 ∷ c.back / 256 % 256 ∷ c.back % 256 ∷ []
bytes1_are c h k eh ek lk lc m em =
    groups1 c
    ∙ (λ i. four_h i ++ (bytes_three c.mark i ++ (bytes_one c.compression lc i ++ (bytes_four c.object i
    ++ (bytes_two c.sequence i ++ (two_m i ++ (one_k i ++ bytes_three c.back i)))))))
  where
    four_h : bytes 4 (head1 c) ≡ h / 16777216 % 256 ∷ h / 65536 % 256 ∷ h / 256 % 256 ∷ h % 256 ∷ []
    four_h = ap (bytes 4) (sym eh) ∙ bytes_four h

    two_m : bytes 2 (marks1 c) ≡ m / 256 % 256 ∷ m % 256 ∷ []
    two_m = ap (bytes 2) (sym em) ∙ bytes_two m

    one_k : bytes 1 (kind1 c) ≡ k ∷ []
    one_k = ap (bytes 1) (sym ek) ∙ bytes_one k lk

abbrev head2 : Control2 → ℕ
head2 c = join (5 ∷ 5 ∷ 32 ∷ 24 ∷ 5 ∷ 1 ∷ [])
    (c.reserved ∷ c.offset ∷ c.first ∷ c.place ∷ c.blocks ∷ bit c.starts ∷ [])

abbrev track2 : Control2 → ℕ
track2 c = join (1 ∷ 7 ∷ []) (bit c.k ∷ c.track ∷ [])

groups2 : (c : Control2)
    → bytes2 c ≡ bytes 9 (head2 c) ++ (bytes 1 c.entity ++ (bytes 2 c.envelope ++ (bytes 3 c.tag ++ bytes 1 (track2 c))))
unfolding bytes2
groups2 c =
    group 6 9 7 widths2 (fields2 c) refl refl refl refl
    (group 1 1 6 (drop 6 widths2) (drop 6 (fields2 c)) refl refl refl (encode_one 1 c.entity)
    (group 1 2 4 (drop 7 widths2) (drop 7 (fields2 c)) refl refl refl (encode_one 2 c.envelope)
    (group 1 3 1 (drop 8 widths2) (drop 8 (fields2 c)) refl refl refl (encode_one 3 c.tag) refl)))

pub bytes2_are : (c : Control2) (h k : ℕ) → h ≡ head2 c → k ≡ track2 c → k < 256 → c.entity < 256
    → bytes2 c ≡ h / 18446744073709551616 % 256 ∷ h / 72057594037927936 % 256 ∷ h / 281474976710656 % 256
    ∷ h / 1099511627776 % 256 ∷ h / 4294967296 % 256 ∷ h / 16777216 % 256 ∷ h / 65536 % 256 ∷ h / 256 % 256 ∷ h % 256
    ∷ c.entity ∷ c.envelope / 256 % 256 ∷ c.envelope % 256
    ∷ c.tag / 65536 % 256 ∷ c.tag / 256 % 256 ∷ c.tag % 256 ∷ k ∷ []
bytes2_are c h k eh ek lk le =
    groups2 c
    ∙ (λ i. (ap (bytes 9) (sym eh) ∙ bytes-nine h) i
    ++ (bytes_one c.entity le i ++ (bytes_two c.envelope i ++ (bytes_three c.tag i ++ (ap (bytes 1) (sym ek) ∙ bytes_one k lk) i))))

-- A block put together part by part. Assumes nothing.
use Rattle.std.proofs.Common.{◌≡◌, ℕ, ◌+◌, ◌/◌, ◌%◌, ◌≤◌, List, [], ◌∷◌, ◌++◌, length, take, replicate, sym, refl, ap, ◌∙◌}
use Rattle.std.proofs.lemmas.List.{append_assoc, take_all}
use Rattle.bits.specs.Fields.{bytes}
use Rattle.bits.proofs.Digits.{bytes-eight}
use Rattle.crc.specs.Crc.{crc}
use Rattle.block.specs.Control.{bytes1, bytes2}
use Rattle.block.specs.Edc.{edc}
use Rattle.block.specs.Block.{zeros, sealed, field_block, word_bytes}
use Rattle.block.specs.declared.control1.Control1.{Control1}
use Rattle.block.specs.declared.control2.Control2.{Control2}

-- the CRC's bytes behind the others
pub sealed_is : (body b seal : List ℕ) (c : ℕ) → length b ≤ 8256 → c ≡ crc body → length seal ≡ 8
    → seal ≡ c / 72057594037927936 % 256 ∷ c / 281474976710656 % 256 ∷ c / 1099511627776 % 256 ∷ c / 4294967296 % 256
    ∷ c / 16777216 % 256 ∷ c / 65536 % 256 ∷ c / 256 % 256 ∷ c % 256 ∷ []
    → take (8248 + length seal) b ≡ body ++ seal → b ≡ sealed body
unfolding sealed
sealed_is body b seal c h e l s p =
    sym (take_all 8256 b h) ∙ ap (λ (n : ℕ). take (8248 + n) b) (sym l) ∙ p
    ∙ ap (λ (t : List ℕ). body ++ t) (s ∙ sym (bytes-eight c) ∙ ap (bytes 8) e)

-- three parts behind a Data Field
pub field_is : (field x1 x2 x3 b w : List ℕ) (e : ℕ) (c1 : Control1) (c2 : Control2)
    → w ≡ word_bytes e ++ (0 ∷ 0 ∷ []) → e ≡ edc field → x1 ≡ field ++ w → x2 ≡ x1 ++ bytes1 c1 → x3 ≡ x2 ++ bytes2 c2 → b ≡ sealed x3
    → b ≡ field_block field c1 c2
unfolding field_block
field_is field x1 x2 x3 b w e c1 c2 ew ee e1 e2 e3 eb =
    let parts : x3 ≡ ((field ++ w) ++ bytes1 c1) ++ bytes2 c2 =
    e3 ∙ ap (λ (t : List ℕ). t ++ bytes2 c2) (e2 ∙ ap (λ (t : List ℕ). t ++ bytes1 c1) e1) in
    let flat : ((field ++ w) ++ bytes1 c1) ++ bytes2 c2 ≡ field ++ (w ++ (bytes1 c1 ++ bytes2 c2)) = simp append_assoc in
    eb ∙ ap sealed (parts ∙ flat ∙ ap (λ (t : List ℕ). field ++ (t ++ (bytes1 c1 ++ bytes2 c2))) (ew ∙ ap (λ (n : ℕ). word_bytes n ++ (0 ∷ 0 ∷ [])) ee))

pub zeros_are : (n : ℕ) → replicate n 0 ≡ zeros n
unfolding zeros
zeros_are n = refl

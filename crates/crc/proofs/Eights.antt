-- Eight bytes read by their places: as the list they are, as one number, and by the tables. Assumes nothing.
use Rattle.std.proofs.Common.{◌≡◌, ℕ, ◌+◌, ◌*◌, ◌/◌, ◌%◌, ◌^◌, ◌<◌, ◌≤◌, List, [], ◌∷◌, length, get_or, take, drop, sym, refl, ap, ◌∙◌, subst, ap₂, arith}
use lib.Bits.{bit_xor}
use Rattle.std.proofs.lemmas.List.FromFn.{fill_by_all}
use Rattle.std.proofs.lemmas.List.{get_or-take, length-take-le, take-append-drop}
use Rattle.bits.specs.Fields.{bytes, value, AllBytes}
use Rattle.bits.proofs.BitLaws.{bytes-value}
use Rattle.bits.proofs.Digits.{bytes-eight}
use Rattle.crc.specs.Crc.{crc, crc_more}
use Rattle.crc.specs.Laws.{xor_bytes}
use Rattle.crc.proofs.Linear.{sliced, crc-sliced, more-append}
use Rattle.crc.proofs.Words.{bytes-xor, more-eight}

abbrev pub first_eight : List ℕ → List ℕ
first_eight xs =
    get_or xs 0 0 ∷ get_or xs 1 0 ∷ get_or xs 2 0 ∷ get_or xs 3 0 ∷ get_or xs 4 0 ∷ get_or xs 5 0 ∷ get_or xs 6 0 ∷ get_or xs 7 0 ∷ []

eight_are : (xs : List ℕ) → length xs ≡ 8 → xs ≡ first_eight xs
eight_are xs e = fill_by_all (λ k. get_or xs k 0) xs 8 0 e (λ k h. refl)

-- the number as `u64::from_be_bytes` makes it
abbrev pub word : List ℕ → ℕ
word xs =
    get_or xs 0 0 * 2 ^ 56 + get_or xs 1 0 * 2 ^ 48 + get_or xs 2 0 * 2 ^ 40 + get_or xs 3 0 * 2 ^ 32
    + get_or xs 4 0 * 2 ^ 24 + get_or xs 5 0 * 2 ^ 16 + get_or xs 6 0 * 2 ^ 8 + get_or xs 7 0

word_is_value : (xs : List ℕ) → AllBytes xs → length xs ≡ 8 → word xs ≡ value xs
word_is_value xs a e =
    let small : AllBytes (first_eight xs) = subst AllBytes (eight_are xs e) a in
    go _ _ _ _ _ _ _ _ small ∙ ap value (sym (eight_are xs e))
  where
    go : (a b c d e f g h : ℕ) → AllBytes (a ∷ b ∷ c ∷ d ∷ e ∷ f ∷ g ∷ h ∷ [])
        → a * 2 ^ 56 + b * 2 ^ 48 + c * 2 ^ 40 + d * 2 ^ 32 + e * 2 ^ 24 + f * 2 ^ 16 + g * 2 ^ 8 + h
        ≡ value (a ∷ b ∷ c ∷ d ∷ e ∷ f ∷ g ∷ h ∷ [])
    go a b c d e f g h (p0, (p1, (p2, (p3, (p4, (p5, (p6, (p7, _)))))))) = omega arith

-- the bytes as `u64::to_be_bytes` makes them
abbrev pub taken : ℕ → List ℕ
taken w =
    (w / 2 ^ 56 % 256) ∷ (w / 2 ^ 48 % 256) ∷ (w / 2 ^ 40 % 256) ∷ (w / 2 ^ 32 % 256)
    ∷ (w / 2 ^ 24 % 256) ∷ (w / 2 ^ 16 % 256) ∷ (w / 2 ^ 8 % 256) ∷ (w % 256) ∷ []

pub taken_is : (w : ℕ) → taken w ≡ bytes 8 w
taken_is w = sym (bytes-eight w)

-- eight bytes onto a register: the CRC of the bytes of both, exclusive-ored as one number
pub more-word : (c : ℕ) (xs : List ℕ) → c < 2 ^ 64 → AllBytes xs → length xs ≡ 8
    → crc_more c xs ≡ crc (bytes 8 (bit_xor c (word xs)))
more-word c xs h a e =
    let own : bytes 8 (word xs) ≡ xs =
    ap₂ bytes (sym e) (word_is_value xs a e) ∙ bytes-value xs a in
    more-eight c xs h e
    ∙ ap crc (ap (xor_bytes (bytes 8 c)) (sym own) ∙ sym (bytes-xor 8 c (word xs)))

-- and that by the tables
pub crc_by_tables : (xs : List ℕ) → length xs ≡ 8
    → crc xs
    ≡ sliced (get_or xs 0 0)
    (get_or xs 1 0 ∷ get_or xs 2 0 ∷ get_or xs 3 0 ∷ get_or xs 4 0 ∷ get_or xs 5 0 ∷ get_or xs 6 0 ∷ get_or xs 7 0 ∷ [])
crc_by_tables xs e = ap crc (eight_are xs e) ∙ crc-sliced (get_or xs 0 0) _

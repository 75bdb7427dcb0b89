-- The fields that the bytes of a control field hold, group by group. Assumes nothing.
use Rattle.std.proofs.Common.{◌≡◌, ℕ, ◌+◌, ◌-◌, ◌*◌, ◌/◌, ◌%◌, ◌^◌, ◌<◌, ◌≤◌, eqb, List, [], ◌∷◌, ◌++◌, length, take, drop, sym, refl, ap, ◌∙◌, div-one, arith, length-drop, length-take}
use Rattle.bits.specs.Fields.{split, value, decode}
use Rattle.block.specs.BlockType.{type_of}
use Rattle.block.specs.Control.{widths1, from_fields1, control1_of, widths2, from_fields2, control2_of}
use Rattle.bits.proofs.Groups.{degroup, degroup_last}
use Rattle.bits.proofs.Digits.{decode_one}

long : (n a : ℕ) (bs : List ℕ) → a + n ≤ length bs → length (take n (drop a bs)) ≡ n
long n a bs h = simp (length-take, length-drop) (omega arith)

-- the number in n bytes from a on
abbrev at : List ℕ → ℕ → ℕ → ℕ
at bs a n = value (take n (drop a bs))

module _ (bs : List ℕ) (l : length bs ≡ 20) where
  one1 : (n a : ℕ) → a + n ≤ 20 → decode (8 * n ∷ []) (take n (drop a bs)) ≡ at bs a n ∷ []
  one1 n a h = decode_one n (take n (drop a bs)) (long n a bs (omega arith))

  rest1 : (k : ℕ) → 8 * (20 - k) ≡ 8 * (length bs - k)
  rest1 k = ap (λ (n : ℕ). 8 * (n - k)) (sym l)

  groups1 : decode widths1 bs
      ≡ split (26 ∷ 6 ∷ []) (at bs 0 4) ++ (at bs 4 3 ∷ at bs 7 1 ∷ at bs 8 4 ∷ at bs 12 2
      ∷ (split (4 ∷ 12 ∷ []) (at bs 14 2) ++ (split (3 ∷ 1 ∷ 4 ∷ []) (at bs 16 1) ++ (at bs 17 3 ∷ []))))
  groups1 =
      degroup 2 0 4 widths1 bs (rest1 4) refl
      (degroup 1 4 3 (drop 2 widths1) bs (rest1 7) (one1 3 4 (omega arith))
      (degroup 1 7 1 (drop 3 widths1) bs (rest1 8) (one1 1 7 (omega arith))
      (degroup 1 8 4 (drop 4 widths1) bs (rest1 12) (one1 4 8 (omega arith))
      (degroup 1 12 2 (drop 5 widths1) bs (rest1 14) (one1 2 12 (omega arith))
      (degroup 2 14 2 (drop 6 widths1) bs (rest1 16) refl
      (degroup 3 16 1 (drop 8 widths1) bs (rest1 17) refl
      (degroup_last 17 3 (24 ∷ []) bs (omega arith) (one1 3 17 (omega arith)))))))))

-- as the code reads them
pub control1_is : (bs : List ℕ) → length bs ≡ 20 → (h m k mark comp obj seq back : ℕ)
    → h ≡ at bs 0 4 → m ≡ at bs 14 2 → k ≡ at bs 16 1 → mark ≡ at bs 4 3 → comp ≡ at bs 7 1 → obj ≡ at bs 8 4 → seq ≡ at bs 12 2
    → back ≡ at bs 17 3 → h < 2 ^ 32 → m < 2 ^ 16 → k < 2 ^ 8
    → control1_of bs ≡ record {
      reserved = h / 64;
      format = h % 64;
      mark = mark;
      compression = comp;
      object = obj;
      sequence = seq;
      file_mark_offset = m / 4096;
      file_mark_number = m % 4096;
      kind = type_of (k / 32);
      early_warning = eqb (k / 16 % 2) 1;
      entities = k % 16;
      back = back;
    }
unfolding control1_of
control1_is bs l h m k mark comp obj seq back eh em ek e1 e2 e3 e4 e5 lh lm lk =
    ap from_fields1 (groups1 bs l)
    ∙ (λ i. record {
      reserved = reserved i;
      format = format i;
      mark = sym e1 i;
      compression = sym e2 i;
      object = sym e3 i;
      sequence = sym e4 i;
      file_mark_offset = offset i;
      file_mark_number = number i;
      kind = type_of (kind i);
      early_warning = eqb (sym ek i / 16 % 2) 1;
      entities = entities i;
      back = sym e5 i;
    })
  where
    reserved : at bs 0 4 / 64 % 67108864 ≡ h / 64
    reserved = ap (λ (x : ℕ). x / 64 % 67108864) (sym eh) ∙ omega arith

    format : at bs 0 4 / 1 % 64 ≡ h % 64
    format = ap (λ (x : ℕ). x % 64) (div-one (at bs 0 4) ∙ sym eh)

    offset : at bs 14 2 / 4096 % 16 ≡ m / 4096
    offset = ap (λ (x : ℕ). x / 4096 % 16) (sym em) ∙ omega arith

    number : at bs 14 2 / 1 % 4096 ≡ m % 4096
    number = ap (λ (x : ℕ). x % 4096) (div-one (at bs 14 2) ∙ sym em)

    kind : at bs 16 1 / 32 % 8 ≡ k / 32
    kind = ap (λ (x : ℕ). x / 32 % 8) (sym ek) ∙ omega arith

    entities : at bs 16 1 / 1 % 16 ≡ k % 16
    entities = ap (λ (x : ℕ). x % 16) (div-one (at bs 16 1) ∙ sym ek)

module _ (bs : List ℕ) (l : length bs ≡ 16) where
  one2 : (n a : ℕ) → a + n ≤ 16 → decode (8 * n ∷ []) (take n (drop a bs)) ≡ at bs a n ∷ []
  one2 n a h = decode_one n (take n (drop a bs)) (long n a bs (omega arith))

  rest2 : (k : ℕ) → 8 * (16 - k) ≡ 8 * (length bs - k)
  rest2 k = ap (λ (n : ℕ). 8 * (n - k)) (sym l)

  groups2 : decode widths2 bs
      ≡ split (5 ∷ 5 ∷ 32 ∷ 24 ∷ 5 ∷ 1 ∷ []) (at bs 0 9)
      ++ (at bs 9 1 ∷ at bs 10 2 ∷ at bs 12 3 ∷ split (1 ∷ 7 ∷ []) (at bs 15 1))
  groups2 =
      degroup 6 0 9 widths2 bs (rest2 9) refl
      (degroup 1 9 1 (drop 6 widths2) bs (rest2 10) (one2 1 9 (omega arith))
      (degroup 1 10 2 (drop 7 widths2) bs (rest2 12) (one2 2 10 (omega arith))
      (degroup 1 12 3 (drop 8 widths2) bs (rest2 15) (one2 3 12 (omega arith))
      (degroup_last 15 1 (1 ∷ 7 ∷ []) bs (omega arith) refl))))

pub control2_is : (bs : List ℕ) → length bs ≡ 16 → (h k entity envelope tag : ℕ)
    → h ≡ at bs 0 9 → k ≡ at bs 15 1 → entity ≡ at bs 9 1 → envelope ≡ at bs 10 2 → tag ≡ at bs 12 3 → h < 2 ^ 72 → k < 2 ^ 8
    → control2_of bs ≡ record {
      reserved = h / 2 ^ 67;
      offset = h / 2 ^ 62 % 32;
      first = h / 2 ^ 30 % 2 ^ 32;
      place = h / 64 % 2 ^ 24;
      blocks = h / 2 % 32;
      starts = eqb (h % 2) 1;
      entity = entity;
      envelope = envelope;
      tag = tag;
      k = eqb (k / 128) 1;
      track = k % 128;
    }
unfolding control2_of
control2_is bs l h k entity envelope tag eh ek e1 e2 e3 lh lk =
    ap from_fields2 (groups2 bs l)
    ∙ (λ i. record {
      reserved = reserved i;
      offset = sym eh i / 2 ^ 62 % 32;
      first = sym eh i / 2 ^ 30 % 2 ^ 32;
      place = sym eh i / 64 % 2 ^ 24;
      blocks = sym eh i / 2 % 32;
      starts = eqb (starts i) 1;
      entity = sym e1 i;
      envelope = sym e2 i;
      tag = sym e3 i;
      k = eqb (flag i) 1;
      track = track i;
    })
  where
    reserved : at bs 0 9 / 2 ^ 67 % 32 ≡ h / 2 ^ 67
    reserved = ap (λ (x : ℕ). x / 2 ^ 67 % 32) (sym eh) ∙ omega arith

    starts : at bs 0 9 / 1 % 2 ≡ h % 2
    starts = ap (λ (x : ℕ). x % 2) (div-one (at bs 0 9) ∙ sym eh)

    flag : at bs 15 1 / 128 % 2 ≡ k / 128
    flag = ap (λ (x : ℕ). x / 128 % 2) (sym ek) ∙ omega arith

    track : at bs 15 1 / 1 % 128 ≡ k % 128
    track = ap (λ (x : ℕ). x % 128) (div-one (at bs 15 1) ∙ sym ek)

-- The number that a few bytes of a list write. Assumes nothing.
use Rattle.std.proofs.Common.{◌≡◌, ℕ, zero, suc, ◌+◌, ◌*◌, ◌^◌, ◌<◌, ◌≤◌, List, [], ◌∷◌, ◌++◌, length, get_or, take, drop, refl, ap, ◌∙◌, ap₂, arith, length-drop, length-take}
use Rattle.std.proofs.lemmas.List.{drop_more, drop-drop, take_more, get_or-drop}
use Rattle.bits.specs.Fields.{value}
use Rattle.bits.proofs.Groups.{value-append}

-- n elements of a list from a on
pub part : List ℕ → ℕ → ℕ → List ℕ
part bs a zero = []
part bs a (suc n) = get_or bs a 0 ∷ part bs (a + 1) n

pub take_part : (n a : ℕ) (bs : List ℕ) → a + n ≤ length bs → take n (drop a bs) ≡ part bs a n
unfolding part
take_part zero a bs h = refl
take_part (suc n) a bs h =
    ap (take (suc n)) (drop_more bs a 0 (omega arith)) ∙ ap (λ (t : List ℕ). get_or bs a 0 ∷ t) (take_part n (a + 1) bs (omega arith))

module _ (bs : List ℕ) (a : ℕ) (small : (q : ℕ) → get_or bs q 0 < 256) where
  pub value_one : a + 1 ≤ length bs → value (take 1 (drop a bs)) ≡ get_or bs a 0
  unfolding part
  value_one h = ap value (take_part 1 a bs h) ∙ go (get_or bs a 0) (small a)
    where
      go : (b : ℕ) → b < 256 → value (b ∷ []) ≡ b
      go b h = omega arith

  pub value_two : a + 2 ≤ length bs → value (take 2 (drop a bs)) ≡ get_or bs a 0 * 256 + get_or bs (a + 1) 0
  unfolding part
  value_two h = ap value (take_part 2 a bs h) ∙ go (get_or bs a 0) (get_or bs (a + 1) 0) (small a) (small (a + 1))
    where
      go : (b c : ℕ) → b < 256 → c < 256 → value (b ∷ c ∷ []) ≡ b * 256 + c
      go b c h k = omega arith

  pub value_three : a + 3 ≤ length bs
      → value (take 3 (drop a bs)) ≡ get_or bs a 0 * 65536 + get_or bs (a + 1) 0 * 256 + get_or bs (a + 2) 0
  unfolding part
  value_three h =
      ap value (take_part 3 a bs h) ∙ go (get_or bs a 0) (get_or bs (a + 1) 0) (get_or bs (a + 1 + 1) 0) (small a) (small (a + 1)) (small (a + 1 + 1))
      ∙ ap (λ (k : ℕ). get_or bs a 0 * 65536 + get_or bs (a + 1) 0 * 256 + get_or bs k 0) (let e : a + 1 + 1 ≡ a + 2 = omega arith in e)
    where
      go : (b c d : ℕ) → b < 256 → c < 256 → d < 256 → value (b ∷ c ∷ d ∷ []) ≡ b * 65536 + c * 256 + d
      go b c d h k l = omega arith

  pub value_four : a + 4 ≤ length bs
      → value (take 4 (drop a bs)) ≡ get_or bs a 0 * 16777216 + get_or bs (a + 1) 0 * 65536 + get_or bs (a + 2) 0 * 256 + get_or bs (a + 3) 0
  unfolding part
  value_four h =
      ap value (take_part 4 a bs h)
      ∙ go (get_or bs a 0) (get_or bs (a + 1) 0) (get_or bs (a + 1 + 1) 0) (get_or bs (a + 1 + 1 + 1) 0) (small a) (small (a + 1)) (small (a + 1 + 1)) (small (a + 1 + 1 + 1))
      ∙ ap₂ (λ (k l : ℕ). get_or bs a 0 * 16777216 + get_or bs (a + 1) 0 * 65536 + get_or bs k 0 * 256 + get_or bs l 0)
      (let e : a + 1 + 1 ≡ a + 2 = omega arith in e) (let e : a + 1 + 1 + 1 ≡ a + 3 = omega arith in e)
    where
      go : (b c d e : ℕ) → b < 256 → c < 256 → d < 256 → e < 256 → value (b ∷ c ∷ d ∷ e ∷ []) ≡ b * 16777216 + c * 65536 + d * 256 + e
      go b c d e h k l m = omega arith

-- eight bytes are four and four more
pub value-eight : (bs : List ℕ) (a : ℕ) → a + 8 ≤ length bs
    → value (take 8 (drop a bs)) ≡ value (take 4 (drop a bs)) * 4294967296 + value (take 4 (drop (a + 4) bs))
value-eight bs a h =
    let long : length (take 4 (drop (a + 4) bs)) ≡ 4 = simp (length-take, length-drop) (omega arith) in
    ap value (eight-parts (drop a bs) ∙ ap (λ (t : List ℕ). take 4 (drop a bs) ++ take 4 t) (drop-drop 4 a bs))
    ∙ value-append (take 4 (drop a bs)) (take 4 (drop (a + 4) bs))
    ∙ ap (λ (k : ℕ). value (take 4 (drop a bs)) * 2 ^ (8 * k) + value (take 4 (drop (a + 4) bs))) long
  where
    eight-parts : (xs : List ℕ) → take 8 xs ≡ take 4 xs ++ take 4 (drop 4 xs)
    eight-parts [] = refl
    eight-parts (a ∷ []) = refl
    eight-parts (a ∷ b ∷ []) = refl
    eight-parts (a ∷ b ∷ c ∷ []) = refl
    eight-parts (a ∷ b ∷ c ∷ d ∷ xs) = refl

-- one byte more
pub value-nine : (bs : List ℕ) (a : ℕ) → ((q : ℕ) → get_or bs q 0 < 256) → a + 9 ≤ length bs
    → value (take 9 (drop a bs)) ≡ value (take 8 (drop a bs)) * 256 + get_or bs (a + 8) 0
value-nine bs a small h =
    let long : 8 < length (drop a bs) = simp length-drop (omega arith) in
    let b : ℕ = get_or bs (a + 8) 0 in
    ap value (take_more (drop a bs) 8 0 long ∙ ap (λ (x : ℕ). take 8 (drop a bs) ++ x ∷ []) (get_or-drop a bs 8 0))
    ∙ value-append (take 8 (drop a bs)) (b ∷ [])
    ∙ ap (λ (x : ℕ). value (take 8 (drop a bs)) * 256 + x) (byte b (small (a + 8)))
  where
    byte : (b : ℕ) → b < 256 → value (b ∷ []) ≡ b
    byte b h = omega arith

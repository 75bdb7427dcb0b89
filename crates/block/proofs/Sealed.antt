-- A body with its CRC behind it: the CRC agrees, and the body stands where it stood. Assumes nothing.
use Rattle.std.proofs.Common.{◌≡◌, ℕ, zero, suc, ◌+◌, ◌≤◌, true, List, [], ◌∷◌, ◌++◌, length, take, drop, sym, ap, ◌∙◌, mod-eq_of_lt, arith, length-append, length-drop, eq-eqb}
use Rattle.std.proofs.lemmas.List.{take_at, drop_at, take-append-le, drop-append-le}
use Rattle.bits.specs.Fields.{bytes, value, AllBytes}
use Rattle.bits.proofs.BitLaws.{value-bytes, bytes_all}
use Rattle.crc.specs.Crc.{crc}
use Rattle.crc.proofs.Linear.{crc-lt}
use Rattle.block.specs.Block.{sealed, crc_agrees}

pub all_append : (xs ys : List ℕ) → AllBytes xs → AllBytes ys → AllBytes (xs ++ ys)
all_append [] ys a b = b
all_append (x ∷ xs) ys a b = (a.0, all_append xs ys a.1 b)

pub all_drop : (n : ℕ) (xs : List ℕ) → AllBytes xs → AllBytes (drop n xs)
all_drop zero xs a = a
all_drop (suc n) [] a = tt
all_drop (suc n) (x ∷ xs) a = all_drop n xs a.1

module _ (body : List ℕ) (l : length body ≡ 8248) where
  pub sealed-long : length (sealed body) ≡ 8256
  unfolding sealed
  sealed-long = length-append body (bytes 8 (crc body)) ∙ ap (λ (n : ℕ). n + 8) l

  pub sealed-proper : AllBytes body → AllBytes (sealed body)
  unfolding sealed
  sealed-proper a = all_append body (bytes 8 (crc body)) a (bytes_all 8 (crc body))

  pub sealed_front : take 8248 (sealed body) ≡ body
  unfolding sealed
  sealed_front = take_at body (bytes 8 (crc body)) 8248 l

  pub sealed-agrees : crc_agrees (sealed body) ≡ true
  unfolding sealed
  sealed-agrees =
      eq-eqb (crc (take 8248 (sealed body))) (value (take 8 (drop 8248 (sealed body))))
      (ap crc sealed_front ∙ sym (ap (λ (t : List ℕ). value (take 8 t)) (drop_at body (bytes 8 (crc body)) 8248 l)
      ∙ value-bytes 8 (crc body) ∙ mod-eq_of_lt (crc-lt body)))

  -- what lies within the body
  pub sealed-part : (a n : ℕ) → a + n ≤ 8248 → take n (drop a (sealed body)) ≡ take n (drop a body)
  unfolding sealed
  sealed-part a n h =
      let in_body : a ≤ length body = omega arith in
      let enough : n ≤ length (drop a body) = simp length-drop (omega arith) in
      ap (take n) (drop-append-le a body (bytes 8 (crc body)) in_body) ∙ take-append-le n (drop a body) (bytes 8 (crc body)) enough

-- The bytes of one number, and of the fields that share them. Assumes nothing.
use Rattle.std.proofs.Common.{◌≡◌, ℕ, ◌+◌, ◌*◌, ◌/◌, ◌%◌, ◌^◌, ◌<◌, List, [], ◌∷◌, length, replicate, sym, ap, ◌∙◌, subst, ap₂, add-zero, mod-eq_of_lt, mul-one, div-one, arith}
use native.Mathlib.Nat.{mod-add-div'}
use Rattle.bits.specs.Fields.{split, bytes, value, encode, decode}
use Rattle.bits.proofs.BitLaws.{split-low, sum_eights, value-lt}

-- the last byte of a number
last : (x : ℕ) → x / 1 % 256 ≡ x % 256
last x = ap (λ (m : ℕ). m % 256) (div-one x)

pub bytes_one : (x : ℕ) → x < 256 → bytes 1 x ≡ x ∷ []
bytes_one x h = ap (λ (b : ℕ). b ∷ []) (last x ∙ mod-eq_of_lt h)

pub bytes_two : (x : ℕ) → bytes 2 x ≡ x / 256 % 256 ∷ x % 256 ∷ []
bytes_two x = ap (λ (b : ℕ). x / 256 % 256 ∷ b ∷ []) (last x)

pub bytes_three : (x : ℕ) → bytes 3 x ≡ x / 65536 % 256 ∷ x / 256 % 256 ∷ x % 256 ∷ []
bytes_three x = ap (λ (b : ℕ). x / 65536 % 256 ∷ x / 256 % 256 ∷ b ∷ []) (last x)

pub bytes_four : (x : ℕ) → bytes 4 x ≡ x / 16777216 % 256 ∷ x / 65536 % 256 ∷ x / 256 % 256 ∷ x % 256 ∷ []
bytes_four x = ap (λ (b : ℕ). x / 16777216 % 256 ∷ x / 65536 % 256 ∷ x / 256 % 256 ∷ b ∷ []) (last x)

pub bytes-eight : (x : ℕ)
    → bytes 8 x ≡ x / 72057594037927936 % 256 ∷ x / 281474976710656 % 256 ∷ x / 1099511627776 % 256 ∷ x / 4294967296 % 256
    ∷ x / 16777216 % 256 ∷ x / 65536 % 256 ∷ x / 256 % 256 ∷ x % 256 ∷ []
bytes-eight x =
    ap (λ (b : ℕ). x / 72057594037927936 % 256 ∷ x / 281474976710656 % 256 ∷ x / 1099511627776 % 256 ∷ x / 4294967296 % 256
    ∷ x / 16777216 % 256 ∷ x / 65536 % 256 ∷ x / 256 % 256 ∷ b ∷ []) (last x)

pub bytes-nine : (x : ℕ)
    → bytes 9 x ≡ x / 18446744073709551616 % 256 ∷ x / 72057594037927936 % 256 ∷ x / 281474976710656 % 256
    ∷ x / 1099511627776 % 256 ∷ x / 4294967296 % 256 ∷ x / 16777216 % 256 ∷ x / 65536 % 256 ∷ x / 256 % 256 ∷ x % 256 ∷ []
bytes-nine x = ap (λ (t : List ℕ). x / 18446744073709551616 % 256 ∷ t) (bytes-eight x)

-- higher bytes do not matter
pub bytes-mod : (n x : ℕ) → bytes n (x % 2 ^ (8 * n)) ≡ bytes n x
bytes-mod n x =
    sym (split-low (replicate n 8) (x / 2 ^ (8 * n)) (x % 2 ^ (8 * n)))
    ∙ ap (λ (k : ℕ). split (replicate n 8) (x % 2 ^ (8 * n) + x / 2 ^ (8 * n) * 2 ^ k)) (sum_eights n)
    ∙ ap (split (replicate n 8)) (mod-add-div' x (2 ^ (8 * n)))

-- a field that fills whole bytes
pub encode_one : (n v : ℕ) → encode (8 * n ∷ []) (v ∷ []) ≡ bytes n v
encode_one n v =
    ap₂ bytes (count n) (ap (λ (m : ℕ). m + 0) (mul-one (v % 2 ^ (8 * n))) ∙ add-zero (v % 2 ^ (8 * n))) ∙ bytes-mod n v
  where
    count : (n : ℕ) → (8 * n + 0) / 8 ≡ n
    count n = omega arith

pub decode_one : (n : ℕ) (bs : List ℕ) → length bs ≡ n → decode (8 * n ∷ []) bs ≡ value bs ∷ []
decode_one n bs l =
    ap (λ (m : ℕ). m ∷ [])
    (ap (λ (m : ℕ). m % 2 ^ (8 * n)) (div-one (value bs)) ∙ mod-eq_of_lt (subst (λ (k : ℕ). value bs < 2 ^ (8 * k)) l (value-lt bs)))

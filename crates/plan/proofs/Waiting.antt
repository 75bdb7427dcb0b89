-- What is still to come while packing. Assumes nothing.
use Rattle.std.proofs.Common.{◌≡◌, ℕ, suc, ◌+◌, ◌≤◌, Bool, true, false, cond, not, T, ◌⊎◌, List, [], ◌∷◌, length, get_or, refl, inl, inr, zero-le, le_refl, arith}
use Rattle.bits.specs.Fields.{sum}

-- a test, and what it says
pub test : (b : Bool) → ((b ≡ true) × T b) ⊎ ((b ≡ false) × T (not b))
test true = inl (refl, tt)
test false = inr (refl, tt)

-- the bytes and objects still to come
abbrev pub waiting : ℕ → List ℕ → ℕ
waiting rest [] = 0
waiting rest (l ∷ ls) = suc (rest + (sum ls + length ls))

pub waiting_next : (ls : List ℕ) → waiting (get_or ls 0 0) ls ≡ sum ls + length ls
waiting_next [] = refl
waiting_next (l ∷ ls) = omega arith

abbrev pub turn : Bool → ℕ
turn b = cond b 1 0

pub turn-le : (b : Bool) → turn b ≤ 1
turn-le true = le_refl 1
turn-le false = zero-le

-- The objects of a tape, and how a write names them. Assumes nothing.
use Rattle.std.specs.Prelude.{ℕ, ◌≤◌, cond, List, [], ◌∷◌, take, drop, ◌==◌}

-- a tape mark, or a record with its bytes
pub data Object : Type 0 where
  mark : Object
  rec : List ℕ → Object

-- The objects of a list of lengths: a length of 0 is a tape mark, and the bytes of the records stand joined.
abbrev pub objects_of : List ℕ → List ℕ → List Object
objects_of [] bs = []
objects_of (l ∷ ls) bs = cond (l == 0) mark (rec (take l bs)) ∷ objects_of ls (drop l bs)

-- every number of the list is at most n
abbrev pub AllUpTo : ℕ → List ℕ → Type 0
AllUpTo n [] = Unit {0}
AllUpTo n (l ∷ ls) = (l ≤ n) × AllUpTo n ls

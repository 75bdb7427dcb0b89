-- Block Type and its number. Assumes nothing.
--
--   number_of t   the number that the type t says; only its low three bits are written
--   type_of n     the type that the low three bits of n stand for
--   NumbersKept   the type of a number has that number; TypesKept, and each type that three bits hold is that of its own number
use Rattle.std.specs.Prelude.{◌≡◌, ℕ, ◌%◌, ◌<◌, max, cond, ◌==◌}
use Rattle.block.specs.declared.block_type.BlockType.{BlockType}
use Rattle.block.specs.declared.block_type.BlockType.TheVariants.{Other0, Data, Other2, Other3, End, Check, Other6, Other7, Wide}

abbrev pub number_of : BlockType → ℕ
number_of Other0 = 0
number_of Data = 1
number_of Other2 = 2
number_of Other3 = 3
number_of End = 4
number_of Check = 5
number_of Other6 = 6
number_of Other7 = 7
number_of (Wide n) = max n 8

-- the type of a number below 8
abbrev pub type_below : ℕ → BlockType
type_below n =
    cond (n == 1) Data (cond (n == 2) Other2 (cond (n == 3) Other3 (cond (n == 4) End
    (cond (n == 5) Check (cond (n == 6) Other6 (cond (n == 7) Other7 Other0))))))

abbrev pub type_of : ℕ → BlockType
type_of n = type_below (n % 8)

abbrev pub NumbersKept : Type 0
NumbersKept = (n : ℕ) → number_of (type_of n) ≡ n % 8

abbrev pub TypesKept : Type 0
TypesKept = (t : BlockType) → number_of t < 8 → type_of (number_of t) ≡ t

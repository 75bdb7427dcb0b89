-- Page Type and its number. Assumes nothing.
--
--   number_of t   the number that the type t says; only its low three bits are written
--   type_of n     the type that the low three bits of n stand for
--   is_known t    t is Filler, Data or a tape mark
--   NumbersKept   the type of a number has that number; TypesKept, and each type that three bits hold is that of its own number
use Rattle.std.specs.Prelude.{◌≡◌, ℕ, ◌%◌, ◌<◌, max, Bool, true, false, cond, ◌==◌}
use Rattle.pages.specs.declared.page_type.PageType.{PageType}
use Rattle.pages.specs.declared.page_type.PageType.TheVariants.{Other0, Filler, Data, TapeMark, Other4, Other5, Other6, Other7, Wide}

abbrev pub number_of : PageType → ℕ
number_of Other0 = 0
number_of Filler = 1
number_of Data = 2
number_of TapeMark = 3
number_of Other4 = 4
number_of Other5 = 5
number_of Other6 = 6
number_of Other7 = 7
number_of (Wide n) = max n 8

-- the type of a number below 8
abbrev pub type_below : ℕ → PageType
type_below n =
    cond (n == 1) Filler (cond (n == 2) Data (cond (n == 3) TapeMark (cond (n == 4) Other4
    (cond (n == 5) Other5 (cond (n == 6) Other6 (cond (n == 7) Other7 Other0))))))

abbrev pub type_of : ℕ → PageType
type_of n = type_below (n % 8)

abbrev pub is_known : PageType → Bool
is_known t = elim t [ Filler ↦ true | Data ↦ true | TapeMark ↦ true | _ ↦ false ]

abbrev pub NumbersKept : Type 0
NumbersKept = (n : ℕ) → number_of (type_of n) ≡ n % 8

abbrev pub TypesKept : Type 0
TypesKept = (t : PageType) → number_of t < 8 → type_of (number_of t) ≡ t

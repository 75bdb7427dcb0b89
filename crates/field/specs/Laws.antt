-- What a field of words means and has, with exclusive-or as its sum. Assumes nothing.
--
--   Arithmetic            the meaning of a field: the width of its words, its product and its inverse
--   FieldLaws w mul inv   what makes a field of the words of w bits
--   PowersDiffer ..       the first n powers of a word differ from each other
--   IsField F             the arithmetic F is that of a field
--   point_of F i          2 to the power i, the point of position i of a column
--   gap_of F i k          the inverse of the difference of two points
use Rattle.std.specs.Prelude.{◌≡◌, ℕ, ◌^◌, ◌<◌, ◌≢◌, bit_xor}
use Rattle.field.specs.Sums.{power}

-- the product mul and the inverse inv make a field of the words of w bits
pub record FieldLaws (w : ℕ) (mul : ℕ → ℕ → ℕ) (inv : ℕ → ℕ) : Type 0 where
  pub mul-lt : (a b : ℕ) → a < 2 ^ w → b < 2 ^ w → mul a b < 2 ^ w
  pub mul_comm : (a b : ℕ) → a < 2 ^ w → b < 2 ^ w → mul a b ≡ mul b a
  pub mul_assoc : (a b c : ℕ) → a < 2 ^ w → b < 2 ^ w → c < 2 ^ w → mul (mul a b) c ≡ mul a (mul b c)
  pub mul-xor : (a b c : ℕ) → a < 2 ^ w → b < 2 ^ w → c < 2 ^ w → mul a (bit_xor b c) ≡ bit_xor (mul a b) (mul a c)
  pub mul-one : (a : ℕ) → a < 2 ^ w → mul 1 a ≡ a
  pub inv-lt : (a : ℕ) → a < 2 ^ w → inv a < 2 ^ w
  pub mul_inv : (a : ℕ) → a < 2 ^ w → (a ≢ 0) → mul a (inv a) ≡ 1

pub record Arithmetic : Type 0 where
  pub wide : ℕ
  pub times : ℕ → ℕ → ℕ
  pub over : ℕ → ℕ

abbrev pub IsField : Arithmetic → Type 0
IsField F = FieldLaws F.wide F.times F.over

abbrev pub point_of : Arithmetic → ℕ → ℕ
point_of F i = power F.times 2 i

abbrev pub gap_of : Arithmetic → ℕ → ℕ → ℕ
gap_of F i k = F.over (bit_xor (point_of F i) (point_of F k))

-- the first n powers of a differ from each other
abbrev pub PowersDiffer : (ℕ → ℕ → ℕ) → ℕ → ℕ → Type 0
PowersDiffer mul a n = (i j : ℕ) → i < n → j < n → power mul a i ≡ power mul a j → i ≡ j

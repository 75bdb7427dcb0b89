-- Block Types and their numbers. Assumes nothing.
use Rattle.std.proofs.Common.{◌≡◌, ℕ, zero, suc, ◌%◌, ◌<◌, refl, ap, mod-lt, lit<, arith}
use Rattle.block.specs.BlockType.{number_of, type_below, type_of, NumbersKept, TypesKept}
use Rattle.block.specs.declared.block_type.BlockType.TheVariants.{Other0, Data, Other2, Other3, End, Check, Other6, Other7, Wide}

-- only the low three bits count
pub type_low : (n : ℕ) → type_of (n % 8) ≡ type_of n
type_low n = let e : n % 8 % 8 ≡ n % 8 = omega arith in ap type_below e

below_again : (n : ℕ) → n < 8 → number_of (type_below n) ≡ n
below_again zero h = refl
below_again (suc zero) h = refl
below_again (suc (suc zero)) h = refl
below_again (suc (suc (suc zero))) h = refl
below_again (suc (suc (suc (suc zero)))) h = refl
below_again (suc (suc (suc (suc (suc zero))))) h = refl
below_again (suc (suc (suc (suc (suc (suc zero)))))) h = refl
below_again (suc (suc (suc (suc (suc (suc (suc zero))))))) h = refl
below_again (suc (suc (suc (suc (suc (suc (suc (suc n)))))))) h = absurd (omega arith)

pub number_again : NumbersKept
number_again n = below_again (n % 8) (mod-lt n (lit< tt))

pub type_again : TypesKept
type_again Other0 h = refl
type_again Data h = refl
type_again Other2 h = refl
type_again Other3 h = refl
type_again End h = refl
type_again Check h = refl
type_again Other6 h = refl
type_again Other7 h = refl
type_again (Wide n) h = absurd (omega arith)

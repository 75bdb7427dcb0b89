-- Page Types and their numbers. Assumes nothing.
use Rattle.std.proofs.Common.{◌≡◌, ℕ, zero, suc, ◌%◌, ◌<◌, refl, mod-lt, lit<, arith}
use Rattle.pages.specs.PageType.{number_of, type_below, NumbersKept, TypesKept}
use Rattle.pages.specs.declared.page_type.PageType.TheVariants.{Other0, Filler, Data, TapeMark, Other4, Other5, Other6, Other7, Wide}

below_again : (n : ℕ) → n < 8 → number_of (type_below n) ≡ n
below_again zero h = refl
below_again (suc zero) h = refl
below_again (suc (suc zero)) h = refl
below_again (suc (suc (suc zero))) h = refl
below_again (suc (suc (suc (suc zero)))) h = refl
below_again (suc (suc (suc (suc (suc zero))))) h = refl
below_again (suc (suc (suc (suc (suc (suc zero)))))) h = refl
below_again (suc (suc (suc (suc (suc (suc (suc zero))))))) h = refl
below_again (suc (suc (suc (suc (suc (suc (suc (suc n)))))))) h = absurd (omega arith)

pub number_again : NumbersKept
number_again n = below_again (n % 8) (mod-lt n (lit< tt))

pub type_again : TypesKept
type_again Other0 h = refl
type_again Filler h = refl
type_again Data h = refl
type_again TapeMark h = refl
type_again Other4 h = refl
type_again Other5 h = refl
type_again Other6 h = refl
type_again Other7 h = refl
type_again (Wide n) h = absurd (omega arith)

-- What a refusal tells: its number and its values. Assumes nothing.
--
--   tells e       the number of the refusal e and its values, in order
--   number_of e   its number
--   Answer T      a T, or the number and values of a refusal
--   told r        what a call answered, its refusal by number and values
--   and_then a f  the answer a if it is a refusal, else what f answers of its value
use Rattle.std.specs.Prelude.{ℕ, List, [], ◌∷◌, Ok, Err, Result}
use Rattle.refusal.specs.declared.Refusal.{Refusal}
use Rattle.refusal.specs.declared.Refusal.TheVariants.{
  WrongLength,
  NoSuchPlace,
  WrongCardSize,
  HoldStands,
  HoldsSpent,
  NotStanding,
  BadList,
  TooManyBlocks,
  NoRoom,
  NoSuchNumber,
  ShortBuffer,
  Ruined,
  NoColumn,
  Unlawful,
  TooManyMissing,
}

abbrev pub tells : Refusal → ℕ × List ℕ
tells (WrongLength length) = (1, length ∷ [])
tells (NoSuchPlace place) = (2, place ∷ [])
tells (WrongCardSize places) = (3, places ∷ [])
tells (HoldStands number) = (4, number ∷ [])
tells HoldsSpent = (5, [])
tells (NotStanding number) = (6, number ∷ [])
tells (BadList index) = (7, index ∷ [])
tells (TooManyBlocks blocks) = (8, blocks ∷ [])
tells (NoRoom places) = (9, places.0 ∷ places.1 ∷ [])
tells (NoSuchNumber number) = (10, number ∷ [])
tells (ShortBuffer length) = (11, length ∷ [])
tells (Ruined envelope entity place) = (12, envelope ∷ entity ∷ place ∷ [])
tells (NoColumn envelope entity word) = (13, envelope ∷ entity ∷ word ∷ [])
tells (Unlawful envelope entity block) = (14, envelope ∷ entity ∷ block ∷ [])
tells (TooManyMissing count) = (15, count ∷ [])

abbrev pub number_of : Refusal → ℕ
number_of e = (tells e).0

abbrev pub Answer : Type 0 → Type 0
Answer T = Result T (ℕ × List ℕ)

abbrev pub told : {T : Type 0} → Result T Refusal → Answer T
told (Ok x) = Ok x
told (Err e) = Err (tells e)

abbrev pub and_then : {T U : Type 0} → Answer T → (T → Answer U) → Answer U
and_then (Ok x) f = f x
and_then (Err e) f = Err e

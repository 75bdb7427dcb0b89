-- How a refusal is written: `refused`, its number, and its values, each after its name. Assumes nothing.
--
--   text e         the line that shows the refusal e
--   named w n      a blank, the word w, a blank, and the number n in decimal
--   values e       the values of e, each with its name
use Rattle.std.specs.Prelude.{ℕ, List, [], ◌++◌, codes, decimal}
use Rattle.refusal.specs.declared.Refusal.{Refusal}
use Rattle.refusal.specs.declared.Refusal.TheVariants.{
  WrongLength,
  NoSuchPlace,
  WrongCardSize,
  HoldStands,
  HoldsSpent,
  NotStanding,
  BadList,
  TooManyBlocks,
  NoRoom,
  NoSuchNumber,
  ShortBuffer,
  Ruined,
  NoColumn,
  Unlawful,
  TooManyMissing,
}
use Rattle.refusal.specs.Tells.{number_of}

abbrev pub values : Refusal → List ℕ
values (WrongLength length) = codes " length " ++ decimal length
values (NoSuchPlace place) = codes " place " ++ decimal place
values (WrongCardSize places) = codes " places " ++ decimal places
values (HoldStands number) = codes " hold " ++ decimal number
values HoldsSpent = []
values (NotStanding number) = codes " hold " ++ decimal number
values (BadList index) = codes " index " ++ decimal index
values (TooManyBlocks blocks) = codes " blocks " ++ decimal blocks
values (NoRoom places) = codes " needed " ++ (decimal places.0 ++ (codes " left " ++ decimal places.1))
values (NoSuchNumber number) = codes " number " ++ decimal number
values (ShortBuffer length) = codes " length " ++ decimal length
values (Ruined envelope entity place) =
    codes " envelope " ++ (decimal envelope ++ (codes " entity " ++ (decimal entity ++ (codes " place " ++ decimal place))))
values (NoColumn envelope entity word) =
    codes " envelope " ++ (decimal envelope ++ (codes " entity " ++ (decimal entity ++ (codes " word " ++ decimal word))))
values (Unlawful envelope entity block) =
    codes " envelope " ++ (decimal envelope ++ (codes " entity " ++ (decimal entity ++ (codes " block " ++ decimal block))))
values (TooManyMissing count) = codes " count " ++ decimal count

abbrev pub text : Refusal → List ℕ
text e = codes "refused " ++ (decimal (number_of e) ++ values e)

-- Answers as the numbers that a C program gets. Assumes nothing.
--
--   refused_with a   0, or the number of the refusal
--   verdict a        1 for yes, 0 for no, 2 for a refusal
use Rattle.std.specs.Prelude.{ℕ, Bool, true, false, Ok, Err}
use Rattle.refusal.specs.Tells.{Answer}

abbrev pub refused_with : Answer (Unit {0}) → ℕ
refused_with (Ok tt) = 0
refused_with (Err t) = t.0

abbrev pub verdict : Answer Bool → ℕ
verdict (Ok true) = 1
verdict (Ok false) = 0
verdict (Err t) = 2

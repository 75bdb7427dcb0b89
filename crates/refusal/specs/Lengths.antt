-- The refusal of a buffer's length. Assumes nothing.
--
--   of_length wanted found x   x, or refusal 1 with the length that was found, if another was wanted
use Rattle.std.specs.Prelude.{ℕ, cond, [], ◌∷◌, Ok, Err, ◌==◌}
use Rattle.refusal.specs.Tells.{Answer}

abbrev pub of_length : {A : Type 0} → ℕ → ℕ → A → Answer A
of_length wanted found x = cond (found == wanted) (Ok x) (Err (1, found ∷ []))

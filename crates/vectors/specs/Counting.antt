-- Counters of 32 bits that stop at their end: one more, and one more only for what is wrong. Assumes nothing.
use Rattle.std.specs.Prelude.{ℕ, ◌+◌, ◌-◌, ◌^◌, min, Bool, cond}

abbrev pub more : ℕ → ℕ
more n = min (n + 1) (2 ^ 32 - 1)

abbrev pub wrong_after : ℕ → Bool → ℕ
wrong_after n right = cond right n (more n)

-- Bytes to compare with: fill_byte seed i is the byte at place i. Assumes nothing.
use Rattle.std.specs.Prelude.{ℕ, ◌+◌, ◌*◌, ◌/◌, ◌%◌}

abbrev pub fill_byte : ℕ → ℕ → ℕ
fill_byte seed i = (seed * 131 + i * 7 + i / 251) % 256

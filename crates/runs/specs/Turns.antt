-- Puts in turns, the place and the block of each told by its number. Assumes nothing.
--
--   PutInTurn gives cs i after   turn i puts a block that it gives at the place that it gives: the places held cs and hold after
use Rattle.std.specs.Prelude.{◌≡◌, ℕ, List}
use Rattle.std.specs.Borrow.{Bor}
use Rattle.cards.specs.Content.{Content}
use Rattle.cards.specs.Calls.{put_contents}

abbrev pub PutInTurn : (ℕ → ℕ × Bor (List ℕ) → Type 0) → List Content → ℕ → List Content → Type 0
PutInTurn gives cs i after = (put : ℕ × Bor (List ℕ)) × (gives i put) × (after ≡ put_contents cs put.0 put.1.now)

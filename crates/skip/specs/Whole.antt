-- Every block that stands on a skip card has 8,256 bytes if every one on the card below has. Assumes nothing.
use Rattle.std.specs.Prelude.{ℕ, ◌-◌, List, length}
use Rattle.cards.specs.Content.{Content, content_at, Whole}
use Rattle.cards.specs.Whole.{whole-counted}
use Rattle.skip.specs.Skipped.{unlisted, skipped}

pub skipped-whole : (bad : List ℕ) (cs : List Content) → Whole cs → Whole (skipped bad cs)
unfolding skipped
skipped-whole bad cs w =
    whole-counted (λ i. content_at cs (unlisted bad i)) (length cs - length bad) (λ i h. w (unlisted bad i))

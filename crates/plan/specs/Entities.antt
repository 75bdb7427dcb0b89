-- The entities of a plan, and the places that a write needs. Assumes nothing.
--
--   entities bs          the data blocks bs, 16 to an entity
--   entity_places r es   the places of the entities es: d data blocks and r check blocks each
--   places_needed r ls   the places of a write, its end group counted
use Rattle.std.specs.Prelude.{ℕ, zero, suc, ◌+◌, List, [], ◌∷◌, length, take, drop}
use Rattle.plan.specs.declared.page.PlannedPage.{PlannedPage}
use Rattle.plan.specs.Plan.{plan}

-- so many entities at most
abbrev pub groups : ℕ → List (List PlannedPage) → List (List (List PlannedPage))
groups zero bs = []
groups (suc n) [] = []
groups (suc n) (b ∷ bs) = take 16 (b ∷ bs) ∷ groups n (drop 16 (b ∷ bs))

abbrev pub entities : List (List PlannedPage) → List (List (List PlannedPage))
entities bs = groups (length bs) bs

unfoldable pub entity_places : ℕ → List (List (List PlannedPage)) → ℕ
entity_places r [] = 0
entity_places r (e ∷ es) = length e + r + entity_places r es

-- the end group is eleven end blocks
abbrev pub places_needed : ℕ → List ℕ → ℕ
places_needed r ls = entity_places r (entities (plan ls)) + 11

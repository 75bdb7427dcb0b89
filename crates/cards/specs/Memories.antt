-- The memories of a four-track card, in the order of its tracks. Assumes nothing.
--
--   memories s                   what the four memories hold
--   HoldsTheSame s t             the cards s and t borrow the same four memories
--   ChangesTrack ms j ms' After  the memories are as they were but that of track j, of which After holds
use Rattle.std.specs.Prelude.{◌≡◌, ℕ, List, [], ◌∷◌, slice_set}
use Rattle.cards.specs.declared.tracks.FourTrackCard.{FourTrackCard}

abbrev pub memories : FourTrackCard → List (List ℕ)
memories s = s.first.now ∷ s.second.now ∷ s.third.now ∷ s.fourth.now ∷ []

abbrev pub HoldsTheSame : FourTrackCard → FourTrackCard → Type 0
HoldsTheSame s t =
    (t.first.ghost_name ≡ s.first.ghost_name) × (t.second.ghost_name ≡ s.second.ghost_name)
    × (t.third.ghost_name ≡ s.third.ghost_name) × (t.fourth.ghost_name ≡ s.fourth.ghost_name)

abbrev pub ChangesTrack : List (List ℕ) → ℕ → List (List ℕ) → (List ℕ → Type 0) → Type 0
ChangesTrack ms j ms' After = (mem : List ℕ) × (After mem) × (ms' ≡ slice_set ms j mem)

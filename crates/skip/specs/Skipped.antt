-- The places of a card that a list of bad places leaves. Assumes nothing.
--
--   listed p bad             whether the list names place p
--   unlisted_from bad p n    those of the n places from p on that the list does not name, in order
--   spared bad cs            the contents of the places that the list does not name, in order
--   stepped_over b p         place p, or the next one if the bad place b is p or lies below it
--   unlisted bad p           place p, moved up over the bad places one by one
--   skipped bad cs           the contents that are found so, as many as there are places more than bad ones
--   put_below, strike_below  the contents of the card below after a put or a strike above it, granted or refused
--   SkipsTheListed           for a lawful list these are the contents of the unlisted places, in order, and all that is left
use Rattle.std.specs.Prelude.{◌≡◌, ℕ, zero, suc, ◌+◌, ◌-◌, Bool, false, cond, ◌||◌, List, [], ◌∷◌, map, length, ◌==◌, nat_le, slice_set}
use Rattle.std.specs.List.{range_with_len}
use Rattle.cards.specs.Content.{Content, block, lost, content_at}
use Rattle.cards.specs.Calls.{judged, judged_place, if_granted}
use Rattle.skip.specs.BadPlaces.{Lawful}

abbrev pub listed : ℕ → List ℕ → Bool
listed p [] = false
listed p (b ∷ bs) = b == p || listed p bs

abbrev pub unlisted_from : List ℕ → ℕ → ℕ → List ℕ
unlisted_from bad p zero = []
unlisted_from bad p (suc n) =
    let more : List ℕ = unlisted_from bad (p + 1) n in
    cond (listed p bad) more (p ∷ more)

unfoldable pub spared : List ℕ → List Content → List Content
spared bad cs = map (content_at cs) (unlisted_from bad 0 (length cs))

abbrev pub stepped_over : ℕ → ℕ → ℕ
stepped_over b p = cond (nat_le b p) (p + 1) p

abbrev pub unlisted : List ℕ → ℕ → ℕ
unlisted [] p = p
unlisted (b ∷ bs) p = unlisted bs (stepped_over b p)

unfoldable pub skipped : List ℕ → List Content → List Content
skipped bad cs = map (λ i. content_at cs (unlisted bad i)) (range_with_len 0 (length cs - length bad))

abbrev pub put_below : List ℕ → List Content → ℕ → List ℕ → List Content
put_below bad cs p bs =
    if_granted (judged (length bs) (length cs - length bad) p) (slice_set cs (unlisted bad p) (block bs)) cs

abbrev pub strike_below : List ℕ → List Content → ℕ → List Content
strike_below bad cs p = if_granted (judged_place (length cs - length bad) p) (slice_set cs (unlisted bad p) lost) cs

abbrev pub SkipsTheListed : Type 0
SkipsTheListed =
    (bad : List ℕ) (cs : List Content) → Lawful (length cs) bad
    → (skipped bad cs ≡ spared bad cs) × (length bad + length (skipped bad cs) ≡ length cs)

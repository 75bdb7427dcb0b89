-- For a lawful list, moving up over the bad places finds exactly the unlisted ones, in order. Assumes nothing.
use Rattle.std.proofs.Common.{◌≡◌, ℕ, zero, suc, ◌+◌, ◌-◌, ◌<◌, ◌≤◌, false, cond, ◌||◌, eqb, leb, List, [], ◌∷◌, map, length, get_or, sym, refl, ap, ◌∙◌, subst, ⊎_elim, arith}
use mathlib.Core.List.{map-map}
use Rattle.std.specs.List.{range_with_len}
use Rattle.std.proofs.lemmas.List.FromFn.{length-map-range_with_len}
use Rattle.std.proofs.lemmas.Bool.{cases_lt, cond-true, cond-false, le-leb, lt-leb, eq-eqb, ne_eqb, or_from, or_left}
use Rattle.cards.specs.Content.{Content, content_at}
use Rattle.skip.specs.BadPlaces.{Lawful}
use Rattle.skip.specs.Skipped.{listed, unlisted_from, spared, unlisted, skipped, SkipsTheListed}

-- a list that rises strictly, from lo on and below hi
abbrev Rises : ℕ → ℕ → List ℕ → Type 0
Rises lo hi [] = Unit {0}
Rises lo hi (b ∷ bs) = (lo ≤ b) × (b < hi) × Rises (b + 1) hi bs

rises_from_entries : (bad : List ℕ) (lo hi : ℕ) → (0 < length bad → lo ≤ get_or bad 0 0)
    → ((i : ℕ) → i < length bad → get_or bad i 0 < hi)
    → ((i : ℕ) → i + 1 < length bad → get_or bad i 0 < get_or bad (i + 1) 0) → Rises lo hi bad
rises_from_entries [] lo hi first below rising = tt
rises_from_entries (b ∷ bs) lo hi first below rising = (
  first (omega arith),
  below 0 (omega arith),
  rises_from_entries bs (b + 1) hi (λ h. let r = rising 0 (omega arith) in omega arith)
      (λ i h. below (suc i) (omega arith))
      (λ i h.
      let e : suc i + 1 ≡ suc (i + 1) = omega arith in
      subst (λ z. get_or bs i 0 < get_or (b ∷ bs) z 0) e (rising (suc i) (omega arith))),
)

rises-few : (bad : List ℕ) (lo hi : ℕ) → Rises lo hi bad → lo ≤ hi → lo + length bad ≤ hi
rises-few [] lo hi r h = omega arith
rises-few (b ∷ bs) lo hi r h = let k = rises-few bs (b + 1) hi r.2 (omega arith) in omega arith

-- a list that lies wholly above p neither moves nor names it
above_same : (bs : List ℕ) (lo hi p : ℕ) → Rises lo hi bs → p < lo → unlisted bs p ≡ p
above_same [] lo hi p r h = refl
above_same (b ∷ bs) lo hi p r h =
    ap (unlisted bs) (cond-false (leb b p) (p + 1) p (lt-leb b p (omega arith)))
    ∙ above_same bs (b + 1) hi p r.2 (omega arith)

above-unlisted : (bs : List ℕ) (lo hi p : ℕ) → Rises lo hi bs → p < lo → listed p bs ≡ false
above-unlisted [] lo hi p r h = refl
above-unlisted (b ∷ bs) lo hi p r h =
    or_from (eqb b p) (listed p bs) (ne_eqb b p (λ e. omega arith))
    (above-unlisted bs (b + 1) hi p r.2 (omega arith))

-- an entry below all places counts for nothing
unlisted_from_above : (b : ℕ) (bs : List ℕ) (n p : ℕ) → b < p → unlisted_from (b ∷ bs) p n ≡ unlisted_from bs p n
unlisted_from_above b bs zero p h = refl
unlisted_from_above b bs (suc n) p h =
    ap (λ t. cond (t || listed p bs) (unlisted_from (b ∷ bs) (p + 1) n) (p ∷ unlisted_from (b ∷ bs) (p + 1) n))
    (ne_eqb b p (λ e. omega arith))
    ∙ ap (λ z. cond (listed p bs) z (p ∷ z)) (unlisted_from_above b bs n (p + 1) (omega arith))

-- an entry at or below all places moves each by one
stepped_all : (b : ℕ) (bs : List ℕ) (n a : ℕ) → b ≤ a
    → map (unlisted (b ∷ bs)) (range_with_len a n) ≡ map (unlisted bs) (range_with_len (a + 1) n)
stepped_all b bs zero a h = refl
stepped_all b bs (suc n) a h =
    ap (λ z. unlisted bs z ∷ map (unlisted (b ∷ bs)) (range_with_len (a + 1) n))
    (cond-true (leb b a) (a + 1) a (le-leb b a h))
    ∙ ap (λ z. unlisted bs (a + 1) ∷ z) (stepped_all b bs n (a + 1) (omega arith))

unlisted_are : (n : ℕ) (bad : List ℕ) (a : ℕ) → Rises a (a + n) bad
    → unlisted_from bad a n ≡ map (unlisted bad) (range_with_len a (n - length bad))
unlisted_are zero [] a r = refl
unlisted_are zero (b ∷ bs) a r = absurd (omega arith)
unlisted_are (suc n) [] a r =
    let e : suc n - 0 ≡ suc (n - 0) = omega arith in
    ap (λ z. a ∷ z) (unlisted_are n [] (a + 1) tt) ∙ sym (ap (λ z. map (unlisted []) (range_with_len a z)) e)
unlisted_are (suc n) (b ∷ bs) a r =
    let h : a + suc n ≡ (a + 1) + n = omega arith in
    let rest : Rises (b + 1) ((a + 1) + n) bs = subst (λ z. Rises (b + 1) z bs) h r.2 in
    ⊎_elim
    (λ (l : a < b).
    let up : Rises (a + 1) ((a + 1) + n) (b ∷ bs) = (omega arith, omega arith, rest) in
    let few = rises-few (b ∷ bs) (a + 1) ((a + 1) + n) up (omega arith) in
    let e : suc n - length (b ∷ bs) ≡ suc (n - length (b ∷ bs)) = omega arith in
    cond-false (listed a (b ∷ bs)) (unlisted_from (b ∷ bs) (a + 1) n) (a ∷ unlisted_from (b ∷ bs) (a + 1) n)
    (above-unlisted (b ∷ bs) (a + 1) ((a + 1) + n) a up (omega arith))
    ∙ ap (λ z. a ∷ z) (unlisted_are n (b ∷ bs) (a + 1) up)
    ∙ ap (λ z. z ∷ map (unlisted (b ∷ bs)) (range_with_len (a + 1) (n - length (b ∷ bs))))
    (sym (above_same (b ∷ bs) (a + 1) ((a + 1) + n) a up (omega arith)))
    ∙ sym (ap (λ z. map (unlisted (b ∷ bs)) (range_with_len a z)) e))
    (λ l.
    let same : b ≡ a = omega arith in
    let from : Rises (a + 1) ((a + 1) + n) bs = subst (λ z. Rises (z + 1) ((a + 1) + n) bs) same rest in
    let e : suc n - length (b ∷ bs) ≡ n - length bs = omega arith in
    cond-true (listed a (b ∷ bs)) (unlisted_from (b ∷ bs) (a + 1) n) (a ∷ unlisted_from (b ∷ bs) (a + 1) n)
    (or_left (eqb b a) (listed a bs) (eq-eqb b a same))
    ∙ unlisted_from_above b bs n (a + 1) (omega arith)
    ∙ unlisted_are n bs (a + 1) from
    ∙ sym (stepped_all b bs (n - length bs) a l)
    ∙ sym (ap (λ z. map (unlisted (b ∷ bs)) (range_with_len a z)) e))
    (cases_lt a b)

module _ (bad : List ℕ) (cs : List Content) (l : Lawful (length cs) bad) where
  lawful_rises : Rises 0 (0 + length cs) bad
  lawful_rises =
      rises_from_entries bad 0 (0 + length cs) (λ h. omega arith) (λ i h. let b = l.below i h in omega arith)
      l.rising

  pub skipped_is_spared : skipped bad cs ≡ spared bad cs
  unfolding skipped spared
  skipped_is_spared =
      sym (map-map (content_at cs) (unlisted bad) (range_with_len 0 (length cs - length bad)))
      ∙ ap (map (content_at cs)) (sym (unlisted_are (length cs) bad 0 lawful_rises))

  skipped_left : length bad + length (skipped bad cs) ≡ length cs
  unfolding skipped
  skipped_left =
      let n = length-map-range_with_len (λ i. content_at cs (unlisted bad i)) 0 (length cs - length bad) in
      let few = rises-few bad 0 (0 + length cs) lawful_rises (omega arith) in
      omega arith

pub skips_the_listed : SkipsTheListed
skips_the_listed bad cs l = (skipped_is_spared bad cs l, skipped_left bad cs l)

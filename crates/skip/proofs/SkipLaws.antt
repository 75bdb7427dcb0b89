-- Laws of the calls of a skip card: a change of one place below is a change of one place. Assumes nothing.
use Rattle.std.proofs.Common.{◌≡◌, ℕ, ◌+◌, ◌-◌, ◌<◌, ◌≤◌, leb, ◌≢◌, List, [], ◌∷◌, map, length, set, sym, refl, ap, ◌∙◌, ⊎_elim, arith}
use Rattle.std.specs.List.{range_with_len}
use Rattle.std.proofs.lemmas.List.{length-set, get_or-set_same, get_or-set_other}
use Rattle.std.proofs.lemmas.List.FromFn.{length-map-range_with_len, get_or-map-range_with_len}
use Rattle.std.proofs.lemmas.Bool.{cases_lt, cond_both}
use Rattle.std.proofs.lemmas.Bool.Decides.{nat_tests}
use Rattle.cards.specs.Content.{Content, block, lost, content_at}
use Rattle.cards.specs.Calls.{judged, judged_place, if_granted, put_contents, strike_contents}
use Rattle.skip.specs.Skipped.{stepped_over, unlisted, skipped, put_below, strike_below}
use Rattle.cards.proofs.AnswerLaws.{by_answer, judged_within, judged_place_lem}
use Rattle.cards.proofs.CountedLaws.{counted-set}

pub stepped_bound : (b p : ℕ) → stepped_over b p ≤ p + 1
stepped_bound b p = cond_both (leb b p) (p + 1) p (λ z. z ≤ p + 1) (λ _. omega arith) (λ _. omega arith)

stepped_strict : (b i j : ℕ) → i < j → stepped_over b i < stepped_over b j
stepped_strict b i j h = grind (arith, nat_tests)

pub unlisted_bound : (bad : List ℕ) (p : ℕ) → unlisted bad p ≤ p + length bad
unlisted_bound [] p = omega arith
unlisted_bound (b ∷ bs) p = let h = unlisted_bound bs (stepped_over b p) in let k = stepped_bound b p in omega arith

unlisted_strict : (bad : List ℕ) (i j : ℕ) → i < j → unlisted bad i < unlisted bad j
unlisted_strict [] i j h = h
unlisted_strict (b ∷ bs) i j h = unlisted_strict bs (stepped_over b i) (stepped_over b j) (stepped_strict b i j h)

unlisted-apart : (bad : List ℕ) (i j : ℕ) → i ≢ j → unlisted bad i ≢ unlisted bad j
unlisted-apart bad i j ne e =
    ⊎_elim (λ (h : i < j). let k = unlisted_strict bad i j h in omega arith)
    (λ h. let k = unlisted_strict bad j i (omega arith) in omega arith) (cases_lt i j)

pub length-skipped : (bad : List ℕ) (cs : List Content) → length (skipped bad cs) ≡ length cs - length bad
unfolding skipped
length-skipped bad cs = length-map-range_with_len (λ i. content_at cs (unlisted bad i)) 0 (length cs - length bad)

pub content_at-skipped : (bad : List ℕ) (cs : List Content) (i : ℕ) → i < length cs - length bad
    → content_at (skipped bad cs) i ≡ content_at cs (unlisted bad i)
unfolding skipped
content_at-skipped bad cs i h =
    get_or-map-range_with_len (λ j. content_at cs (unlisted bad j)) 0 (length cs - length bad) i i lost h (omega arith)

pub skipped-set : (bad : List ℕ) (cs : List Content) (p : ℕ) (x : Content) → p < length cs - length bad
    → skipped bad (set cs (unlisted bad p) x) ≡ set (skipped bad cs) p x
unfolding skipped
skipped-set bad cs p x h =
    let b = unlisted_bound bad p in
    ap (λ z. map (λ i. content_at (set cs (unlisted bad p) x) (unlisted bad i)) (range_with_len 0 (z - length bad)))
    (length-set cs (unlisted bad p) x)
    ∙ counted-set (λ i. content_at cs (unlisted bad i)) (λ i. content_at (set cs (unlisted bad p) x) (unlisted bad i))
    (length cs - length bad) p x h
    (get_or-set_same cs (unlisted bad p) x lost (omega arith))
    (λ i ne. get_or-set_other cs (unlisted bad p) (unlisted bad i) x lost (unlisted-apart bad i p ne))

-- what the places hold after a put or a strike, from what the card below holds
pub skipped-put : (bad : List ℕ) (cs : List Content) (p : ℕ) (bs : List ℕ)
    → skipped bad (put_below bad cs p bs) ≡ put_contents (skipped bad cs) p bs
skipped-put bad cs p bs =
    by_answer
    (λ a. skipped bad (if_granted a (set cs (unlisted bad p) (block bs)) cs)
    ≡ if_granted a (set (skipped bad cs) p (block bs)) (skipped bad cs))
    (judged (length bs) (length cs - length bad) p)
    (λ g. skipped-set bad cs p (block bs) (judged_within (length bs) (length cs - length bad) p g))
    (λ _. refl)
    ∙ ap (λ z. if_granted (judged (length bs) z p) (set (skipped bad cs) p (block bs)) (skipped bad cs))
    (sym (length-skipped bad cs))

pub skipped-strike : (bad : List ℕ) (cs : List Content) (p : ℕ)
    → skipped bad (strike_below bad cs p) ≡ strike_contents (skipped bad cs) p
skipped-strike bad cs p =
    by_answer
    (λ a. skipped bad (if_granted a (set cs (unlisted bad p) lost) cs)
    ≡ if_granted a (set (skipped bad cs) p lost) (skipped bad cs))
    (judged_place (length cs - length bad) p)
    (λ g. skipped-set bad cs p lost (judged_place_lem (length cs - length bad) p g))
    (λ _. refl)
    ∙ ap (λ z. if_granted (judged_place z p) (set (skipped bad cs) p lost) (skipped bad cs)) (sym (length-skipped bad cs))

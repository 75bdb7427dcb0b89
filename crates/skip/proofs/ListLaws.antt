-- Laws of the judgement of a list of bad places. Assumes nothing.
use Rattle.std.proofs.Common.{◌≡◌, ℕ, zero, suc, ◌+◌, ◌-◌, ◌<◌, ◌≤◌, Bool, true, false, cond, ltb, List, [], ◌∷◌, length, get_or, Ok, Err, sym, refl, ap, ◌∙◌, ⊎_elim, arith}
use Rattle.std.specs.List.{range_with_len}
use Rattle.std.proofs.lemmas.Bool.{cases_eq, cond-true, cond-false, le-ltb}
use Rattle.std.proofs.lemmas.Bool.Decides.{nat_tests}
use Rattle.refusal.specs.Tells.{Answer}
use Rattle.skip.specs.BadPlaces.{list_max, good_entry, judged_at, list_answer, Lawful, GrantsLawfulLists}

-- one entry more
pub judged-step : (P : ℕ) (bad : List ℕ) (i n : ℕ) → i < n
    → judged_at P bad (range_with_len i (n - i)) ≡ cond (good_entry P bad i)
    (judged_at P bad (range_with_len (i + 1) (n - (i + 1)))) (Err (7, i ∷ []))
judged-step P bad i n h = let e : n - i ≡ suc (n - (i + 1)) = omega arith in ap (λ z. judged_at P bad (range_with_len i z)) e

-- the least place that entry i may name
abbrev pub least_at : List ℕ → ℕ → ℕ
least_at bad zero = 0
least_at bad (suc i) = get_or bad i 0 + 1

pub least_more : (bad : List ℕ) (i : ℕ) → least_at bad (i + 1) ≡ get_or bad i 0 + 1
least_more bad i = let e : i + 1 ≡ suc i = omega arith in ap (least_at bad) e

pub good_from_least : (P : ℕ) (bad : List ℕ) (i : ℕ) → least_at bad i ≤ get_or bad i 0 → get_or bad i 0 < P
    → good_entry P bad i ≡ true
good_from_least P bad zero l h = grind (arith, nat_tests)
good_from_least P bad (suc i) l h =
    let e : suc i - 1 ≡ i = omega arith in
    let k = ap (λ z. get_or bad z 0) e in
    grind (arith, nat_tests)

granted_first : (b : Bool) (more : Answer (Unit {0})) (e : ℕ × List ℕ) → cond b more (Err e) ≡ Ok tt
    → (b ≡ true) × (more ≡ Ok tt)
granted_first true more e h = (refl, h)
granted_first false more e h = let z : ◌≡◌ {A = ℕ} 0 1 = cc in absurd (omega arith)

-- what is granted has good entries only, and the other way round
good_from_granted : (P : ℕ) (bad : List ℕ) (n a : ℕ) → judged_at P bad (range_with_len a n) ≡ Ok tt
    → (i : ℕ) → a ≤ i → i < a + n → good_entry P bad i ≡ true
good_from_granted P bad zero a h i low high = absurd (omega arith)
good_from_granted P bad (suc n) a h i low high =
    let f = granted_first (good_entry P bad a) (judged_at P bad (range_with_len (a + 1) n)) (7, a ∷ []) h in
    ⊎_elim (λ (e : i ≡ a). ap (good_entry P bad) e ∙ f.0)
    (λ ne. good_from_granted P bad n (a + 1) f.1 i (omega arith) (omega arith)) (cases_eq i a)

granted_from_good : (P : ℕ) (bad : List ℕ) (n a : ℕ) → ((i : ℕ) → a ≤ i → i < a + n → good_entry P bad i ≡ true)
    → judged_at P bad (range_with_len a n) ≡ Ok tt
granted_from_good P bad zero a h = refl
granted_from_good P bad (suc n) a h =
    cond-true (good_entry P bad a) (judged_at P bad (range_with_len (a + 1) n)) (Err (7, a ∷ []))
    (h a (omega arith) (omega arith))
    ∙ granted_from_good P bad n (a + 1) (λ i low high. h i (omega arith) (omega arith))

granted-few : (P : ℕ) (bad : List ℕ) → list_answer P bad ≡ Ok tt → length bad ≤ list_max
granted-few P bad h = grind (arith, nat_tests)

granted_all : (P : ℕ) (bad : List ℕ) → list_answer P bad ≡ Ok tt → judged_at P bad (range_with_len 0 (length bad)) ≡ Ok tt
granted_all P bad h =
    sym (cond-false (ltb list_max (length bad)) (Err (7, list_max ∷ [])) (judged_at P bad (range_with_len 0 (length bad)))
    (le-ltb list_max (length bad) (granted-few P bad h))) ∙ h

good-below : (P : ℕ) (bad : List ℕ) (i : ℕ) → good_entry P bad i ≡ true → get_or bad i 0 < P
good-below P bad i h = grind (arith, nat_tests)

good-rising : (P : ℕ) (bad : List ℕ) (i : ℕ) → good_entry P bad (i + 1) ≡ true → get_or bad i 0 < get_or bad (i + 1) 0
good-rising P bad i h =
    let e : (i + 1) - 1 ≡ i = omega arith in
    let k = ap (λ z. get_or bad z 0) e in
    grind (arith, nat_tests)

good_entry_lem : (P : ℕ) (bad : List ℕ) → Lawful P bad → (i : ℕ) → i < length bad → good_entry P bad i ≡ true
good_entry_lem P bad l zero h = let b = l.below 0 h in grind (arith, nat_tests)
good_entry_lem P bad l (suc i) h =
    let b = l.below (suc i) h in
    let r = l.rising i (omega arith) in
    let e : suc i - 1 ≡ i = omega arith in
    let f : i + 1 ≡ suc i = omega arith in
    let k = ap (λ z. get_or bad z 0) e in
    let m = ap (λ z. get_or bad z 0) f in
    grind (arith, nat_tests)

pub lawful_from_granted : (P : ℕ) (bad : List ℕ) → list_answer P bad ≡ Ok tt → Lawful P bad
lawful_from_granted P bad h =
    let good = good_from_granted P bad (length bad) 0 (granted_all P bad h) in
    record {
      few = granted-few P bad h;
      below = λ i l. good-below P bad i (good i (omega arith) (omega arith));
      rising = λ i l. good-rising P bad i (good (i + 1) (omega arith) (omega arith));
    }

pub grants_lawful_lists : GrantsLawfulLists
grants_lawful_lists P bad = (
  lawful_from_granted P bad,
  λ l.
      cond-false (ltb list_max (length bad)) (Err (7, list_max ∷ [])) (judged_at P bad (range_with_len 0 (length bad)))
      (le-ltb list_max (length bad) l.few)
      ∙ granted_from_good P bad (length bad) 0 (λ i low high. good_entry_lem P bad l i (omega arith)),
)

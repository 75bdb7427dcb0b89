-- Laws of places that are dealt out to four memories. Assumes nothing.
use Rattle.std.proofs.Common.{◌≡◌, ℕ, ◌*◌, ◌/◌, ◌%◌, ◌<◌, ◌≢◌, List, [], map, length, set, Ok, sym, refl, ap, ◌∙◌, subst, ⊎_elim, arith}
use Rattle.std.specs.List.{range_with_len}
use Rattle.std.proofs.lemmas.List.{get_or-set_same, get_or-set_other}
use Rattle.std.proofs.lemmas.List.FromFn.{length-map-range_with_len, get_or-map-range_with_len}
use Rattle.std.proofs.lemmas.Bool.{cases_eq}
use Rattle.cards.specs.Content.{Content, block, lost, content_at}
use Rattle.cards.specs.Calls.{judged, judged_place, if_granted, put_contents, strike_contents}
use Rattle.cards.specs.Rows.{row_count, row_at, row_len, rows, stored, struck}
use Rattle.cards.specs.Tracks.{memory_of, shortest, dealt_at, dealt, on_track, put_memories, strike_memories}
use Rattle.cards.specs.Whole.{shortest-le}
use Rattle.cards.proofs.AnswerLaws.{by_answer, judged-length, judged_within, judged_ok, judged_place_lem, judged_place_ok}
use Rattle.cards.proofs.CountedLaws.{counted-set}
use Rattle.cards.proofs.RowLaws.{Changes, length-rows, content_at-rows, stored_changes, struck_changes}

pub length-dealt : (ms : List (List ℕ)) → length (dealt ms) ≡ 4 * shortest ms
unfolding dealt
length-dealt ms = length-map-range_with_len (dealt_at ms) 0 (4 * shortest ms)

pub content_at-dealt : (ms : List (List ℕ)) (i : ℕ) → i < 4 * shortest ms → content_at (dealt ms) i ≡ dealt_at ms i
unfolding dealt
content_at-dealt ms i h = get_or-map-range_with_len (dealt_at ms) 0 (4 * shortest ms) i i lost h (omega arith)

pub row_within : (ms : List (List ℕ)) (p : ℕ) → p < 4 * shortest ms → p / 4 < row_count (memory_of ms (p % 4))
row_within ms p h = let s = shortest-le ms (p % 4) (omega arith) in omega arith

-- what a call for a place answers is what it answers for the place's row on its track
module _ (ms : List (List ℕ)) (p : ℕ) where
  within : p < length (dealt ms) → p < 4 * shortest ms
  within l = subst (λ z. p < z) (length-dealt ms) l

  row_there : p < length (dealt ms) → p / 4 < length (rows (memory_of ms (p % 4)))
  row_there l = rw (length-rows (memory_of ms (p % 4))) (row_within ms p (within l))

  pub judged_on_track : (n : ℕ) → judged n (length (dealt ms)) p ≡ Ok tt
      → judged n (length (rows (memory_of ms (p % 4)))) (p / 4) ≡ Ok tt
  judged_on_track n g =
      judged_ok n (length (rows (memory_of ms (p % 4)))) (p / 4) (judged-length n (length (dealt ms)) p g)
      (row_there (judged_within n (length (dealt ms)) p g))

  pub judged_place_on_track : judged_place (length (dealt ms)) p ≡ Ok tt
      → judged_place (length (rows (memory_of ms (p % 4)))) (p / 4) ≡ Ok tt
  judged_place_on_track g =
      judged_place_ok (length (rows (memory_of ms (p % 4)))) (p / 4) (row_there (judged_place_lem (length (dealt ms)) p g))

  pub content_on_track : p < length (dealt ms) → content_at (rows (memory_of ms (p % 4))) (p / 4) ≡ content_at (dealt ms) p
  content_on_track l =
      content_at-rows (memory_of ms (p % 4)) (p / 4) (row_within ms p (within l)) ∙ sym (content_at-dealt ms p (within l))

-- the memory of place p changes in the row of p alone
module _ (ms : List (List ℕ)) (four : length ms ≡ 4) (p : ℕ) (l : p < 4 * shortest ms) (after : List ℕ) (x : Content)
    (c : Changes (memory_of ms (p % 4)) after (p / 4) x) where
  changed_same : memory_of (set ms (p % 4) after) (p % 4) ≡ after
  changed_same = get_or-set_same ms (p % 4) after [] (omega arith)

  changed-other : (j : ℕ) → j ≢ p % 4 → memory_of (set ms (p % 4) after) j ≡ memory_of ms j
  changed-other j ne = get_or-set_other ms (p % 4) j after [] ne

  changed-count : (j : ℕ) → row_count (memory_of (set ms (p % 4) after) j) ≡ row_count (memory_of ms j)
  changed-count j =
      ⊎_elim
      (λ (e : j ≡ p % 4).
      ap (λ z. row_count (memory_of (set ms (p % 4) after) z)) e ∙ ap row_count changed_same
      ∙ ap (λ z. z / row_len) c.size ∙ ap (λ z. row_count (memory_of ms z)) (sym e))
      (λ ne. ap row_count (changed-other j ne))
      (cases_eq j (p % 4))

  changed_there : (i : ℕ) → i ≢ p → dealt_at (set ms (p % 4) after) i ≡ dealt_at ms i
  changed_there i ne =
      ⊎_elim
      (λ (e : i % 4 ≡ p % 4).
      ap (λ z. row_at (memory_of (set ms (p % 4) after) z) (i / 4)) e ∙ ap (λ z. row_at z (i / 4)) changed_same
      ∙ c.there (i / 4) (λ q. ne (omega arith)) ∙ ap (λ z. row_at (memory_of ms z) (i / 4)) (sym e))
      (λ d. ap (λ z. row_at z (i / 4)) (changed-other (i % 4) d))
      (cases_eq (i % 4) (p % 4))

  pub dealt_changed : dealt (set ms (p % 4) after) ≡ set (dealt ms) p x
  unfolding dealt
  dealt_changed =
      let s : shortest (set ms (p % 4) after) ≡ shortest ms = simp changed-count in
      ap (λ z. map (dealt_at (set ms (p % 4) after)) (range_with_len 0 (4 * z))) s
      ∙ counted-set (dealt_at ms) (dealt_at (set ms (p % 4) after)) (4 * shortest ms) p x l
      (ap (λ z. row_at z (p / 4)) changed_same ∙ c.here) changed_there

-- what the places hold after a put or a strike, from what the memories hold
pub dealt-put : (ms : List (List ℕ)) → length ms ≡ 4 → (p : ℕ) (bs : List ℕ)
    → dealt (put_memories ms p bs) ≡ put_contents (dealt ms) p bs
dealt-put ms four p bs =
    by_answer (λ a. dealt (if_granted a (on_track ms p (λ mem row. stored mem row bs)) ms)
    ≡ if_granted a (set (dealt ms) p (block bs)) (dealt ms))
    (judged (length bs) (4 * shortest ms) p)
    (λ g.
    let l = judged_within (length bs) (4 * shortest ms) p g in
    let eb = judged-length (length bs) (4 * shortest ms) p g in
    dealt_changed ms four p l (stored (memory_of ms (p % 4)) (p / 4) bs) (block bs)
    (stored_changes (memory_of ms (p % 4)) bs (p / 4) (row_within ms p l) eb))
    (λ _. refl)
    ∙ ap (λ z. if_granted (judged (length bs) z p) (set (dealt ms) p (block bs)) (dealt ms)) (sym (length-dealt ms))

pub dealt-strike : (ms : List (List ℕ)) → length ms ≡ 4 → (p : ℕ)
    → dealt (strike_memories ms p) ≡ strike_contents (dealt ms) p
dealt-strike ms four p =
    by_answer (λ a. dealt (if_granted a (on_track ms p struck) ms) ≡ if_granted a (set (dealt ms) p lost) (dealt ms))
    (judged_place (4 * shortest ms) p)
    (λ g.
    let l = judged_place_lem (4 * shortest ms) p g in
    dealt_changed ms four p l (struck (memory_of ms (p % 4)) (p / 4)) lost
    (struck_changes (memory_of ms (p % 4)) (p / 4) (row_within ms p l)))
    (λ _. refl)
    ∙ ap (λ z. if_granted (judged_place z p) (set (dealt ms) p lost) (dealt ms)) (sym (length-dealt ms))

-- The list of bad places that a skip card is made with, and how it is judged. Assumes nothing.
--
--   list_max             as many places as a list may name
--   good_entry P bad i   whether entry i is below P and above the entry before it
--   judged_at P bad is   7 and the first of the indices `is` whose entry is not good
--   list_answer P bad    7 and 64 for a list that is too long, then as judged_at for its indices from 0 on
--   Lawful P bad         the list names at most 64 places, strictly rising and below P
--   GrantsLawfulLists    exactly the lawful lists are granted
use Rattle.std.specs.Prelude.{◌≡◌, ℕ, ◌+◌, ◌-◌, ◌<◌, ◌≤◌, Bool, cond, ◌&&◌, ◌||◌, List, [], ◌∷◌, length, Ok, Err, ◌==◌, nat_lt, slice_index}
use Rattle.std.specs.List.{range_with_len}
use Rattle.refusal.specs.Tells.{Answer}

abbrev pub list_max : ℕ
list_max = 64

abbrev pub good_entry : ℕ → List ℕ → ℕ → Bool
good_entry P bad i = nat_lt (slice_index bad i) P && (i == 0 || nat_lt (slice_index bad (i - 1)) (slice_index bad i))

abbrev pub judged_at : ℕ → List ℕ → List ℕ → Answer (Unit {0})
judged_at P bad [] = Ok tt
judged_at P bad (i ∷ is) =
    let more : Answer (Unit {0}) = judged_at P bad is in
    cond (good_entry P bad i) more (Err (7, i ∷ []))

abbrev pub list_answer : ℕ → List ℕ → Answer (Unit {0})
list_answer P bad =
    cond (nat_lt list_max (length bad)) (Err (7, list_max ∷ [])) (judged_at P bad (range_with_len 0 (length bad)))

pub record Lawful (P : ℕ) (bad : List ℕ) : Type 0 where
  pub few : length bad ≤ list_max
  pub below : (i : ℕ) → i < length bad → slice_index bad i < P
  pub rising : (i : ℕ) → i + 1 < length bad → slice_index bad i < slice_index bad (i + 1)

abbrev pub GrantsLawfulLists : Type 0
GrantsLawfulLists =
    (P : ℕ) (bad : List ℕ) → (list_answer P bad ≡ Ok tt → Lawful P bad) × (Lawful P bad → list_answer P bad ≡ Ok tt)

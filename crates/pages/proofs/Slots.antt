-- The places that entries can have, and the entries that stand there. Assumes nothing.
use Rattle.std.proofs.Common.{◌≡◌, ℕ, eqb, Option, zero, suc, ◌+◌, ◌-◌, ◌*◌, ◌/◌, ◌^◌, ◌<◌, ◌≤◌, List, [], length, get_or, take, drop, reverse, refl, ap, ◌∙◌, ap₂, zero-add, add_comm, mod-lt, lit<, arith}
use Rattle.std.proofs.Math.ListN.{drop_of_length-le}
use Rattle.std.proofs.lemmas.List.{drop-drop, get_or_default, get_or-reverse, length-reverse}
use Rattle.std.proofs.lemmas.List.FromFn.{get_or-enumerate_from, length-enumerate_from}
use Rattle.std.proofs.lemmas.List.Sums.{sum_by-drop_more}
use Rattle.std.specs.List.{enumerate_from, sum_by}
use Rattle.std.specs.Simd.{first_chunks}
use Rattle.pages.specs.Entry.{entry_of}
use Rattle.pages.specs.Map.{entry_at, map_step, map_from, map_size, page_start}
use Rattle.pages.specs.declared.map.Step.{Step}
use Rattle.pages.proofs.MapSteps.{follow, by_step}
use Rattle.pages.specs.declared.entry.Entry.{Entry}
use Rattle.bits.specs.Fields.{value}

pub slot_at : (n k : ℕ) (field : List ℕ) → k < n → get_or (first_chunks 8 n field) k [] ≡ take 8 (drop (8 * k) field)
slot_at zero k field h = absurd (omega arith)
slot_at (suc n) zero field h = refl
slot_at (suc n) (suc k) field h =
    slot_at n k (drop 8 field) (omega arith)
    ∙ ap (take 8) (drop-drop (8 * k) 8 field ∙ ap (λ (m : ℕ). drop m field) (omega arith))

-- the slots of a Data Field, as `slots` gives them
pub record Slots (slots : List (List ℕ)) (field : List ℕ) : Type 0 where
  pub count : length slots ≡ 1026
  pub each : (k : ℕ) → k < 1026 → get_or slots k [] ≡ take 8 (drop (8 * k) field)

-- the i-th entry stands in the i-th slot from the back
from_back : (slots : List (List ℕ)) (field : List ℕ) → Slots slots field → (i : ℕ) → i < 1026
    → entry_of (get_or slots (1025 - i) []) ≡ entry_at field i
from_back slots field s i h =
    let e : 8 * (1025 - i) ≡ 8208 - 8 * (i + 1) = omega arith in
    ap entry_of (s.each (1025 - i) (omega arith) ∙ ap (λ (m : ℕ). take 8 (drop m field)) e)

-- item n of the slots from the back, counted
slot_item : (slots : List (List ℕ)) (n i : ℕ) (bytes : List ℕ) → length slots ≡ 1026 → n < 1026
    → (i, bytes) ≡ get_or (enumerate_from 0 (reverse slots)) n (i, bytes)
    → ◌≡◌ {A = ℕ × List ℕ} (i, bytes) (n, get_or slots (1025 - n) [])
slot_item slots n i bytes l h e =
    let at : length slots - 1 - n ≡ 1025 - n = omega arith in
    e
    ∙ get_or-enumerate_from 0 (reverse slots) n (i, bytes) (omega (arith, length-reverse slots))
    ∙ ap₂ {C = ℕ × List ℕ} (λ (a : ℕ) (b : List ℕ). (a, b)) (zero-add n)
    (get_or-reverse slots n bytes (omega arith) ∙ get_or_default slots (length slots - 1 - n) bytes [] (omega arith)
    ∙ ap (λ (k : ℕ). get_or slots k []) at)

-- one turn of a loop over the slots from the back, behind n turns: s is what its entry says
pub slot_turn : (slots : List (List ℕ)) (field : List ℕ) → Slots slots field
    → (n free i : ℕ) (bytes : List ℕ) (s : Option Step)
    → (n < length (enumerate_from 0 (reverse slots)))
    × ((i, bytes) ≡ get_or (enumerate_from 0 (reverse slots)) n (i, bytes))
    → s ≡ map_step free (eqb i 0) (entry_of bytes) → map_from (1026 - n) free n field ≡ map_size field
    → (i ≡ n) × (follow s n (λ f. map_from (1026 - (n + 1)) f (n + 1) field) ≡ map_size field)
slot_turn slots field w n free i bytes s t e inv =
    let few : n < 1026 = omega (arith, t.0, length-enumerate_from 0 (reverse slots), length-reverse slots, w.count) in
    let item : ◌≡◌ {A = ℕ × List ℕ} (i, bytes) (n, get_or slots (1025 - n) []) = slot_item slots n i bytes w.count few t.1 in (
      ap (λ (q : ℕ × List ℕ). q.0) item,
      by_step field free n s few
          (e ∙ ap (λ (q : ℕ × List ℕ). map_step free (eqb q.0 0) (entry_of q.1)) item
          ∙ ap (map_step free (eqb n 0)) (from_back slots field w n few)) inv,
    )

-- the Page Byte Count of the entry in eight bytes
unfoldable pub count_in : List ℕ → ℕ
count_in bytes = (entry_of bytes).count

pub count_in-lt : (bytes : List ℕ) → count_in bytes < 65536
unfolding count_in entry_of
count_in-lt bytes = mod-lt (value bytes / 2 ^ 32) (lit< tt)

-- the counts in the last slots give where the page behind starts
pub counts_sum : (slots : List (List ℕ)) (field : List ℕ) → Slots slots field → (n : ℕ) → n ≤ 1026
    → sum_by count_in (drop (1026 - n) slots) ≡ page_start field n
unfolding page_start count_in
counts_sum slots field s zero h =
    let all : drop 1026 slots ≡ [] = drop_of_length-le slots {i = 1026} (omega (arith, s.count)) in
    ap (sum_by count_in) all
counts_sum slots field s (suc n) h =
    let k : 1026 - suc n + 1 ≡ 1026 - n = omega arith in
    let j : 1026 - suc n ≡ 1025 - n = omega arith in
    sum_by-drop_more count_in slots (1026 - suc n) [] (omega (arith, s.count))
    ∙ ap₂ (λ (a b : ℕ). count_in (get_or slots a []) + sum_by count_in (drop b slots)) j k
    ∙ ap₂ ◌+◌ (ap (λ (e : Entry). e.count) (from_back slots field s n (omega arith))) (counts_sum slots field s n (omega arith))
    ∙ add_comm (entry_at field n).count (page_start field n)

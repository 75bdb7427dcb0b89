-- Packing lays every block lawfully, and uses up exactly the bytes of the objects. Assumes nothing.
use Rattle.std.proofs.Common.{◌≡◌, ℕ, zero, suc, ◌+◌, ◌-◌, ◌*◌, ◌<◌, ◌≤◌, Bool, true, false, not, ◌||◌, T, eqb, ltb, leb, List, [], ◌∷◌, get_or, refl, ap, ◌∙◌, subst, inl, inr, suc-le-suc, zero-le, le_refl, not-suc-le-zero, zero-add, arith, eqb→eq, leb→le}
use lib.Dec.{nleb→lt}
use Rattle.bits.specs.Fields.{sum}
use Rattle.pages.specs.Map.{lawful_entry}
use Rattle.plan.specs.declared.page.PlannedPage.{PlannedPage}
use Rattle.plan.specs.Objects.{AllUpTo}
use Rattle.plan.specs.Plan.{pack, onto, data_page, mark_page}
use Rattle.plan.specs.DataFields.{is_empty, entry_for, user_count, all_user_bytes}
use Rattle.plan.specs.Laws.{Laid, AllLaid}
use Rattle.plan.proofs.LawfulPages.{data-lawful, mark-lawful, filler-lawful}
use Rattle.plan.proofs.Waiting.{test, waiting, waiting_next, turn, turn-le}

-- ---- blocks laid, the first into `free` bytes
abbrev pub LaidFrom : Bool → ℕ → List (List PlannedPage) → Type 0
LaidFrom head free [] = free ≤ 16
LaidFrom head free (b ∷ bs) = Laid head free b × AllLaid bs

pub all_laid : (bs : List (List PlannedPage)) → LaidFrom true 8208 bs → AllLaid bs
all_laid [] l = tt
all_laid (b ∷ bs) l = l

-- the first block has no page where nothing is free
abbrev pub none_first : List (List PlannedPage) → Bool
none_first bs = is_empty (get_or bs 0 [])

none_left : (bs : List (List PlannedPage)) → LaidFrom false 0 bs → T (none_first bs)
none_left [] l = tt
none_left ([] ∷ bs) l = tt
none_left ((pg ∷ pgs) ∷ bs) l = omega arith

onto-laid : (pg : PlannedPage) (bs : List (List PlannedPage)) (head : Bool) (free free' : ℕ)
    → pg.count + 8 + free' ≡ free
    → T (lawful_entry head (entry_for pg (none_first bs))) → LaidFrom false free' bs → LaidFrom head free (onto pg bs)
onto-laid pg [] head free free' e t l = ((t, omega arith, omega arith), tt)
onto-laid pg (b ∷ bs) head free free' e t l =
    let k : free' ≡ free - (pg.count + 8) = omega arith in
    ((t, omega arith, subst (λ (n : ℕ). Laid false n b) k l.0), l.1)

onto-bytes : (pg : PlannedPage) (bs : List (List PlannedPage))
    → all_user_bytes (onto pg bs) ≡ user_count pg + all_user_bytes bs
onto-bytes pg [] = omega arith
onto-bytes pg (b ∷ bs) = omega arith

-- the bytes still to come
abbrev pub bytes-waiting : ℕ → List ℕ → ℕ
bytes-waiting rest [] = 0
bytes-waiting rest (l ∷ ls) = rest + sum ls

pub bytes_next : (ls : List ℕ) → bytes-waiting (get_or ls 0 0) ls ≡ sum ls
bytes_next [] = refl
bytes_next (l ∷ ls) = refl

-- what is packed, of the bytes still to come
pub record Packed (head : Bool) (free n : ℕ) (bs : List (List PlannedPage)) : Type 0 where
  pub laid : LaidFrom head free bs
  pub used : all_user_bytes bs ≡ n

onto-packed : (pg : PlannedPage) (bs : List (List PlannedPage)) (head : Bool) (free free' n n' : ℕ)
    → pg.count + 8 + free' ≡ free → user_count pg + n' ≡ n
    → T (lawful_entry head (entry_for pg (none_first bs))) → Packed false free' n' bs → Packed head free n (onto pg bs)
onto-packed pg bs head free free' n n' e u t p =
    record {
      laid = onto-laid pg bs head free free' e t p.laid;
      used = onto-bytes pg bs
          ∙ ap (λ (k : ℕ). user_count pg + k) p.used ∙ u;
    }

-- `rest` bytes of the first object are still to come, as its piece m; a piece after the first stands first in its block
abbrev pub Ready : Bool → ℕ → ℕ → ℕ → List ℕ → Type 0
Ready head free m rest [] = Unit {0}
Ready head free m rest (l ∷ ls) = (rest ≤ l) × (1 ≤ l → 1 ≤ rest) × (T (ltb 1 m) → T (head || leb free 16))
    × AllUpTo 1048576 (l ∷ ls)

pub ready_next : (head : Bool) (free : ℕ) (ls : List ℕ) → AllUpTo 1048576 ls → Ready head free 1 (get_or ls 0 0) ls
ready_next head free [] a = tt
ready_next head free (l ∷ ls) a = (le_refl l, (λ h. h), (λ t. absurd t), a)

or_left : (a b : Bool) → b ≡ false → T (a || b) → T a
or_left true b e t = tt
or_left false b e t = subst T e t

pub not_zero : (l : ℕ) → T (not (eqb l 0)) → 1 ≤ l
not_zero zero t = absurd t
not_zero (suc l) t = suc-le-suc zero-le

pub packs : (steps free m rest o : ℕ) (ls : List ℕ) (head : Bool) → free ≤ 8208
    → 2 * waiting rest ls + turn (leb free 16) < steps → Ready head free m rest ls
    → Packed head free (bytes-waiting rest ls) (pack steps free m rest o ls)
unfolding pack
packs zero free m rest o ls head hf hs r = absurd (not-suc-le-zero hs)
packs (suc steps) free m rest o [] head hf hs r =
    elim (test (leb free 16)) [
      | inl t ↦ rw (t.0, pack) (record { laid = (leb→le free 16 t.1, tt); used = refl })
      | inr t ↦
          let h : 16 < free = nleb→lt free 16 t.1 in
          rw (t.0, pack) (record {
            laid = (
              (
                filler-lawful head (free - 8) (o - 1) (omega arith),
                omega arith,
                omega arith,
              ),
              tt,
            );
            used = refl;
          })
    ]
packs (suc steps) free m rest o (l ∷ ls) head hf hs r =
    elim (test (leb free 16)) [
      | inl t ↦
          let k : turn (leb free 16) ≡ 1 = ap turn t.0 in
          let p : Packed true 8208 (bytes-waiting rest (l ∷ ls)) (pack steps 8208 m rest o (l ∷ ls)) =
          packs steps 8208 m rest o (l ∷ ls) true (le_refl 8208) (omega arith) (r.0, r.1, (λ _. tt), r.3) in
          rw (t.0, pack) (record { laid = (leb→le free 16 t.1, all_laid _ p.laid); used = zero-add _ ∙ p.used })
      | inr t ↦
          let h : 16 < free = nleb→lt free 16 t.1 in
          let at_head : T (ltb 1 m) → T head = λ x. or_left head (leb free 16) t.0 (r.2 x) in
          elim (test (eqb l 0)) [
            | inl u ↦
                let z : l ≡ 0 = eqb→eq l 0 u.1 in
                let p : Packed false 0 (bytes-waiting (get_or ls 0 0) ls) (pack steps 0 1 (get_or ls 0 0) (suc o) ls) =
                packs steps 0 1 (get_or ls 0 0) (suc o) ls false zero-le (omega (arith, waiting_next ls))
                (ready_next false 0 ls r.3.1) in
                rw (t.0, pack) (rw u.0
                (onto-packed (mark_page (free - 8) o) _ head free 0 (rest + sum ls) _ (omega arith)
                (omega (arith, bytes_next ls, r.0))
                (mark-lawful head _ (free - 8) o (omega arith) (none_left _ p.laid)) p))
            | inr u ↦
                let nz : 1 ≤ l = not_zero l u.1 in
                elim (test (leb rest (free - 8))) [
                  | inl v ↦
                      let hv : rest ≤ free - 8 = leb→le rest (free - 8) v.1 in
                      let p : Packed false (free - 8 - rest) (bytes-waiting (get_or ls 0 0) ls)
                      (pack steps (free - 8 - rest) 1 (get_or ls 0 0) (suc o) ls) =
                      packs steps (free - 8 - rest) 1 (get_or ls 0 0) (suc o) ls false (omega arith)
                      (omega (arith, waiting_next ls, turn-le (leb (free - 8 - rest) 16)))
                      (ready_next false (free - 8 - rest) ls r.3.1) in
                      rw (t.0, pack) (rw u.0 (rw v.0
                      (onto-packed (data_page m false rest l o) _ head free (free - 8 - rest) (rest + sum ls) _
                      (omega arith) (omega (arith, bytes_next ls))
                      (data-lawful head (none_first (pack steps (free - 8 - rest) 1 (get_or ls 0 0)
                      (suc o) ls)) false m rest l o (r.1 nz) nz r.3.0 at_head (λ x. absurd x)) p)))
                  | inr v ↦
                      let hv : free - 8 < rest = nleb→lt rest (free - 8) v.1 in
                      let p : Packed false 0 (bytes-waiting (rest - (free - 8)) (l ∷ ls))
                      (pack steps 0 (suc m) (rest - (free - 8)) o (l ∷ ls)) =
                      packs steps 0 (suc m) (rest - (free - 8)) o (l ∷ ls) false zero-le (omega arith)
                      (omega arith, (λ _. omega arith), (λ _. tt), r.3) in
                      rw (t.0, pack) (rw u.0 (rw v.0
                      (onto-packed (data_page m true (free - 8) l o) _ head free 0 (rest + sum ls) _ (omega arith)
                      (omega arith)
                      (data-lawful head _ true m (free - 8) l o (omega arith) nz r.3.0 at_head
                      (λ _. none_left _ p.laid)) p)))
                ]
          ]
    ]

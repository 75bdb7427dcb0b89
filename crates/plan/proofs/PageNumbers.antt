-- The numbers that a plan's pages give their blocks. Assumes nothing.
use Rattle.std.proofs.Common.{◌≡◌, ℕ, zero, suc, ◌+◌, ◌-◌, ◌*◌, ◌%◌, ◌<◌, ◌≤◌, Bool, true, false, cond, eqb, leb, ◌⊎◌, List, [], ◌∷◌, ◌++◌, length, get_or, take, drop, refl, inl, inr, suc-le-suc, zero-le, le_refl, arith, lit≤}
use lib.Dec.{nleb→lt}
use Rattle.bits.specs.Fields.{sum}
use Rattle.plan.specs.declared.page.PlannedPage.{PlannedPage}
use Rattle.plan.specs.Members.{AllOf}
use Rattle.plan.specs.Objects.{AllUpTo}
use Rattle.plan.specs.Plan.{pack, packed, plan, onto, data_page, mark_page, filler_page}
use Rattle.plan.specs.Entities.{groups}
use Rattle.plan.specs.Laws.{Numbered, PageNumbers, EntitiesNumbered}
use Rattle.plan.proofs.Waiting.{test}

-- ---- the pages' numbers
onto_all : (k : ℕ) (pg : PlannedPage) (bs : List (List PlannedPage)) → Numbered k pg → AllOf (AllOf (Numbered k)) bs
    → AllOf (AllOf (Numbered k)) (onto pg bs)
onto_all k pg [] p a = ((p, tt), tt)
onto_all k pg (b ∷ bs) p a = ((p, a.0), a.1)

-- a piece between the first and the last fills its block
abbrev Mid : ℕ → ℕ → ℕ → List ℕ → Type 0
Mid free m rest [] = Unit {0}
Mid free m rest (l ∷ ls) =
    (1 ≤ m) × (rest ≤ l) × (8200 * m ≤ l - rest + 16400) × ((m ≡ 1) ⊎ ((free ≤ 16) ⊎ (free ≡ 8208)))
    × AllUpTo 1048576 (l ∷ ls)

mid_next : (free : ℕ) (ls : List ℕ) → AllUpTo 1048576 ls → Mid free 1 (get_or ls 0 0) ls
mid_next free [] a = tt
mid_next free (l ∷ ls) a = (lit≤ tt, le_refl l, omega arith, inl refl, a)

mid_more : (free m rest l : ℕ) → 16 < free → free - 8 < rest → rest ≤ l → 8200 * m ≤ l - rest + 16400
    → ((m ≡ 1) ⊎ ((free ≤ 16) ⊎ (free ≡ 8208)))
    → 8200 * suc m ≤ l - (rest - (free - 8)) + 16400
mid_more free m rest l h₁ h₂ h₃ h₄ (inl e) = omega arith
mid_more free m rest l h₁ h₂ h₃ h₄ (inr (inl e)) = omega arith
mid_more free m rest l h₁ h₂ h₃ h₄ (inr (inr e)) = omega arith

pack-numbers : (steps free m rest o k : ℕ) (ls : List ℕ) → Mid free m rest ls → o + length ls ≡ suc k → 1 ≤ o → 1 ≤ k
    → AllOf (AllOf (Numbered k)) (pack steps free m rest o ls)
unfolding pack
pack-numbers zero free m rest o k ls d e h₁ h₂ = (tt, tt)
pack-numbers (suc steps) free m rest o k [] d e h₁ h₂ =
    elim (test (leb free 16)) [
      | inl t ↦ rw (t.0, pack) (tt, tt)
      | inr t ↦ rw (t.0, pack) (((lit≤ tt, lit≤ tt, omega arith, omega arith), tt), tt)
    ]
pack-numbers (suc steps) free m rest o k (l ∷ ls) d e h₁ h₂ =
    elim (test (leb free 16)) [
      | inl t ↦
          rw (t.0, pack) (
            tt,
            pack-numbers steps 8208 m rest o k (l ∷ ls)
                (d.0, d.1, d.2, inr (inr refl), d.4) e h₁ h₂,
          )
      | inr t ↦
          let h : 16 < free = nleb→lt free 16 t.1 in
          let p : m ≤ 129 = omega (arith, d.2, d.4.0) in
          elim (test (eqb l 0)) [
            | inl u ↦
                rw (t.0, pack) (rw u.0
                (onto_all k (mark_page (free - 8) o) _ (lit≤ tt, lit≤ tt, h₁, omega arith)
                (pack-numbers steps 0 1 (get_or ls 0 0) (suc o) k ls (mid_next 0 ls d.4.1) (omega arith)
                (suc-le-suc zero-le) h₂)))
            | inr u ↦
                elim (test (leb rest (free - 8))) [
                  | inl v ↦
                      rw (t.0, pack) (rw u.0 (rw v.0
                      (onto_all k (data_page m false rest l o) _ (d.0, p, h₁, omega arith)
                      (pack-numbers steps (free - 8 - rest) 1 (get_or ls 0 0) (suc o) k ls
                      (mid_next (free - 8 - rest) ls d.4.1) (omega arith) (suc-le-suc zero-le) h₂))))
                  | inr v ↦
                      let hv : free - 8 < rest = nleb→lt rest (free - 8) v.1 in
                      rw (t.0, pack) (rw u.0 (rw v.0
                      (onto_all k (data_page m true (free - 8) l o) _ (d.0, p, h₁, omega arith)
                      (pack-numbers steps 0 (suc m) (rest - (free - 8)) o k (l ∷ ls) (
                        suc-le-suc zero-le,
                        omega (arith, d.1),
                        mid_more free m rest l h hv d.1 d.2 d.3,
                        inr
                            (inl zero-le),
                        d.4,
                      ) e h₁ h₂))))
                ]
          ]
    ]

pub page_numbers : PageNumbers
unfolding plan
page_numbers ls h a = go (eqb (length (packed ls) % 16) 1)
  where
    k : ℕ
    k = length ls

    alone : List (List PlannedPage)
    alone = (filler_page 8200 k ∷ []) ∷ []

    all_more : (xs : List (List PlannedPage)) → AllOf (AllOf (Numbered k)) xs
        → AllOf (AllOf (Numbered k)) (xs ++ alone)
    all_more [] n = (((lit≤ tt, lit≤ tt, h, le_refl k), tt), tt)
    all_more (x ∷ xs) n = (n.0, all_more xs n.1)

    all : AllOf (AllOf (Numbered k)) (packed ls)
    all = pack-numbers (2 * (sum ls + length ls) + 2) 8208 1 (get_or ls 0 0) 1 k ls (mid_next 8208 ls a) (omega arith)
        (lit≤ tt) h

    go : (b : Bool) → AllOf (AllOf (Numbered k)) (cond b (packed ls ++ alone) (packed ls))
    go true = all_more (packed ls) all
    go false = all

-- the same of each entity
take_of : {A : Type 0} (P : A → Type 0) (n : ℕ) (xs : List A) → AllOf P xs → AllOf P (take n xs)
take_of P zero xs a = tt
take_of P (suc n) [] a = tt
take_of P (suc n) (x ∷ xs) a = (a.0, take_of P n xs a.1)

drop_of : {A : Type 0} (P : A → Type 0) (n : ℕ) (xs : List A) → AllOf P xs → AllOf P (drop n xs)
drop_of P zero xs a = a
drop_of P (suc n) [] a = tt
drop_of P (suc n) (x ∷ xs) a = drop_of P n xs a.1

groups_of : (P : List PlannedPage → Type 0) (n : ℕ) (bs : List (List PlannedPage)) → AllOf P bs
    → AllOf (AllOf P) (groups n bs)
groups_of P zero bs a = tt
groups_of P (suc n) [] a = tt
groups_of P (suc n) (b ∷ bs) a = (take_of P 16 (b ∷ bs) a, groups_of P n (drop 16 (b ∷ bs)) (drop_of P 16 (b ∷ bs) a))

pub entities_numbered : EntitiesNumbered
entities_numbered ls h a = groups_of (AllOf (Numbered (length ls))) (length (plan ls)) (plan ls) (page_numbers ls h a)

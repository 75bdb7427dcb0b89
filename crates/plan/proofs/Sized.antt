-- The entities of a plan have 2 to 16 data blocks, and every object ends once. Assumes nothing.
use Rattle.std.proofs.Common.{◌≡◌, ℕ, zero, suc, ◌+◌, ◌-◌, ◌*◌, ◌%◌, ◌≤◌, min, Bool, true, false, cond, T, eqb, leb, List, [], ◌∷◌, ◌++◌, length, get_or, take, drop, sym, refl, ap, ◌∙◌, subst, inl, inr, suc-le-suc, zero-le, le_of_eq, le_refl, arith, lit≤, eqb→eq, length-append, length-drop, length-take}
use Rattle.bits.specs.Fields.{sum}
use Rattle.block.specs.Block.{zeros}
use Rattle.plan.specs.declared.page.PlannedPage.{PlannedPage}
use Rattle.plan.specs.Members.{AllOf}
use Rattle.plan.specs.Objects.{objects_of}
use Rattle.plan.specs.Plan.{pack, packed, plan, onto, filler_page}
use Rattle.plan.specs.DataFields.{all_user_bytes, fields}
use Rattle.plan.specs.Entities.{groups}
use Rattle.plan.specs.Following.{closed, EntityFollowed, follow_blocks}
use Rattle.plan.specs.Laws.{AllLaid, EntitiesSized, EndsAddUp}
use Rattle.plan.proofs.Waiting.{test}
use Rattle.plan.proofs.FieldLengths.{length-zeros}
use Rattle.plan.proofs.Splitting.{all_found}
use Rattle.plan.proofs.Following.{plan_laid, plan-follow}
use Rattle.plan.proofs.Ending.{count-blocks}

-- ---- entities of 2 to 16 blocks
onto_some : (pg : PlannedPage) (bs : List (List PlannedPage)) → 1 ≤ length (onto pg bs)
onto_some pg [] = lit≤ tt
onto_some pg (b ∷ bs) = suc-le-suc zero-le

pack_some : (steps free m rest o : ℕ) (ls : List ℕ) → 1 ≤ length (pack steps free m rest o ls)
unfolding pack
pack_some zero free m rest o ls = lit≤ tt
pack_some (suc steps) free m rest o [] =
    elim (test (leb free 16)) [ inl t ↦ rw (t.0, pack) (lit≤ tt) | inr t ↦ rw (t.0, pack) (lit≤ tt) ]
pack_some (suc steps) free m rest o (l ∷ ls) =
    elim (test (leb free 16)) [
      | inl t ↦ rw (t.0, pack) (suc-le-suc zero-le)
      | inr t ↦
          elim (test (eqb l 0)) [
            | inl u ↦ rw (t.0, pack) (rw u.0 (onto_some _ _))
            | inr u ↦
                elim (test (leb rest (free - 8))) [
                  | inl v ↦ rw (t.0, pack) (rw u.0 (rw v.0 (onto_some _ _)))
                  | inr v ↦ rw (t.0, pack) (rw u.0 (rw v.0 (onto_some _ _)))
                ]
          ]
    ]

pub plan-length : (ls : List ℕ) → (1 ≤ length (plan ls)) × (length (plan ls) % 16 ≡ 1 → ⊥)
unfolding plan
plan-length ls = go (eqb (length (packed ls) % 16) 1) refl
  where
    alone : List (List PlannedPage)
    alone = (filler_page 8200 (length ls) ∷ []) ∷ []

    some_block : 1 ≤ length (packed ls)
    some_block = pack_some (2 * (sum ls + length ls) + 2) 8208 1 (get_or ls 0 0) 1 ls

    go : (b : Bool) → eqb (length (packed ls) % 16) 1 ≡ b
        → (1 ≤ length (cond b (packed ls ++ alone) (packed ls)))
        × (length (cond b (packed ls ++ alone) (packed ls)) % 16 ≡ 1 → ⊥)
    go true e =
        let k : length (packed ls) % 16 ≡ 1 = eqb→eq _ 1 (subst T (sym e) tt) in
        let n : length (packed ls ++ alone) ≡ length (packed ls) + 1 = length-append (packed ls) alone in
        (omega arith, λ h. omega arith)
    go false e = (some_block, λ h. subst T e (subst (λ (n : ℕ). T (eqb n 1)) (sym h) tt))

groups-sized : (n : ℕ) (bs : List (List PlannedPage)) → length bs ≤ n → (length bs % 16 ≡ 1 → ⊥)
    → AllOf (λ (e : List (List PlannedPage)). (2 ≤ length e) × (length e ≤ 16)) (groups n bs)
groups-sized zero bs h f = tt
groups-sized (suc n) [] h f = tt
groups-sized (suc n) (b ∷ bs) h f =
    let e : length (take 16 (b ∷ bs)) ≡ min 16 (length (b ∷ bs)) = length-take 16 (b ∷ bs) in
    let d : length (drop 16 (b ∷ bs)) ≡ length (b ∷ bs) - 16 = length-drop 16 (b ∷ bs) in (
      two (length (b ∷ bs)) (suc-le-suc zero-le) f e,
      groups-sized n (drop 16 (b ∷ bs)) (omega arith)
          (λ k. f (wrap (length (b ∷ bs)) (ap (λ (x : ℕ). x % 16) (sym d) ∙ k))),
    )
  where
    two : (k : ℕ) → 1 ≤ k → (k % 16 ≡ 1 → ⊥) → {x : ℕ} → x ≡ min 16 k → (2 ≤ x) × (x ≤ 16)
    two k h f e = omega arith

    wrap : (k : ℕ) → (k - 16) % 16 ≡ 1 → k % 16 ≡ 1
    wrap k e = omega arith

pub entities_sized : EntitiesSized
entities_sized ls = groups-sized (length (plan ls)) (plan ls) (le_refl _) (plan-length ls).1

-- ---- every object ends once
pub length_objects : (ls bs : List ℕ) → length (objects_of ls bs) ≡ length ls
length_objects [] bs = refl
length_objects (l ∷ ls) bs = ap suc (length_objects ls (drop l bs))

pub ends_add_up : EndsAddUp
ends_add_up ls a =
    let bs : List ℕ = zeros (sum ls) in
    let n : length bs ≡ sum ls = length-zeros (sum ls) in
    let p : AllLaid (plan ls) × (all_user_bytes (plan ls) ≡ sum ls) = plan_laid ls a in
    let f : follow_blocks true closed 1 (fields (plan ls) bs) ≡ all_found (objects_of ls bs) =
    plan-follow ls bs a (le_of_eq (sym n)) in
    sym (count-blocks true (plan ls) closed 1 bs p.0 (omega (arith, p.1))
    (ap (λ (x : EntityFollowed). x.broken) f))
    ∙ ap (λ (x : EntityFollowed). length x.found) f ∙ length_objects ls bs

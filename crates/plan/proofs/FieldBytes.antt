-- The Data Fields of laid blocks are 8,208 bytes each. Assumes nothing.
use Rattle.std.proofs.Common.{◌≡◌, ℕ, zero, suc, ◌-◌, ◌≤◌, true, List, [], ◌∷◌, ◌++◌, length, take, drop, arith, lit<, length-drop}
use Rattle.bits.specs.Fields.{sum, AllBytes}
use Rattle.block.specs.Block.{zeros}
use Rattle.pages.specs.declared.entry.Entry.{Entry}
use Rattle.plan.specs.declared.page.PlannedPage.{PlannedPage}
use Rattle.plan.specs.Members.{AllOf}
use Rattle.plan.specs.Plan.{plan}
use Rattle.plan.specs.DataFields.{is_empty, entry_for, entries, user_count, user_bytes, all_user_bytes, page_bytes}
use Rattle.plan.specs.DataFields.{page_sizes, field_of, fields}
use Rattle.plan.specs.Laws.{Laid, AllLaid, FieldsProper}
use Rattle.bits.proofs.BitLaws.{bytes_all}
use Rattle.block.proofs.Sealed.{all_append, all_drop}
use Rattle.pages.specs.Entry.{entry_widths, entry_fields, entry_bytes}
use Rattle.bits.specs.Fields.{join}
use Rattle.plan.proofs.FieldLengths.{length-field}
use Rattle.plan.proofs.Following.{plan_laid}

-- ---- the Data Fields
pub all_take : (n : ℕ) (bs : List ℕ) → AllBytes bs → AllBytes (take n bs)
all_take zero bs a = tt
all_take (suc n) [] a = tt
all_take (suc n) (b ∷ bs) a = (a.0, all_take n bs a.1)

pub all-zeros : (n : ℕ) → AllBytes (zeros n)
unfolding zeros
all-zeros zero = tt
all-zeros (suc n) = (lit< tt, all-zeros n)

all-page_bytes : (pgs : List PlannedPage) (bs : List ℕ) → AllBytes bs → AllBytes (page_bytes pgs bs)
all-page_bytes [] bs a = tt
all-page_bytes (pg ∷ pgs) bs a =
    let n : ℕ = user_count pg in
    all_append (take n bs ++ zeros (pg.count - n)) (page_bytes pgs (drop n bs))
    (all_append (take n bs) (zeros (pg.count - n)) (all_take n bs a) (all-zeros (pg.count - n)))
    (all-page_bytes pgs (drop n bs) (all_drop n bs a))

all-entries : (pgs : List PlannedPage) → AllBytes (entries pgs)
unfolding entry_bytes
all-entries [] = tt
all-entries (pg ∷ pgs) =
    let e : Entry = entry_for pg (is_empty pgs) in
    all_append (entries pgs) (entry_bytes e) (all-entries pgs) (bytes_all 8 (join entry_widths (entry_fields e)))

pub all-field : (pgs : List PlannedPage) (bs : List ℕ) → Laid true 8208 pgs → AllBytes bs → AllBytes (field_of pgs bs)
all-field pgs bs l a =
    all_append (page_bytes pgs bs) (zeros (8208 - page_sizes pgs) ++ entries pgs) (all-page_bytes pgs bs a)
    (all_append (zeros (8208 - page_sizes pgs)) (entries pgs) (all-zeros (8208 - page_sizes pgs)) (all-entries pgs))

pub laid-fields : (blocks : List (List PlannedPage)) (bs : List ℕ) → AllLaid blocks → all_user_bytes blocks ≤ length bs
    → AllBytes bs
    → AllOf (λ (f : List ℕ). (length f ≡ 8208) × AllBytes f) (fields blocks bs)
laid-fields [] bs l h a = tt
laid-fields (pgs ∷ more) bs l h a = (
  (length-field pgs bs l.0 (omega arith), all-field pgs bs l.0 a),
  laid-fields more (drop (user_bytes pgs) bs) l.1 (omega (arith, length-drop (user_bytes pgs) bs))
      (all_drop (user_bytes pgs) bs a),
)

pub fields_proper : FieldsProper
fields_proper ls bs u e a =
    let p : AllLaid (plan ls) × (all_user_bytes (plan ls) ≡ sum ls) = plan_laid ls u in
    laid-fields (plan ls) bs p.0 (omega (arith, p.1)) a

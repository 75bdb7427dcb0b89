-- The length of a Data Field that pages are laid into. Assumes nothing.
use Rattle.std.proofs.Common.{◌≡◌, ℕ, ◌+◌, ◌-◌, ◌*◌, ◌≤◌, Bool, true, false, cond, List, [], ◌∷◌, ◌++◌, length, take, drop, refl, ◌∙◌, zero-le, le_refl, arith, length-append}
use lib.ListN.{length-replicate}
use Rattle.std.proofs.lemmas.List.{length-take-le, length-drop}
use Rattle.bits.specs.Fields.{join}
use Rattle.bits.proofs.BitLaws.{length-bytes}
use Rattle.block.specs.Block.{zeros}
use Rattle.pages.specs.Entry.{entry_widths, entry_fields, entry_bytes}
use Rattle.pages.specs.declared.entry.Entry.{Entry}
use Rattle.plan.specs.declared.page.PlannedPage.{PlannedPage}
use Rattle.plan.specs.DataFields.{is_empty, entry_for, entries, holds_record, user_count, user_bytes}
use Rattle.plan.specs.DataFields.{page_bytes, page_sizes, field_of}
use Rattle.plan.specs.Laws.{Laid}

pub length-entry : (e : Entry) → length (entry_bytes e) ≡ 8
unfolding entry_bytes
length-entry e = length-bytes 8 (join entry_widths (entry_fields e))

pub laid_sizes : (head : Bool) (free : ℕ) (pgs : List PlannedPage) → Laid head free pgs
    → (page_sizes pgs ≤ free) × (8 * length pgs ≤ free)
laid_sizes head free [] l = omega arith
laid_sizes head free (pg ∷ pgs) l = omega (arith, laid_sizes false (free - (pg.count + 8)) pgs l.2, l.1)

user-le : (b : Bool) (n : ℕ) → cond b n 0 ≤ n
user-le true n = le_refl n
user-le false n = zero-le

pub length-zeros : (n : ℕ) → length (zeros n) ≡ n
unfolding zeros
length-zeros n = length-replicate n 0

pub length_page : (pg : PlannedPage) (bs : List ℕ) → user_count pg ≤ length bs
    → length (take (user_count pg) bs ++ zeros (pg.count - user_count pg)) ≡ pg.count
length_page pg bs h =
    length-append (take (user_count pg) bs) (zeros (pg.count - user_count pg))
    ∙ omega (
      arith,
      length-take-le (user_count pg) bs h,
      length-zeros (pg.count - user_count pg),
      user-le
          (holds_record pg) pg.count,
    )

length_pages : (pgs : List PlannedPage) (bs : List ℕ) → user_bytes pgs ≤ length bs
    → length (page_bytes pgs bs) + 8 * length pgs ≡ page_sizes pgs
length_pages [] bs h = refl
length_pages (pg ∷ pgs) bs h =
    let n : ℕ = user_count pg in
    let this : List ℕ = take n bs ++ zeros (pg.count - n) in
    omega (
      arith,
      length-append this (page_bytes pgs (drop n bs)),
      length_page pg bs (omega arith),
      length_pages pgs (drop n bs) (omega (arith, length-drop n bs)),
    )

length-entries : (pgs : List PlannedPage) → length (entries pgs) ≡ 8 * length pgs
length-entries [] = refl
length-entries (pg ∷ pgs) =
    length-append (entries pgs) (entry_bytes (entry_for pg (is_empty pgs)))
    ∙ omega (arith, length-entries pgs, length-entry (entry_for pg (is_empty pgs)))

pub length-field : (pgs : List PlannedPage) (bs : List ℕ) → Laid true 8208 pgs → user_bytes pgs ≤ length bs
    → length (field_of pgs bs) ≡ 8208
length-field pgs bs l h =
    length-append (page_bytes pgs bs) (zeros (8208 - page_sizes pgs) ++ entries pgs)
    ∙ omega (
      arith,
      length-append (zeros (8208 - page_sizes pgs)) (entries pgs),
      length-zeros (8208 - page_sizes pgs),
      length-entries pgs,
      length_pages pgs bs h,
      laid_sizes true 8208 pgs l,
    )

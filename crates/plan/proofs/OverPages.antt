-- Following over pages and the joined bytes, in place of maps and Data Fields. Assumes nothing.
use Rattle.std.proofs.Common.{◌≡◌, ℕ, suc, ◌-◌, ◌≤◌, true, List, [], ◌∷◌, ◌++◌, length, take, drop, sym, refl, ap, ◌∙◌, ap₂, append_assoc, arith, Option, Some, None}
use Rattle.std.proofs.lemmas.List.{take_at, drop_at, drop-drop}
use Rattle.block.specs.Block.{zeros}
use Rattle.pages.specs.declared.entry.Entry.{Entry}
use Rattle.plan.specs.declared.page.PlannedPage.{PlannedPage}
use Rattle.plan.specs.Objects.{Object}
use Rattle.plan.specs.Plan.{onto}
use Rattle.plan.specs.DataFields.{is_empty, entry_for, entries, page_entries, user_count, user_bytes, all_user_bytes}
use Rattle.plan.specs.DataFields.{page_bytes, page_sizes, field_of, fields}
use Rattle.plan.specs.Following.{Open, closed, Followed, after_object, broke, PageStep, breaks, goes_on, ends}
use Rattle.plan.specs.Following.{page_step, follow_pages, EntityFollowed, before_found, follow_blocks}
use Rattle.plan.specs.Laws.{Laid}
use Rattle.plan.proofs.MapBytes.{map_reads_back}
use Rattle.plan.proofs.FieldLengths.{length_page}
use Rattle.plan.proofs.Splitting.{then-blocks}
use Rattle.plan.proofs.Laying.{LaidFrom, none_first}

-- ---- over pages and the joined bytes, in place of maps and Data Fields

-- the pages of a block, and then the blocks `more`; `junk` stands behind the pages' bytes
unfoldable pub over : Open → ℕ → List PlannedPage → List (List PlannedPage) → List ℕ → List ℕ → EntityFollowed
over o b pgs more bs junk = then-blocks true b (follow_pages o (page_entries pgs) (page_bytes pgs bs ++ junk))
    (fields more (drop (user_bytes pgs) bs))

unfoldable pub over-blocks : Open → ℕ → List (List PlannedPage) → List ℕ → List ℕ → EntityFollowed
over-blocks o b [] bs junk = over o b [] [] bs junk
over-blocks o b (pgs ∷ more) bs junk = over o b pgs more bs junk

by_map : (o : Open) (b : ℕ) (pgs : List PlannedPage) (more : List (List PlannedPage)) (bs : List ℕ)
    → Laid true 8208 pgs → user_bytes pgs ≤ length bs
    → follow_blocks true o b (fields (pgs ∷ more) bs) ≡ over o b pgs more bs
    (zeros (8208 - page_sizes pgs) ++ entries pgs)
unfolding over then-blocks follow_blocks
by_map o b pgs more bs l h =
    ap (λ (m : Option (List Entry)).
    then-blocks true b (elim m [ None ↦ broke | Some es ↦ follow_pages o es (field_of pgs bs) ])
    (fields more (drop (user_bytes pgs) bs)))
    (map_reads_back pgs bs l h)

pub by_maps : (o : Open) (b : ℕ) (blocks : List (List PlannedPage)) (bs : List ℕ) → LaidFrom true 8208 blocks
    → all_user_bytes blocks ≤ length bs
    → (junk : List ℕ) × (follow_blocks true o b (fields blocks bs) ≡ over-blocks o b blocks bs junk)
unfolding over-blocks
by_maps o b [] bs l h = ([], absurd (omega arith))
by_maps o b (pgs ∷ more) bs l h = (_, by_map o b pgs more bs l.0 (omega arith))

-- ---- one page
unfoldable pub page-part : PlannedPage → List ℕ → List ℕ
page-part pg bs = take (user_count pg) bs ++ zeros (pg.count - user_count pg)

unfoldable pub after-step : PageStep → List Entry → List ℕ → Followed
after-step s es bs =
    elim s [
      | breaks ↦ broke
      | goes_on o' ↦ follow_pages o' es bs
      | ends x ↦ after_object x (follow_pages closed es bs)
    ]

page_here : (pg : PlannedPage) (pgs : List PlannedPage) (o : Open) (bs junk : List ℕ) → user_count pg ≤ length bs
    → follow_pages o (page_entries (pg ∷ pgs)) (page_bytes (pg ∷ pgs) bs ++ junk)
    ≡ after-step (page_step o (entry_for pg (is_empty pgs)) (page-part pg bs)) (page_entries pgs)
    (page_bytes pgs (drop (user_count pg) bs) ++ junk)
unfolding follow_pages after-step page-part
page_here pg pgs o bs junk h =
    let part : List ℕ = page-part pg bs in
    let later : List ℕ = page_bytes pgs (drop (user_count pg) bs) in
    let e : Entry = entry_for pg (is_empty pgs) in
    ap (follow_pages o (e ∷ page_entries pgs)) (append_assoc part later junk)
    ∙ ap₂ (λ (p q : List ℕ). after-step (page_step o e p) (page_entries pgs) q)
    (take_at part (later ++ junk) pg.count (length_page pg bs h))
    (drop_at part (later ++ junk) pg.count (length_page pg bs h))

then_object : (b : ℕ) (x : Object) (es : List Object) (q : Option Open) (fs : List (List ℕ))
    → then-blocks true b (after_object x (record { ended = es; after = q })) fs
    ≡ before_found (x ∷ []) (then-blocks true b (record { ended = es; after = q }) fs)
unfolding then-blocks
then_object b x es None fs = refl
then_object b x es (Some o) fs = refl

over-ends : (pg : PlannedPage) (pgs : List PlannedPage) (more : List (List PlannedPage)) (o : Open) (b : ℕ)
    (bs junk : List ℕ) (x : Object) → user_count pg ≤ length bs
    → page_step o (entry_for pg (is_empty pgs)) (page-part pg bs) ≡ ends x
    → over o b (pg ∷ pgs) more bs junk ≡ before_found (x ∷ []) (over closed b pgs more (drop (user_count pg) bs) junk)
unfolding over after-step
over-ends pg pgs more o b bs junk x h e =
    let later : List ℕ = page_bytes pgs (drop (user_count pg) bs) ++ junk in
    let g : Followed = follow_pages closed (page_entries pgs) later in
    ap₂ (λ (f : Followed) (r : List ℕ). then-blocks true b f (fields more r))
    (page_here pg pgs o bs junk h ∙ ap (λ (s : PageStep). after-step s (page_entries pgs) later) e)
    (sym (drop-drop (user_bytes pgs) (user_count pg) bs))
    ∙ then_object b x g.ended g.after (fields more (drop (user_bytes pgs) (drop (user_count pg) bs)))

over_goes : (pg : PlannedPage) (pgs : List PlannedPage) (more : List (List PlannedPage)) (o o' : Open) (b : ℕ)
    (bs junk : List ℕ) → user_count pg ≤ length bs
    → page_step o (entry_for pg (is_empty pgs)) (page-part pg bs) ≡ goes_on o'
    → over o b (pg ∷ pgs) more bs junk ≡ over o' b pgs more (drop (user_count pg) bs) junk
unfolding over after-step
over_goes pg pgs more o o' b bs junk h e =
    let later : List ℕ = page_bytes pgs (drop (user_count pg) bs) ++ junk in
    ap₂ (λ (f : Followed) (r : List ℕ). then-blocks true b f (fields more r))
    (page_here pg pgs o bs junk h ∙ ap (λ (s : PageStep). after-step s (page_entries pgs) later) e)
    (sym (drop-drop (user_bytes pgs) (user_count pg) bs))

-- the same, of a page put before the pages of the first block
pub onto-ends : (pg : PlannedPage) (blocks : List (List PlannedPage)) (o : Open) (b : ℕ) (bs junk : List ℕ)
    (x : Object) → user_count pg ≤ length bs
    → page_step o (entry_for pg (none_first blocks)) (page-part pg bs) ≡ ends x
    → over-blocks o b (onto pg blocks) bs junk ≡ before_found (x ∷ [])
    (over-blocks closed b blocks (drop (user_count pg) bs) junk)
unfolding over-blocks
onto-ends pg [] o b bs junk x h e = over-ends pg [] [] o b bs junk x h e
onto-ends pg (pgs ∷ more) o b bs junk x h e = over-ends pg pgs more o b bs junk x h e

pub onto_goes : (pg : PlannedPage) (blocks : List (List PlannedPage)) (o o' : Open) (b : ℕ) (bs junk : List ℕ)
    → user_count pg ≤ length bs
    → page_step o (entry_for pg (none_first blocks)) (page-part pg bs) ≡ goes_on o'
    → over-blocks o b (onto pg blocks) bs junk ≡ over-blocks o' b blocks (drop (user_count pg) bs) junk
unfolding over-blocks
onto_goes pg [] o o' b bs junk h e = over_goes pg [] [] o o' b bs junk h e
onto_goes pg (pgs ∷ more) o o' b bs junk h e = over_goes pg pgs more o o' b bs junk h e

-- no page is left for the first block
pub over_none : (o : Open) (b : ℕ) (blocks : List (List PlannedPage)) (bs junk : List ℕ)
    → over-blocks o b ([] ∷ blocks) bs junk ≡ follow_blocks true o (suc b) (fields blocks bs)
unfolding over-blocks over then-blocks follow_pages
over_none o b blocks bs junk = refl

-- As many objects end in laid blocks as their pages say. Assumes nothing.
use Rattle.std.proofs.Common.{◌≡◌, ℕ, suc, ◌+◌, ◌-◌, ◌≤◌, Bool, true, false, cond, not, ◌&&◌, ◌||◌, T, eqb, ltb, List, [], ◌∷◌, ◌++◌, length, take, drop, sym, refl, ap, ◌∙◌, subst, ap₂, arith, length-append, Option, Some, None}
use Rattle.std.proofs.lemmas.List.{length-drop}
use Rattle.pages.specs.PageType.{is_known}
use Rattle.pages.specs.declared.page_type.PageType.{PageType}
use Rattle.pages.specs.declared.page_type.PageType.TheVariants.{Filler, Data, TapeMark, Other0, Other4, Other5, Other6, Other7, Wide}
use Rattle.pages.specs.declared.entry.Entry.{Entry}
use Rattle.plan.specs.declared.page.PlannedPage.{PlannedPage}
use Rattle.plan.specs.Objects.{Object, rec}
use Rattle.plan.specs.DataFields.{is_empty, entry_for, page_entries, user_bytes, all_user_bytes, field_of, fields, ends_on}
use Rattle.plan.specs.DataFields.{ends_in}
use Rattle.plan.specs.Following.{Open, closed, going, Followed, broke, PageStep, breaks, goes_on, ends, page_step}
use Rattle.plan.specs.Following.{follow_pages, follow_block, follow_blocks}
use Rattle.plan.specs.Laws.{Laid, AllLaid}
use Rattle.plan.proofs.LawfulPages.{Law, law, into_next}
use Rattle.plan.proofs.MapBytes.{map_reads_back}
use Rattle.plan.proofs.Splitting.{then-blocks}
use Rattle.plan.proofs.OverPages.{after-step}

-- ---- as many objects end as the pages say
abbrev Counts : PageStep → ℕ → Type 0
Counts breaks n = Unit {0}
Counts (goes_on o) n = n ≡ 0
Counts (ends x) n = n ≡ 1

abbrev ends_here : PageType → Bool → ℕ
ends_here k more = elim k [ Filler ↦ 0 | _ ↦ cond more 0 1 ]

data_counts : (p more q r : Bool) (o : Open) (x : Object)
    → Counts (cond p (cond more (cond q (goes_on o) breaks) (cond r (ends x) breaks)) breaks) (cond more 0 1)
data_counts false more q r o x = tt
data_counts true true true r o x = refl
data_counts true true false r o x = tt
data_counts true false q true o x = refl
data_counts true false q false o x = tt

unless-breaks : (p : Bool) (s : PageStep) (n : ℕ) → Counts s n → Counts (cond p s breaks) n
unless-breaks true s n c = c
unless-breaks false s n c = tt

breaks_if : (p : Bool) (s : PageStep) (n : ℕ) → Counts s n → Counts (cond p breaks s) n
breaks_if true s n c = tt
breaks_if false s n c = c

mark_counts : (more last : Bool) → T (not more || (last && false)) → ends_here TapeMark more ≡ 1
mark_counts false last t = refl
mark_counts true true t = absurd t
mark_counts true false t = absurd t

abbrev page_of : PageType → ℕ → Bool → ℕ → ℕ → ℕ → PlannedPage
page_of k m more c t n = record { kind = k; piece = m; more = more; count = c; total = t; object = n }

step_counts : (o : Open) (k : PageType) (m : ℕ) (more last : Bool) (c t n : ℕ) (got : List ℕ)
    → T (is_known k) → T (into_next (entry_for (page_of k m more c t n) last))
    → Counts (page_step o (entry_for (page_of k m more c t n) last) got) (ends_here k more)
step_counts closed Filler m more last c t n got h₁ h₃ = refl
step_counts (going u g) Filler m more last c t n got h₁ h₃ = tt
step_counts closed Data m more last c t n got h₁ h₃ =
    breaks_if (ltb 1 m) _ _ (data_counts (eqb t t) more (ltb (length got) t) (eqb (length got) t) (going t got)
    (rec got))
step_counts (going u g) Data m more last c t n got h₁ h₃ =
    unless-breaks (ltb 1 m) _ _ (data_counts (eqb t u) more (ltb (length (g ++ got)) u) (eqb (length (g ++ got)) u)
    (going u (g ++ got)) (rec (g ++ got)))
step_counts closed TapeMark m more last c t n got h₁ h₃ = mark_counts more last h₃
step_counts (going u g) TapeMark m more last c t n got h₁ h₃ = tt
step_counts o Other0 m more last c t n got h₁ h₃ = absurd h₁
step_counts o Other4 m more last c t n got h₁ h₃ = absurd h₁
step_counts o Other5 m more last c t n got h₁ h₃ = absurd h₁
step_counts o Other6 m more last c t n got h₁ h₃ = absurd h₁
step_counts o Other7 m more last c t n got h₁ h₃ = absurd h₁
step_counts o (Wide k) m more last c t n got h₁ h₃ = absurd h₁

abbrev HasOpen : Option Open → Type 0
HasOpen None = ⊥
HasOpen (Some o) = Unit {0}

count_pages : (pgs : List PlannedPage) (head : Bool) (free : ℕ) (o : Open) (bs : List ℕ) → Laid head free pgs
    → HasOpen (follow_pages o (page_entries pgs) bs).after
    → length (follow_pages o (page_entries pgs) bs).ended ≡ ends_on pgs
unfolding follow_pages after-step
count_pages [] head free o bs l h = refl
count_pages (pg ∷ pgs) head free o bs l h =
    let p : Law (entry_for pg (is_empty pgs)) = law head (entry_for pg (is_empty pgs)) l.0 in
    go (page_step o (entry_for pg (is_empty pgs)) (take pg.count bs))
    (step_counts o pg.kind pg.piece pg.more (is_empty pgs) pg.count pg.total pg.object
    (take pg.count bs) p.known p.goes_on_last)
    (λ o₁. count_pages pgs false (free - (pg.count + 8)) o₁ (drop pg.count bs) l.2) h
  where
    go : (s : PageStep) → Counts s (ends_here pg.kind pg.more)
        → ((o₁ : Open) → HasOpen (follow_pages o₁ (page_entries pgs) (drop pg.count bs)).after
        → length (follow_pages o₁ (page_entries pgs) (drop pg.count bs)).ended ≡ ends_on pgs)
        → HasOpen (after-step s (page_entries pgs) (drop pg.count bs)).after
        → length (after-step s (page_entries pgs) (drop pg.count bs)).ended
        ≡ ends_here pg.kind pg.more + ends_on pgs
    go breaks c ih k = absurd k
    go (goes_on o₁) c ih k = omega (arith, ih o₁ k)
    go (ends x) c ih k = omega (arith, ih closed k)

block_is : (o : Open) (pgs : List PlannedPage) (bs : List ℕ) → Laid true 8208 pgs → user_bytes pgs ≤ length bs
    → follow_block o (field_of pgs bs) ≡ follow_pages o (page_entries pgs) (field_of pgs bs)
block_is o pgs bs l h =
    ap (λ (m : Option (List Entry)). elim m as (λ _. Followed) [
      | None ↦ broke
      | Some es ↦ follow_pages o es
          (field_of pgs bs)
    ]) (map_reads_back pgs bs l h)

pub count-blocks : (last : Bool) (blocks : List (List PlannedPage)) (o : Open) (b : ℕ) (bs : List ℕ) → AllLaid blocks
    → all_user_bytes blocks ≤ length bs
    → (follow_blocks last o b (fields blocks bs)).broken ≡ None
    → length (follow_blocks last o b (fields blocks bs)).found ≡ ends_in blocks
unfolding follow_blocks then-blocks
count-blocks last [] o b bs l h e = refl
count-blocks last (pgs ∷ more) o b bs l h e =
    go (follow_block o (field_of pgs bs)).ended (follow_block o (field_of pgs bs)).after
    (subst (λ (g : Followed). HasOpen g.after → length g.ended ≡ ends_on pgs)
    (sym (block_is o pgs bs l.0 (omega arith)))
    (count_pages pgs true 8208 o (field_of pgs bs) l.0))
    (λ o₁. count-blocks last more o₁ (suc b) (drop (user_bytes pgs) bs) l.1
    (omega (arith, length-drop (user_bytes pgs) bs))) e
  where
    fs : List (List ℕ)
    fs = fields more (drop (user_bytes pgs) bs)

    go : (es : List Object) (q : Option Open) → (HasOpen q → length es ≡ ends_on pgs)
        → ((o₁ : Open) → (follow_blocks last o₁ (suc b) fs).broken ≡ None
        → length (follow_blocks last o₁ (suc b) fs).found ≡ ends_in more)
        → (then-blocks last b (record { ended = es; after = q }) fs).broken ≡ None
        → length (then-blocks last b (record { ended = es; after = q }) fs).found ≡ ends_on pgs + ends_in more
    go es None c ih k = cc
    go es (Some o₁) c ih k = length-append es (follow_blocks last o₁ (suc b) fs).found ∙ ap₂ ◌+◌ (c tt) (ih o₁ k)

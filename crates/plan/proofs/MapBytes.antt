-- The map of a laid block, read from the bytes of its Data Field, is the list of its pages' entries. Assumes nothing.
use Rattle.std.proofs.Common.{◌≡◌, ℕ, zero, suc, ◌+◌, ◌-◌, ◌*◌, ◌≤◌, Bool, true, false, cond, ◌&&◌, T, eqb, leb, List, [], ◌∷◌, ◌++◌, map, length, take, drop, Some, None, Option, sym, refl, ap, ◌∙◌, ap₂, append_assoc, append-nil, suc-le-suc, zero-le, le_refl, le_of_suc-le-suc, not-suc-le-zero, zero-add, arith, le→leb, length-append, ne_eqb}
use Rattle.std.proofs.lemmas.List.{take_at, drop_at}
use Rattle.std.specs.List.{range_with_len}
use Rattle.bits.specs.Fields.{Within}
use Rattle.block.specs.Block.{zeros}
use Rattle.pages.specs.Entry.{entry_widths, entry_fields, entry_bytes, entry_of}
use Rattle.pages.specs.Map.{entry_at, lawful_entry, map_step, map_from, map_size}
use Rattle.pages.specs.declared.entry.Entry.{Entry}
use Rattle.pages.specs.declared.map.Step.{Step}
use Rattle.pages.specs.declared.map.Step.TheVariants.{Last, Next}
use Rattle.pages.proofs.EntryLaws.{entry_decodes}
use Rattle.pages.proofs.MapSteps.{follow, map-follows}
use Rattle.plan.specs.declared.page.PlannedPage.{PlannedPage}
use Rattle.plan.specs.DataFields.{is_empty, entry_for, entries, page_entries, user_bytes}
use Rattle.plan.specs.DataFields.{page_bytes, page_sizes, field_of}
use Rattle.plan.specs.Following.{entries_of}
use Rattle.plan.specs.Laws.{Laid, MapReadsBack}
use Rattle.plan.proofs.LawfulPages.{entry_within}
use Rattle.plan.proofs.Truth.{is_true, T_and}
use Rattle.plan.proofs.FieldLengths.{length-entry, laid_sizes, length-field}

-- ---- what an entry says of the map where it is lawful and has room: the last, or one before others

last_step : (e : Entry) (first : Bool) (free : ℕ) → T (lawful_entry first e) → e.last ≡ true → e.count + 8 ≤ free
    → free - (e.count + 8) ≤ 16 → map_step free first e ≡ Some Last
last_step e first free t l h k =
    ap (λ (b : Bool). cond b (cond e.last (cond (leb (free - (e.count + 8)) 16) (Some Last) None)
    (Some (Next (free - (e.count + 8))))) None)
    (is_true (lawful_entry first e && leb (e.count + 8) free) (T_and _ _ t (le→leb (e.count + 8) free h)))
    ∙ ap₂ (λ (b c : Bool). cond b (cond c (Some Last) None) (Some (Next (free - (e.count + 8))))) l (is_true _ (le→leb _ _ k))

more-step : (e : Entry) (first : Bool) (free : ℕ) → T (lawful_entry first e) → e.last ≡ false → e.count + 8 ≤ free
    → map_step free first e ≡ Some (Next (free - (e.count + 8)))
more-step e first free t l h =
    ap (λ (b : Bool). cond b (cond e.last (cond (leb (free - (e.count + 8)) 16) (Some Last) None)
    (Some (Next (free - (e.count + 8))))) None)
    (is_true (lawful_entry first e && leb (e.count + 8) free) (T_and _ _ t (le→leb (e.count + 8) free h)))
    ∙ ap (λ (b : Bool). cond b (cond (leb (free - (e.count + 8)) 16) (Some Last) None) (Some (Next (free - (e.count + 8))))) l

-- the entry of the first page stands behind those of the later ones
entry_here : (pg : PlannedPage) (pgs : List PlannedPage) (i : ℕ) (front tail field : List ℕ)
    → field ≡ front ++ (entries (pg ∷ pgs) ++ tail) → length field ≡ 8208 → length tail ≡ 8 * i
    → Within entry_widths (entry_fields (entry_for pg (is_empty pgs)))
    → entry_at field i ≡ entry_for pg (is_empty pgs)
entry_here pg pgs i front tail field e hl ht w =
    let eb : List ℕ = entry_bytes (entry_for pg (is_empty pgs)) in
    let e' : field ≡ (front ++ entries pgs) ++ (eb ++ tail) =
    e ∙ ap (λ (x : List ℕ). front ++ x) (append_assoc (entries pgs) eb tail)
    ∙ sym (append_assoc front (entries pgs) (eb ++ tail)) in
    let n : length (front ++ entries pgs) ≡ 8208 - 8 * (i + 1) =
    omega (
      arith,
      sym hl ∙ ap length e' ∙ length-append (front ++ entries pgs) (eb ++ tail),
      length-append eb tail,
      length-entry (entry_for pg (is_empty pgs)),
      ht,
    ) in
    ap (λ (x : List ℕ). entry_of (take 8 (drop (8208 - 8 * (i + 1)) x))) e'
    ∙ ap (λ (x : List ℕ). entry_of (take 8 x)) (drop_at (front ++ entries pgs) (eb ++ tail) (8208 - 8 * (i + 1)) n)
    ∙ ap entry_of (take_at eb tail 8 (length-entry (entry_for pg (is_empty pgs))))
    ∙ entry_decodes (entry_for pg (is_empty pgs)) w

-- ---- the map from entry i on, where pages stand with their entries before those of `tail`

pub record Standing (pgs : List PlannedPage) (head : Bool) (free i : ℕ) (front tail field : List ℕ) : Type 0 where
  pub small : free ≤ 8208
  pub first : eqb i 0 ≡ head
  pub laid : Laid head free pgs
  pub whole : field ≡ front ++ (entries pgs ++ tail)
  pub long : length field ≡ 8208
  pub behind : length tail ≡ 8 * i

entry_stands : (pg : PlannedPage) (pgs : List PlannedPage) (head : Bool) (free i : ℕ) (front tail field : List ℕ)
    → Standing (pg ∷ pgs) head free i front tail field → entry_at field i ≡ entry_for pg (is_empty pgs)
entry_stands pg pgs head free i front tail field s =
    entry_here pg pgs i front tail field s.whole s.long s.behind
    (entry_within head (is_empty pgs) pg s.laid.0 (omega (arith, s.small, s.laid.1)))

pub not_first : (i : ℕ) → eqb (i + 1) 0 ≡ false
not_first i = ne_eqb (i + 1) 0 (λ e. let z : i + 1 ≡ 0 = e in omega arith)

stands-later : (pg pg' : PlannedPage) (pgs : List PlannedPage) (head : Bool) (free i : ℕ) (front tail field : List ℕ)
    → Standing (pg ∷ pg' ∷ pgs) head free i front tail field
    → Standing (pg' ∷ pgs) false (free - (pg.count + 8)) (i + 1) front (entry_bytes (entry_for pg false) ++ tail) field
stands-later pg pg' pgs head free i front tail field s = record {
  small = omega (arith, s.small);
  first = not_first i;
  laid = s.laid.2;
  whole = s.whole ∙ ap (λ (x : List ℕ). front ++ x) (append_assoc (entries (pg' ∷ pgs))
      (entry_bytes (entry_for pg false)) tail);
  long = s.long;
  behind = length-append (entry_bytes (entry_for pg false)) tail
      ∙ omega (arith, length-entry (entry_for pg false), s.behind);
}

found-size : (pgs : List PlannedPage) (head : Bool) (left free i : ℕ) (front tail field : List ℕ) → length pgs ≤ left
    → 1 ≤ length pgs
    → Standing pgs head free i front tail field → map_from left free i field ≡ Some (i + length pgs)
found-size [] head left free i front tail field hn h1 s = absurd (not-suc-le-zero h1)
found-size (pg ∷ pgs) head zero free i front tail field hn h1 s = absurd (not-suc-le-zero hn)
found-size (pg ∷ []) head (suc left) free i front tail field hn h1 s =
    map-follows left free i field
    ∙ ap (λ (st : Option Step). follow st i (λ f. map_from left f (i + 1) field))
    (ap₂ (map_step free) s.first (entry_stands pg [] head free i front tail field s)
    ∙ last_step (entry_for pg true) head free s.laid.0 refl s.laid.1 s.laid.2)
found-size (pg ∷ pg' ∷ pgs) head (suc left) free i front tail field hn h1 s =
    let n : i + 1 + length (pg' ∷ pgs) ≡ i + length (pg ∷ pg' ∷ pgs) = omega arith in
    map-follows left free i field
    ∙ ap (λ (st : Option Step). follow st i (λ f. map_from left f (i + 1) field))
    (ap₂ (map_step free) s.first (entry_stands pg (pg' ∷ pgs) head free i front tail field s)
    ∙ more-step (entry_for pg false) head free s.laid.0 refl s.laid.1)
    ∙ found-size (pg' ∷ pgs) false left (free - (pg.count + 8)) (i + 1) front
    (entry_bytes (entry_for pg false) ++ tail) field
    (le_of_suc-le-suc hn) (suc-le-suc zero-le) (stands-later pg pg' pgs head free i front tail field s)
    ∙ ap Some n

found-entries : (pgs : List PlannedPage) (head : Bool) (free i : ℕ) (front tail field : List ℕ)
    → Standing pgs head free i front tail field → map (entry_at field) (range_with_len i (length pgs)) ≡ page_entries pgs
found-entries [] head free i front tail field s = refl
found-entries (pg ∷ []) head free i front tail field s =
    ap (λ (e : Entry). e ∷ []) (entry_stands pg [] head free i front tail field s)
found-entries (pg ∷ pg' ∷ pgs) head free i front tail field s =
    ap₂ {C = List Entry} ◌∷◌ (entry_stands pg (pg' ∷ pgs) head free i front tail field s)
    (found-entries (pg' ∷ pgs) false (free - (pg.count + 8)) (i + 1) front
    (entry_bytes (entry_for pg false) ++ tail) field
    (stands-later pg pg' pgs head free i front tail field s))

-- ---- the whole map
some_page : (pgs : List PlannedPage) → Laid true 8208 pgs → 1 ≤ length pgs
some_page [] l = omega arith
some_page (pg ∷ pgs) l = suc-le-suc zero-le

field_stands : (pgs : List PlannedPage) (bs : List ℕ) → Laid true 8208 pgs → user_bytes pgs ≤ length bs
    → Standing pgs true 8208 0 (page_bytes pgs bs ++ zeros (8208 - page_sizes pgs)) [] (field_of pgs bs)
field_stands pgs bs l h = record {
  small = le_refl 8208;
  first = refl;
  laid = l;
  whole = sym (append_assoc (page_bytes pgs bs) (zeros (8208 - page_sizes pgs)) (entries pgs))
      ∙ ap (λ (x : List ℕ). (page_bytes pgs bs ++ zeros (8208 - page_sizes pgs)) ++ x) (sym (append-nil (entries pgs)));
  long = length-field pgs bs l h;
  behind = refl;
}

pub map_size_lem : (pgs : List PlannedPage) (bs : List ℕ) → Laid true 8208 pgs → user_bytes pgs ≤ length bs
    → map_size (field_of pgs bs) ≡ Some (length pgs)
unfolding map_size
map_size_lem pgs bs l h =
    found-size pgs true 1026 8208 0 (page_bytes pgs bs ++ zeros (8208 - page_sizes pgs)) [] (field_of pgs bs)
    (omega (arith, laid_sizes true 8208 pgs l)) (some_page pgs l) (field_stands pgs bs l h)
    ∙ ap Some (zero-add (length pgs))

pub map_reads_back : MapReadsBack
unfolding entries_of
map_reads_back pgs bs l h =
    ap (λ (m : Option ℕ). elim m as (λ _. Option (List Entry)) [
      | None ↦ None
      | Some n ↦ Some
          (map (entry_at (field_of pgs bs)) (range_with_len 0 n))
    ])
    (map_size_lem pgs bs l h)
    ∙ ap Some (found-entries pgs true 8208 0 (page_bytes pgs bs ++ zeros (8208 - page_sizes pgs)) [] (field_of pgs bs)
    (field_stands pgs bs l h))

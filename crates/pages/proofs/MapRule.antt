-- A map is found exactly where the rule of the map holds. Assumes nothing.
use Rattle.std.proofs.Common.{◌≡◌, ℕ, zero, suc, ◌+◌, ◌-◌, ◌*◌, ◌<◌, ◌≤◌, Bool, true, false, cond, ◌&&◌, eqb, leb, List, Some, None, Option, sym, refl, ap, ◌∙◌, subst, inl, inr, eq-or-lt_of_le, arith, eq-eqb, ne_eqb, eqb-true, le-leb, leb-true}
use borrow.Author.Tests.{eqb-false}
use Rattle.pages.specs.Map.{entry_at, lawful_entry, map_step, map_from, map_size, page_start, pages_and_entries, LawfulMap, MapsByRule}
use Rattle.pages.specs.declared.entry.Entry.{Entry}
use Rattle.pages.specs.declared.map.Step.{Step}
use Rattle.pages.specs.declared.map.Step.TheVariants.{Last, Next}
use Rattle.pages.proofs.MapSteps.{follow, map-follows, start_more}

-- what an entry says, by its four tests
abbrev step_of : Bool → Bool → Bool → Bool → ℕ → Option Step
step_of law fits last small rest = cond (law && fits) (cond last (cond small (Some Last) None) (Some (Next rest))) None

-- the rule, of the entries from i on
pub record From (field : List ℕ) (i n : ℕ) : Type 0 where
  pub more : i < n
  pub last : (j : ℕ) → i ≤ j → j < n → (entry_at field j).last ≡ eqb (j + 1) n
  pub each : (j : ℕ) → i ≤ j → j < n → lawful_entry (eqb j 0) (entry_at field j) ≡ true
  pub room : pages_and_entries field n ≤ 8208
  pub full : 8208 ≤ pages_and_entries field n + 16

-- a page more, with its entry
entry_more : (field : List ℕ) (i : ℕ) → pages_and_entries field (i + 1) ≡ pages_and_entries field i + ((entry_at field i).count + 8)
entry_more field i = ap (λ (s : ℕ). s + 8 * (i + 1)) (start_more field i) ∙ flat (page_start field i) (entry_at field i).count i
  where
    flat : (s c i : ℕ) → s + c + 8 * (i + 1) ≡ s + 8 * i + (c + 8)
    flat s c i = omega arith

-- an entry at i before the entries from i + 1 on
from_one : (field : List ℕ) (i n : ℕ) → (entry_at field i).last ≡ false → lawful_entry (eqb i 0) (entry_at field i) ≡ true
    → From field (i + 1) n → From field i n
from_one field i n el ew f = record {
  more = omega (arith, f.more);
  last = λ j h k. here j h (λ e. subst (λ (x : ℕ). (entry_at field x).last ≡ eqb (x + 1) n) e (el ∙ sym (ne_eqb (i + 1) n (omega (arith, f.more)))))
      (λ g. f.last j g k);
  each = λ j h k. here j h (λ e. subst (λ (x : ℕ). lawful_entry (eqb x 0) (entry_at field x) ≡ true) e ew) (λ g. f.each j g k);
  room = f.room;
  full = f.full;
}
  where
    here : {P : Type 0} (j : ℕ) → i ≤ j → (i ≡ j → P) → (i + 1 ≤ j → P) → P
    here j h p q = elim (eq-or-lt_of_le h) [ inl e ↦ p e | inr g ↦ q (omega arith) ]

-- the last entry alone
last_one : (field : List ℕ) (i free : ℕ) → pages_and_entries field i + free ≡ 8208
    → (entry_at field i).last ≡ true → lawful_entry (eqb i 0) (entry_at field i) ≡ true
    → (entry_at field i).count + 8 ≤ free → free - ((entry_at field i).count + 8) ≤ 16 → From field i (i + 1)
last_one field i free e el ew hf hs = record {
  more = omega arith;
  last = λ j h k. let s : i ≡ j = omega arith in
      subst (λ (x : ℕ). (entry_at field x).last ≡ eqb (x + 1) (i + 1)) s (el ∙ sym (eq-eqb (i + 1) (i + 1) refl));
  each = λ j h k. let s : i ≡ j = omega arith in subst (λ (x : ℕ). lawful_entry (eqb x 0) (entry_at field x) ≡ true) s ew;
  room = omega (arith, entry_more field i);
  full = omega (arith, entry_more field i);
}

pub from_map : (left free i n : ℕ) (field : List ℕ) → pages_and_entries field i + free ≡ 8208 → map_from left free i field ≡ Some n → From field i n
unfolding map_from
from_map zero free i n field e m = cc
from_map (suc left) free i n field e m =
    go (lawful_entry (eqb i 0) x) (leb (x.count + 8) free) x.last (leb (free - (x.count + 8)) 16) refl refl refl refl
    (sym (map-follows left free i field) ∙ m) (λ h k. from_map left (free - (x.count + 8)) (i + 1) n field h k)
  where
    x : Entry
    x = entry_at field i

    go : (law fits last small : Bool) → lawful_entry (eqb i 0) x ≡ law → leb (x.count + 8) free ≡ fits → x.last ≡ last
        → leb (free - (x.count + 8)) 16 ≡ small
        → follow (step_of law fits last small (free - (x.count + 8))) i (λ f. map_from left f (i + 1) field) ≡ Some n
        → (pages_and_entries field (i + 1) + (free - (x.count + 8)) ≡ 8208 → map_from left (free - (x.count + 8)) (i + 1) field ≡ Some n → From field (i + 1) n)
        → From field i n
    go false fits last small ew ef el es k ih = cc
    go true false last small ew ef el es k ih = cc
    go true true true false ew ef el es k ih = cc
    go true true true true ew ef el es k ih =
        let e' : i + 1 ≡ n = cc in subst (From field i) e'
        (last_one field i free e el ew (leb-true (x.count + 8) free ef) (leb-true (free - (x.count + 8)) 16 es))
    go true true false small ew ef el es k ih =
        from_one field i n el ew (ih (omega (arith, entry_more field i, leb-true (x.count + 8) free ef)) k)

start-le : (field : List ℕ) (i k : ℕ) → page_start field i ≤ page_start field (i + k)
start-le field i zero = let e : i + 0 ≡ i = omega arith in omega (arith, ap (page_start field) e)
start-le field i (suc k) =
    let e : i + suc k ≡ i + k + 1 = omega arith in
    let m : page_start field (i + suc k) ≡ page_start field (i + k) + (entry_at field (i + k)).count = ap (page_start field) e ∙ start_more field (i + k) in
    omega (arith, m, start-le field i k)

pub rule-map : (field : List ℕ) (n : ℕ) → LawfulMap field n → (left free i : ℕ) → i < n → n ≤ i + left
    → pages_and_entries field i + free ≡ 8208 → map_from left free i field ≡ Some n
rule-map field n w zero free i h k e = absurd (omega arith)
rule-map field n w (suc left) free i h k e =
    map-follows left free i field
    ∙ go (eqb (i + 1) n) refl (λ p q. rule-map field n w left (free - (x.count + 8)) (i + 1) p (omega arith) q)
  where
    x : Entry
    x = entry_at field i

    before_end : pages_and_entries field (i + 1) ≤ pages_and_entries field n
    before_end =
        let s : page_start field (i + 1) ≤ page_start field (i + 1 + (n - (i + 1))) = start-le field (i + 1) (n - (i + 1)) in
        let r : i + 1 + (n - (i + 1)) ≡ n = omega arith in
        let t : page_start field (i + 1) ≤ page_start field n = subst (λ (m : ℕ). page_start field (i + 1) ≤ page_start field m) r s in
        omega arith

    fits : leb (x.count + 8) free ≡ true
    fits = le-leb (x.count + 8) free (omega (arith, entry_more field i, before_end, w.room))

    tests : (last small : Bool) → x.last ≡ last → leb (free - (x.count + 8)) 16 ≡ small
        → map_step free (eqb i 0) x ≡ step_of true true last small (free - (x.count + 8))
    tests last small el es = λ j. step_of (w.each i h j) (fits j) (el j) (es j) (free - (x.count + 8))

    go : (b : Bool) → eqb (i + 1) n ≡ b
        → (i + 1 < n → pages_and_entries field (i + 1) + (free - (x.count + 8)) ≡ 8208 → map_from left (free - (x.count + 8)) (i + 1) field ≡ Some n)
        → follow (map_step free (eqb i 0) x) i (λ f. map_from left f (i + 1) field) ≡ Some n
    go true eb ih =
        let r : i + 1 ≡ n = eqb-true (i + 1) n eb in
        let s : leb (free - (x.count + 8)) 16 ≡ true =
        le-leb (free - (x.count + 8)) 16
        (omega (arith, entry_more field i, w.full, ap (pages_and_entries field) r)) in
        ap (λ (t : Option Step). follow t i (λ f. map_from left f (i + 1) field)) (tests true true (w.last i h ∙ eb) s) ∙ ap Some r
    go false eb ih =
        ap (λ (t : Option Step). follow t i (λ f. map_from left f (i + 1) field))
        (tests false (leb (free - (x.count + 8)) 16) (w.last i h ∙ eb) refl)
        ∙ ih (let apart : i + 1 ≡ n → ⊥ = eqb-false (i + 1) n eb in omega arith)
        (omega (arith, entry_more field i, leb-true (x.count + 8) free fits))

pub maps_by_rule : MapsByRule
unfolding map_size page_start
maps_by_rule field n = (
  (λ m. let f : From field 0 n = from_map 1026 8208 0 n field refl m in
      record { some = f.more; last = λ i h. f.last i (omega arith) h; each = λ i h. f.each i (omega arith) h; room = f.room; full = f.full }),
  (λ w. rule-map field n w 1026 8208 0 w.some (omega (arith, w.room)) refl),
)

-- no more entries than a block has room for
pub map-few : (field : List ℕ) (n : ℕ) → map_size field ≡ Some n → n ≤ 1026
map-few field n m = omega (arith, ((maps_by_rule field n).0 m).room)

-- every page of a map lies in the Data Field
pub page_within : (field : List ℕ) (n k : ℕ) → map_size field ≡ Some n → k < n → page_start field k + (entry_at field k).count ≤ 8208
page_within field n k m h =
    let w : LawfulMap field n = (maps_by_rule field n).0 m in
    let r : k + 1 + (n - (k + 1)) ≡ n = omega arith in
    let s : page_start field (k + 1) ≤ page_start field n =
    subst (λ (j : ℕ). page_start field (k + 1) ≤ page_start field j) r (start-le field (k + 1) (n - (k + 1))) in
    omega (arith, start_more field k, s, w.room)

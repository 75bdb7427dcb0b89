-- The map, one entry of a loop more. Assumes nothing.
use Rattle.std.proofs.Common.{◌≡◌, ℕ, suc, ◌+◌, ◌-◌, ◌<◌, ◌≤◌, eqb, List, Some, None, Option, sym, refl, ap, ◌∙◌, arith}
use Rattle.pages.specs.Map.{entry_at, map_step, map_from, map_size, page_start}
use Rattle.pages.specs.declared.map.Step.{Step}
use Rattle.pages.specs.declared.map.Step.TheVariants.{Last, Next}

-- the map from entry i on, by what the entry says
abbrev pub follow : Option Step → ℕ → (ℕ → Option ℕ) → Option ℕ
follow None i more = None
follow (Some Last) i more = Some (i + 1)
follow (Some (Next free)) i more = more free

pub map-follows : (left free i : ℕ) (field : List ℕ)
    → map_from (suc left) free i field ≡ follow (map_step free (eqb i 0) (entry_at field i)) i (λ f. map_from left f (i + 1) field)
unfolding map_from
map-follows left free i field = go (map_step free (eqb i 0) (entry_at field i))
  where
    go : (s : Option Step)
        → elim s [ None ↦ None | Some Last ↦ Some (i + 1) | Some (Next rest) ↦ map_from left rest (i + 1) field ]
        ≡ follow s i (λ f. map_from left f (i + 1) field)
    go None = refl
    go (Some Last) = refl
    go (Some (Next rest)) = refl

-- what is left of the map behind an entry is the map, if it was so before it
pub by_step : (field : List ℕ) (free i : ℕ) (s : Option Step) → i < 1026
    → s ≡ map_step free (eqb i 0) (entry_at field i) → map_from (1026 - i) free i field ≡ map_size field
    → follow s i (λ f. map_from (1026 - (i + 1)) f (i + 1) field) ≡ map_size field
by_step field free i s h e inv =
    let one : 1026 - i ≡ suc (1026 - (i + 1)) = omega arith in
    ap (λ (t : Option Step). follow t i (λ f. map_from (1026 - (i + 1)) f (i + 1) field)) e
    ∙ sym (map-follows (1026 - (i + 1)) free i field) ∙ ap (λ (n : ℕ). map_from n free i field) (sym one) ∙ inv

pub map_spent : (field : List ℕ) (free i : ℕ) → 1026 ≤ i → map_from (1026 - i) free i field ≡ map_size field → None ≡ map_size field
unfolding map_from
map_spent field free i h inv =
    let none_left : 1026 - i ≡ 0 = omega arith in
    sym (ap (λ (n : ℕ). map_from n free i field) none_left) ∙ inv

pub start_more : (field : List ℕ) (k : ℕ) → page_start field (k + 1) ≡ page_start field k + (entry_at field k).count
unfolding page_start
start_more field k = ap (page_start field) (let e : k + 1 ≡ suc k = omega arith in e)

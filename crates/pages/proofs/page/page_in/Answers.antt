-- A page that the map has lies in the Data Field. Assumes nothing.
use Rattle.std.proofs.Common.{◌≡◌, ℕ, Some, ◌+◌, ◌-◌, ◌<◌, sym, ◌∙◌, ap, ap₂, arith}
use Rattle.pages.specs.Map.{entry_at, page_start}
use Rattle.pages.specs.declared.entry.Entry.{Entry}
use Rattle.pages.proofs.MapRule.{map-few, page_within}
use Rattle.pages.proofs.page.page_in.Goals as goal

pub start_of-place-requires : goal.start_of-place-requires
start_of-place-requires c =
    let m : c.map_size.result ≡ Some c.in_ok-pages.pages = grind arith in
    omega (arith, map-few c.args.field.now c.in_ok-pages.pages (sym c.map_size.ensures ∙ m))

pub entry_in-requires : goal.entry_in-requires
entry_in-requires c =
    let m : c.map_size.result ≡ Some c.in_ok-pages.pages = grind arith in
    omega (arith, map-few c.args.field.now c.in_ok-pages.pages (sym c.map_size.ensures ∙ m))

pub cut-requires : goal.cut-requires
cut-requires c =
    let m : c.map_size.result ≡ Some c.in_ok-pages.pages = grind arith in
    let k : ℕ = c.args.number - 1 in
    let h : k < c.in_ok-pages.pages = omega arith in
    let e : c.start_of-place.result + c.entry_in.result.count ≡ page_start c.args.field.now k + (entry_at c.args.field.now k).count =
    ap₂ ◌+◌ c.start_of-place.ensures (ap (λ (x : Entry). x.count) c.entry_in.ensures) in
    omega (arith, e, page_within c.args.field.now c.in_ok-pages.pages k (sym c.map_size.ensures ∙ m) h)

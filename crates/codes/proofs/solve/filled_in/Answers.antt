-- Each missing word is put in by itself. Assumes nothing.
use Rattle.std.proofs.Common.{◌≡◌, ℕ, ◌+◌, ◌<◌, ◌≤◌, true, false, ◌&&◌, ltb, length, get_or, sym, ap, ◌∙◌, zero-add, arith, rules, tests, bit_xor}
use Rattle.std.specs.Int.Bits.{xor_zero_r}
use Rattle.std.proofs.lemmas.Bool.{and_parts, ltb-true}
use Rattle.codes.specs.Filling.{MissingWord}
use Rattle.codes.proofs.Made.{made_at}
use Rattle.codes.proofs.Patching.{patched}
use Rattle.codes.proofs.Solving.{differs_from}
use Rattle.codes.proofs.solve.filled_in.Goals as goal

pub returns : goal.returns
returns g c =
    let f = c.args.field.now in
    let F = g.F.Field.means f in
    let r = c.args.r in
    let marks = c.args.marks.now in
    let blank = c.args.blank.now in
    let out = c.from_fn.result in
    let lost = λ (k : ℕ). ltb k (16 + r) && get_or marks k false in
    let lb : length blank ≡ 20 = search rules in
    let lo : length out ≡ 20 = search rules in
    let n20 : 16 + r ≤ 20 = omega (arith, c.requires.few) in
    let word : (i : ℕ) → i < 20 → lost i ≡ true → MissingWord F r c.args.totals.now marks i (get_or out i 0) = λ i h.
    made_at _ _ (λ k y. lost k ≡ true → MissingWord F r c.args.totals.now marks k y) (λ k y q called. search (rules, tests))
    out 20 0 c.from_fn.ensures.items.each i i h (zero-add i) 0 in
    let kept : (i : ℕ) → i < 20 → lost i ≡ false → get_or out i 0 ≡ get_or blank i 0 = λ i h.
    made_at _ _ (λ k y. lost k ≡ false → y ≡ get_or blank k 0) (λ k y q called. search (rules, tests))
    out 20 0 c.from_fn.ensures.items.each i i h (zero-add i) 0 in
    patched F.wide F.times (16 + r) r blank marks out n20 lb lo
    (λ i h e few ws v ks.
    let within : i < 16 + r = ltb-true i (16 + r) (and_parts _ _ e).0 in
    let miss : get_or marks i false ≡ true = (and_parts _ _ e).1 in
    sym (word i h e few _
    (differs_from F.wide F.times _ (g.met.F.Field.lawful f) (g.met.F.Field.narrow f).0 (g.met.F.Field.apart f) (16 + r) r
    blank marks c.args.totals.now ws c.requires.fits c.requires.sums v ks)
    ∙ ap (bit_xor (get_or ws i 0)) (c.requires.zeros i within miss) ∙ xor_zero_r (get_or ws i 0)))
    kept

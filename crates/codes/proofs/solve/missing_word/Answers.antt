-- A turn takes one missing position out of the sums. Assumes nothing.
use Rattle.std.proofs.Common.{◌≡◌, ℕ, ◌+◌, ◌<◌, ◌≤◌, List, length, get_or, take, false, sym, ap, ◌∙◌, subst, subst₂, inl, inr, arith, rules, bit_xor}
use Rattle.std.proofs.lemmas.List.{length-take-le, get_or-take}
use Rattle.codes.proofs.Solving.{Held, held_start, held-skip, held-take, held_end}
use Rattle.codes.proofs.solve.missing_word.Goals as goal
use Rattle.codes.proofs.solve.missing_word.Goals.{then-missing+then-k-at, else-missing, else-missing-via-then-missing+else-k-at, else-missing-via-else-missing}

pub loop-k-init : goal.loop-k-init
loop-k-init g c =
    let f = c.args.field.now in
    held_start _ _ _ (g.met.F.Field.lawful f) (g.met.F.Field.narrow f).0 (g.met.F.Field.apart f)
    (16 + c.args.r) c.args.r
    (omega (arith, c.requires.few)) c.args.marks.now c.args.at c.requires.within c.args.totals.now

pub loop-k-preserved : goal.loop-k-preserved
loop-k-preserved g c =
    let f = c.args.field.now in
    let mul = (g.F.Field.means f).times in
    let wide = (g.F.Field.means f).wide in
    let r = c.args.r in
    let k = c.loop-k.k in
    let marks = c.args.marks.now in
    let totals = c.args.totals.now in
    let H : ℕ → List ℕ → Type 0 = λ s t. Held mul wide (16 + r) r marks c.args.at totals (k + 1) s t in
    let n20 : 16 + r ≤ 20 = omega (arith, c.requires.few) in
    let l20 : length marks ≡ 20 = search rules in
    let long : length (take (16 + r) marks) ≡ 16 + r = length-take-le (16 + r) marks (omega (arith, l20)) in
    let in_n : k < 16 + r = omega (arith, long, c.loop-k-test.true) in
    let mark : get_or marks k false ≡ get_or (take (16 + r) marks) k false = sym (get_or-take (16 + r) marks k false in_n) in
    elim c.if-missing.branch [
      | then-missing+then-k-at w ↦
          subst₂ H
          (sym (w.scale-is ∙ w.product-scale.ensures ∙ ap (mul c.loop-k.scale) w.gap.ensures))
          (sym w.sums-is)
          (held-take _ mul _ (g.met.F.Field.lawful f) (g.met.F.Field.narrow f).0 (g.met.F.Field.apart f)
          (16 + r) r n20 marks c.args.at c.requires.within totals k c.loop-k.scale c.loop-k.sums w.without-sums.result
          c.requires.few in_n w.if-k-at.true (mark ∙ w.if-missing.true)
          (λ j q. w.without-sums.ensures j q
          ∙ ap (λ t. bit_xor (get_or c.loop-k.sums (j + 1) 0) (mul t (get_or c.loop-k.sums j 0)))
          w.point.ensures)
          c.loop-k.invariant)
      | else-missing w ↦
          let skipped = held-skip _ mul _ (g.met.F.Field.lawful f) (g.met.F.Field.narrow f).0 (g.met.F.Field.apart f)
          (16 + r) r n20 marks c.args.at c.requires.within totals k c.loop-k.scale c.loop-k.sums in
          subst₂ H (sym w.scale-is) (sym w.sums-is) (elim w.else-missing.branch [
            | else-missing-via-then-missing+else-k-at v ↦ skipped (inr v.if-k-at.false) c.loop-k.invariant
            | else-missing-via-else-missing v ↦ skipped (inl (mark ∙ v.if-missing.false)) c.loop-k.invariant
          ])
    ]

pub returns : goal.returns
returns g c = λ few e d.
    let f = c.args.field.now in
    let mul = (g.F.Field.means f).times in
    let r = c.args.r in
    let marks = c.args.marks.now in
    let l20 : length marks ≡ 20 = search rules in
    let long : length (take (16 + r) marks) ≡ 16 + r = length-take-le (16 + r) marks (omega (arith, l20, c.requires.few)) in
    let full : c.loop-k.k ≡ 16 + r = omega (arith, long, c.loop-k-test.false, c.loop-k.auto.k-end) in
    c.product.ensures
    ∙ held_end _ mul _ (g.met.F.Field.lawful f) (g.met.F.Field.narrow f).0 (g.met.F.Field.apart f) (16 + r) r
    (omega (arith, c.requires.few)) marks c.args.at c.requires.within c.args.totals.now c.loop-k.scale
    c.loop-k.sums few c.requires.lost
    (subst (λ n. Held mul (g.F.Field.means f).wide (16 + r) r marks c.args.at c.args.totals.now n
    c.loop-k.scale c.loop-k.sums) full c.loop-k.invariant) e d

-- A turn counts one mark. Assumes nothing.
use Rattle.std.proofs.Common.{◌≡◌, ℕ, ◌+◌, ◌<◌, false, cond, length, get_or, take, refl, sym, ap, ◌∙◌, add-one, arith, rules}
use Rattle.std.proofs.lemmas.List.{length-take-le, get_or-take}
use Rattle.codes.specs.Filling.{missing_count}
use Rattle.codes.proofs.column.count_missing.Goals as goal
use Rattle.codes.proofs.column.count_missing.Goals.{then-missing, else-missing}

pub loop-missing-init : goal.loop-missing-init
unfolding missing_count
loop-missing-init c = (refl, omega arith)

pub loop-missing-preserved : goal.loop-missing-preserved
unfolding missing_count
loop-missing-preserved c =
    let marks = c.args.marks.now in
    let i = c.loop-missing.missing-index in
    let l20 : length marks ≡ 20 = search rules in
    let long : length (take c.args.n marks) ≡ c.args.n = length-take-le c.args.n marks (omega (arith, l20, c.requires)) in
    let within : i < c.args.n = omega (arith, long, c.loop-missing-test.true) in
    let mark : get_or marks i false ≡ get_or (take c.args.n marks) i false = sym (get_or-take c.args.n marks i false within) in
    let next : missing_count marks (i + 1) ≡ c.loop-missing.count + cond (get_or marks i false) 1 0 =
    ap (missing_count marks) (add-one i) ∙ ap (λ m. m + cond (get_or marks i false) 1 0) (sym c.loop-missing.invariant.0) in
    elim c.if-missing.branch [
      | then-missing w ↦ (
        w.count-is ∙ ap (λ b. c.loop-missing.count + cond b 1 0) (sym (mark ∙ w.if-missing.true)) ∙ sym next,
        omega (arith, w.count-is, c.loop-missing.invariant.1),
      )
      | else-missing w ↦ (
        omega (arith, w.count-is, next, ap (λ b. cond {A = ℕ} b 1 0) (mark ∙ w.if-missing.false)),
        omega (arith, w.count-is, c.loop-missing.invariant.1),
      )
    ]

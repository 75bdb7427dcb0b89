-- Each word is kept or blank. Assumes nothing.
use Rattle.std.proofs.Common.{◌≡◌, false, not, ◌&&◌, length, get_or, ltb, cond, zero-add, rules, tests}
use Rattle.codes.proofs.Blanking.{blank_all}
use Rattle.codes.proofs.Made.{made_at}
use Rattle.codes.proofs.column.blanked.Goals as goal

pub returns : goal.returns
returns c =
    let column = c.args.column.now in
    let marks = c.args.marks.now in
    let lc : length column ≡ 20 = search rules in
    let lo : length c.from_fn.result ≡ 20 = search rules in
    blank_all column marks c.args.n c.from_fn.result lc lo
    (λ i h. made_at _ _ (λ k y. y ≡ cond (ltb k c.args.n && not (get_or marks k false)) (get_or column k 0) 0)
    (λ k y q called. search (rules, tests)) c.from_fn.result 20 0 c.from_fn.ensures.items.each i i h (zero-add i) 0)

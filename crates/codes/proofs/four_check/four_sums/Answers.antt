-- The four sums, from the check words of the sixteen in front. Assumes nothing.
use Rattle.std.proofs.Common.{ℕ, ◌≡◌, ◌<◌, [], length, get_or, ◌∙◌, zero-add, rules}
use Rattle.field.specs.Polynomials.{word_product}
use Rattle.field.specs.Sums.{total}
use Rattle.codes.specs.declared.four_check.TheConstants.{TAILS}
use Rattle.codes.proofs.FourSums.{four-sum}
use Rattle.codes.proofs.Made.{made_at}
use Rattle.codes.proofs.four_check.four_sums.Goals as goal

pub returns : goal.returns
returns c = λ j h.
    let column = c.args.column.now in
    let apart = c.apart-apart.result in
    let long : length column ≡ 20 = search rules in
    let small : (i : ℕ) → i < 20 → get_or column i 0 < 65536 = λ i l. search rules in
    made_at _ _ (λ i y. y ≡ total (λ q. word_product (get_or (get_or TAILS i []) q 0) (get_or apart q 0)) 4)
    (λ i y f called. search rules) c.from_fn.result 4 0 c.from_fn.ensures.items.each j j h (zero-add j) 0
    ∙ four-sum column long small apart c.apart-apart.ensures j h

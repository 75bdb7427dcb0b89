-- Each word is the difference of a check word and the word in its place. Assumes nothing.
use Rattle.std.proofs.Common.{◌≡◌, get_or, ap, ap₂, ◌∙◌, zero-add, rules, bit_xor}
use Rattle.std.proofs.lemmas.List.{get_or-drop}
use Rattle.codes.specs.TwoCodes.{by_sums}
use Rattle.codes.proofs.Made.{made_at}
use Rattle.codes.proofs.four_check.apart.Goals as goal

pub returns : goal.returns
returns c = λ q l.
    let made = c.four_checks-made.result in
    let tail = c.split.result.1 in
    made_at _ _ (λ k y. y ≡ bit_xor (get_or made k 0) (get_or tail k 0)) (λ k y f called. search rules) c.from_fn.result 4 0
    c.from_fn.ensures.items.each q q l (zero-add q) 0
    ∙ ap₂ bit_xor (ap (λ t. get_or t q 0) (c.four_checks-made.ensures ∙ ap (by_sums 4) c.split.ensures.front))
    (ap (λ t. get_or t q 0) c.split.ensures.tail ∙ get_or-drop 16 c.args.column.now q 0)

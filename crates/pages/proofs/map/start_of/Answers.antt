-- The pages so far have the counts of the last slots. Assumes nothing.
use Rattle.std.proofs.Common.{◌≡◌, ◌-◌, ◌<◌, ◌∙◌, drop, ap, rules, lit<, arith, length-drop}
use borrow.Author.Tests.{tests}
use Rattle.std.specs.Slice.Iter.{iter_rest}
use Rattle.std.proofs.lemmas.List.{take_rest}
use Rattle.std.proofs.lemmas.Iterator.{YieldsList-from_slice, YieldsList-from_map}
use Rattle.std.proofs.lemmas.Iterator.Adapters.{fits_from_length, at_most_from_yields_List}
use Rattle.std.proofs.lemmas.Iterator.Consumers.{sum_by_from_yields_List}
use Rattle.pages.proofs.Slots.{Slots, count_in, count_in-lt, counts_sum}
use Rattle.pages.proofs.map.start_of.Goals as goal

pub sum-requires-clause-fits : goal.sum-requires-clause-fits
unfolding count_in
sum-requires-clause-fits c =
    let last = drop (1026 - c.args.count) c.slots.result.now in
    let e = ap iter_rest c.map.ensures.source ∙ c.iter.ensures.rest ∙ take_rest c.slots.result.now (1026 - c.args.count) in
    let few = length-drop (1026 - c.args.count) c.slots.result.now in
    fits_from_length _ _ 1026 _
    (at_most_from_yields_List (YieldsList-from_slice last e) (omega (arith, few, c.slots.ensures.count)))
    c.map.ensures.closure (lit< tt) (λ x r q k.
    let is : r ≡ count_in x.now = search (rules, tests) in
    let small : count_in x.now < 65536 = count_in-lt x.now in (search (rules, tests), omega arith))

pub returns : goal.returns
unfolding count_in
returns c =
    let last = drop (1026 - c.args.count) c.slots.result.now in
    let e = ap iter_rest c.map.ensures.source ∙ c.iter.ensures.rest ∙ take_rest c.slots.result.now (1026 - c.args.count) in
    let all : Slots c.slots.result.now c.args.field.now =
    record { count = c.slots.ensures.count; each = c.slots.ensures.each } in
    sum_by_from_yields_List count_in last c.map.result c.sum.result c.sum.ensures.ran
    (YieldsList-from_map _ count_in (YieldsList-from_slice last e) c.map.ensures.closure (λ x r q k. search (rules, tests)))
    ∙ counts_sum c.slots.result.now c.args.field.now all c.args.count c.requires

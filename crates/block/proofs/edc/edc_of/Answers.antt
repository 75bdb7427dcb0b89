-- Each turn takes in one word; at the end one byte is left, or nothing. Assumes nothing.
use Rattle.std.proofs.Common.{◌≡◌, ℕ, ◌+◌, ◌/◌, List, [], ◌++◌, length, drop, get_or, sym, ap, ap₂, ◌∙◌, arith, rules}
use Rattle.std.proofs.lemmas.List.{append_assoc, at_drop_more, at_drop_all}
use Rattle.bits.proofs.Chunks.{joined, joined_is}
use Rattle.block.specs.Edc.{words, edc_words, edc}
use Rattle.block.proofs.EdcLaws.{edc_more, edc_one, edc_none}
use Rattle.block.proofs.edc.edc_of.Goals as goal

pub loop-low-init : goal.loop-low-init
unfolding edc
loop-low-init c =
    ap (λ (bs : List ℕ). edc_words 0x45 (words bs))
    (ap₂ (λ (cs : List (List ℕ)) (r : List ℕ). joined cs ++ r) c.as_chunks.ensures.front c.as_chunks.ensures.back
    ∙ joined_is 2 (length c.args.bytes.now / 2) c.args.bytes.now)

pub loop-low-preserved : goal.loop-low-preserved
loop-low-preserved c =
    let ps = c.as_chunks.result.0.now in
    let last = c.as_chunks.result.1.now in
    let pair : List ℕ = get_or ps c.loop-low.low-index [] in
    let two : length (get_or c.as_chunks.result.0.now c.loop-low.low-index []) ≡ 2 = search rules in
    let behind : List ℕ = joined (drop (c.loop-low.low-index + 1) ps) in
    ap (λ e. edc_words e (words (behind ++ last))) c.take_in-sum.ensures
    ∙ sym (edc_more pair (behind ++ last) c.loop-low.sum (omega (arith, two)) (omega (arith, two)))
    ∙ ap (λ (bs : List ℕ). edc_words c.loop-low.sum (words bs)) (sym (append_assoc pair behind last))
    ∙ sym (at_drop_more (λ (cs : List (List ℕ)). edc_words c.loop-low.sum (words (joined cs ++ last))) ps c.loop-low.low-index []
    c.loop-low-test.true)
    ∙ c.loop-low.invariant

pub returns-in-len1 : goal.returns-in-len1
returns-in-len1 c =
    let ps = c.as_chunks.result.0.now in
    let last = c.as_chunks.result.1.now in
    c.take_in.ensures ∙ sym (edc_one last c.loop-low.sum (omega arith) (omega arith))
    ∙ sym (at_drop_all (λ (cs : List (List ℕ)). edc_words c.loop-low.sum (words (joined cs ++ last))) ps c.loop-low.low-index
    c.loop-low-test.false)
    ∙ c.loop-low.invariant

pub returns-in_default : goal.returns-in_default
returns-in_default c =
    let ps = c.as_chunks.result.0.now in
    let last = c.as_chunks.result.1.now in
    sym (edc_none last c.loop-low.sum (omega arith))
    ∙ sym (at_drop_all (λ (cs : List (List ℕ)). edc_words c.loop-low.sum (words (joined cs ++ last))) ps c.loop-low.low-index
    c.loop-low-test.false)
    ∙ c.loop-low.invariant

-- A fold of products is the total of products. Assumes nothing.
use Rattle.std.proofs.Common.{ℕ, ◌≡◌, length, get_or, fold, ap, ◌∙◌, rules, tests, arith, bit_xor}
use Rattle.std.specs.List.{zip}
use Rattle.std.proofs.lemmas.Slice.Zip.{length-zip, get_or-zip}
use Rattle.std.proofs.lemmas.Iterator.{YieldsList-from_slice, YieldsList-from_zip}
use Rattle.std.proofs.lemmas.Iterator.Consumers.{fold_from_yields_List}
use Rattle.field.specs.Polynomials.{word_product}
use Rattle.field.specs.Sums.{total}
use Rattle.field.proofs.Totals.{total_ext}
use Rattle.codes.proofs.Folding.{total_folded}
use Rattle.codes.proofs.four_check.combined.Goals as goal

pub returns : goal.returns
returns c =
    let row = c.args.row.now in
    let words = c.args.words.now in
    let lr : length row ≡ 4 = search rules in
    let lw : length words ≡ 4 = search rules in
    let h = λ (p : ℕ × ℕ). word_product p.0 p.1 in
    let l : length (zip row words) ≡ 4 = length-zip row words ∙ omega (arith, lr, lw) in
    let e : c.fold.result ≡ fold (λ a p. bit_xor a (h p)) 0 (zip row words) =
    fold_from_yields_List _ (λ a p. bit_xor a (h p)) 0 c.fold.result c.fold.ensures.ran
    (YieldsList-from_zip (YieldsList-from_slice row (cc)) (YieldsList-from_slice words (cc))) (λ a x b q k. search (rules, tests)) in
    e ∙ total_folded h (zip row words) (0, 0) ∙ ap (total (λ i. h (get_or (zip row words) i (0, 0)))) l
    ∙ total_ext _ _ 4 (λ i q. ap h (get_or-zip row words i (0, 0) (omega arith) (omega arith)))

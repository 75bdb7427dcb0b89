-- The four sums fill the words that are missing. Assumes nothing.
use Rattle.std.proofs.Common.{◌≡◌, ℕ, ◌<◌, length, get_or, sym, ◌∙◌, lit≤, rules}
use Rattle.codes.specs.TwoCodes.{four_check}
use Rattle.field.specs.Polynomials.{word_product}
use Rattle.codes.proofs.Patching.{patch-whole}
use Rattle.codes.specs.BothSolve.{four_solves}
use Rattle.codes.proofs.FilledCodes.{filled_code}
use Rattle.codes.proofs.four_check.FourCheckCheckCode.fill.Goals as goal

pub filled_in-requires : goal.filled_in-requires
filled_in-requires c =
    let fits : (k : ℕ) → k < 20 → get_or c.blanked-blank.result k 0 < 65536 = λ k h. search rules in
    record {
      few = lit≤ tt;
      fits = fits;
      zeros = c.blanked-blank.ensures.absent;
      sums = c.four_sums.ensures;
    }

pub returns : goal.returns
returns c =
    let long : length c.filled_in.result ≡ 20 = search rules in
    filled_code four_check c.args.column c.blanked-blank.result c.filled_in.result c.args.marks
    four_solves long
    c.blanked-blank.ensures c.filled_in.ensures

pub returns-then-count_missing-eq0 : goal.returns-then-count_missing-eq0
returns-then-count_missing-eq0 c =
    let long : length c.blanked-blank.result ≡ 20 = search rules in
    filled_code four_check c.args.column c.blanked-blank.result c.blanked-blank.result c.args.marks
    four_solves long
    c.blanked-blank.ensures
    (patch-whole 16 word_product 20 4 c.blanked-blank.result c.args.marks (sym c.count_missing.ensures
    ∙ c.if-count_missing-eq0.true))

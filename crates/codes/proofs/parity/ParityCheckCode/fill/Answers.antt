-- The sum of seventeen words fills the one that is missing. Assumes nothing.
use Rattle.std.proofs.Common.{◌≡◌, ℕ, zero, suc, ◌<◌, List, [], ◌∷◌, length, get_or, take, sym, ap, ◌∙◌, arith, lit≤, rules}
use Rattle.field.specs.Polynomials.{word_product}
use Rattle.std.proofs.lemmas.List.{length-take-le, get_or-take}
use Rattle.field.specs.Sums.{total, weighted}
use Rattle.field.proofs.Totals.{total_ext}
use Rattle.codes.specs.TwoCodes.{parity}
use Rattle.codes.specs.BothSolve.{parity_solves, plain-sum}
use Rattle.codes.proofs.FilledCodes.{filled_code}
use Rattle.codes.proofs.Patching.{patch-whole}
use Rattle.codes.proofs.parity.ParityCheckCode.fill.Goals as goal

first-sum : (x : ℕ) (blank : List ℕ) → x ≡ weighted word_product 2 17 0 (λ i. get_or blank i 0)
    → (j : ℕ) → j < 1 → get_or (x ∷ 0 ∷ 0 ∷ 0 ∷ []) j 0 ≡ weighted word_product 2 17 j (λ i. get_or blank i 0)
first-sum x blank e zero h = e
first-sum x blank e (suc j) h = absurd (omega arith)

pub filled_in-requires : goal.filled_in-requires
filled_in-requires c =
    let blank = c.blanked-blank.result in
    let fits : (k : ℕ) → k < 17 → get_or blank k 0 < 65536 = λ k h. search rules in
    let long : length blank ≡ 20 = search rules in
    let front : length (take 17 blank) ≡ 17 = length-take-le 17 blank (omega (arith, long)) in
    let sum : c.xor.result ≡ total (λ i. get_or blank i 0) 17 =
    c.xor.ensures ∙ ap (total (λ i. get_or (take 17 blank) i 0)) front
    ∙ total_ext _ _ 17 (λ i h. get_or-take 17 blank i 0 h) in
    record {
      few = lit≤ tt;
      fits = fits;
      zeros = c.blanked-blank.ensures.absent;
      sums = first-sum c.xor.result blank (sum ∙ sym (plain-sum 17 (λ i. get_or blank i 0) fits));
    }

pub returns : goal.returns
returns c =
    let long : length c.filled_in.result ≡ 20 = search rules in
    filled_code parity c.args.column c.blanked-blank.result c.filled_in.result c.args.marks
    parity_solves long
    c.blanked-blank.ensures c.filled_in.ensures

pub returns-then-count_missing-eq0 : goal.returns-then-count_missing-eq0
returns-then-count_missing-eq0 c =
    let long : length c.blanked-blank.result ≡ 20 = search rules in
    filled_code parity c.args.column c.blanked-blank.result c.blanked-blank.result c.args.marks
    parity_solves long
    c.blanked-blank.ensures
    (patch-whole 16 word_product 17 1 c.blanked-blank.result c.args.marks (sym c.count_missing.ensures
    ∙ c.if-count_missing-eq0.true))

-- One column more has its check words. Assumes nothing.
use Rattle.std.proofs.Common.{◌≡◌, ◌+◌, ◌≤◌, length, take, ap, ◌∙◌, arith, rules}
use Rattle.std.proofs.lemmas.List.{get_or-take, length-take-le}
use Rattle.codes.specs.Code.{check_four}
use Rattle.columns.specs.Columns.{is_check}
use Rattle.columns.proofs.Checking.{checks_more}
use Rattle.columns.proofs.make.check_all.Goals as goal

pub loop-c-preserved : goal.loop-c-preserved
loop-c-preserved g c =
    let code = g.K.CheckCode.code c.args.code.now in
    let r = c.r-r.result in
    let checks = c.check_words-checks.result in
    let four : length checks ≡ 4 = search rules in
    let few : code.r ≤ 4 = (g.met.K.CheckCode.lawful c.args.code.now).at_most_four in
    let long : length (take r checks) ≡ r = length-take-le r checks (omega (arith, four, few, c.r-r.ensures)) in
    checks_more code r c.r-r.ensures c.args.work.now c.loop-c.work c.put_words.new.work checks c.loop-c.c (search rules)
    (c.check_words-checks.ensures ∙ ap (check_four code) c.words_at.ensures) c.loop-c.invariant.0 c.loop-c.invariant.1
    (λ j h. c.put_words.ensures.here j (omega (arith, long, h)) ∙ get_or-take r checks j 0 h)
    (λ j k h ne. c.put_words.ensures.elsewhere (16 + j) k h ne) (λ q h. c.put_words.ensures.others q (ap (λ n. is_check n q) long ∙ h))

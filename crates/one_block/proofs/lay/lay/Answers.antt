-- A record more is laid, or does not fit; behind the last comes Filler. Assumes nothing.
use Rattle.std.proofs.Common.{◌≡◌, true, false, None, Some, sym, ap, ◌∙◌, arith}
use Rattle.std.proofs.lemmas.Grind.{common_steps}
use Rattle.std.specs.Result.{result_ok}
use Rattle.one_block.specs.Laying.{Laid, laid, fits, block_of}
use Rattle.one_block.proofs.MoreRecords.{goes_on, stops, no_more}
use Rattle.one_block.proofs.lay.lay.Goals as goal

pub returns-in_err-add : goal.returns-in_err-add
returns-in_err-add c =
    let w : fits (laid c.loop-record.laying) c.deref.result.now ≡ false = grind (arith, common_steps) in
    let r : result_ok c.from_residual.result ≡ None = grind (arith, common_steps) in
    r ∙ ap block_of (sym (stops (λ v. v.items) (laid c.loop-record.laying) c.args.records.now c.loop-record.record-index
    c.record-item.result c.deref.result.now c.loop-record-test.true c.record-item.is c.deref.ensures.value w) ∙ c.loop-record.invariant)

pub loop-record-preserved : goal.loop-record-preserved
loop-record-preserved c =
    let w : fits (laid c.loop-record.laying) c.deref.result.now ≡ true = grind (arith, common_steps) in
    sym (goes_on (λ v. v.items) (laid c.loop-record.laying) c.args.records.now c.loop-record.record-index
    c.record-item.result c.deref.result.now (laid c.add.new.self) c.loop-record-test.true c.record-item.is c.deref.ensures.value w c.in_ok-add.ensures.page)
    ∙ c.loop-record.invariant

pub returns : goal.returns
returns c =
    ap (λ (s : Laid). Some s.block) c.fill.ensures
    ∙ ap block_of (sym (no_more (λ v. v.items) (laid c.loop-record.laying) c.args.records.now c.loop-record.record-index
    c.loop-record-test.false) ∙ c.loop-record.invariant)

-- Judging the entries in turn refuses by the first that is not good. Assumes nothing.
use Rattle.std.proofs.Common.{length, sym, ◌∙◌, arith}
use Rattle.std.proofs.lemmas.Bool.{cond-true}
use Rattle.skip.specs.BadPlaces.{good_entry}
use Rattle.skip.proofs.ListLaws.{judged-step, least_more, good_from_least}
use Rattle.skip.proofs.list.judge_entries.Goals as goal

pub loop-index-preserved : goal.loop-index-preserved
loop-index-preserved c =
    let bad = c.args.list.now in
    let i = c.loop-index.index in
    let e = c.loop-index.invariant.1 in
    let good = good_from_least c.args.places bad i (omega arith) (omega arith) in (
      sym (cond-true (good_entry c.args.places bad i) _ _ good)
          ∙ sym (judged-step c.args.places bad i (length bad) (omega arith)) ∙ c.loop-index.invariant.0,
      sym (least_more bad i),
    )

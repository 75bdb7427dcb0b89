-- What a strike of a skip card leaves at its places and below. Assumes nothing.
use Rattle.std.proofs.Common.{refl, ap, ◌∙◌, rules}
use Rattle.skip.specs.Skipped.{skipped}
use Rattle.skip.proofs.SkipLaws.{length-skipped, skipped-strike}
use Rattle.skip.proofs.FoundLaws.{Found, found-strike, found-strike_below}
use Rattle.skip.proofs.SkipCardCard.strike.Goals as goal

pub returns-in_err-judge_place : goal.returns-in_err-judge_place
returns-in_err-judge_place g c =
    let n = length-skipped c.args.self.now.bad (g.C.Card.contents c.args.self.now.card) in
    record { answer = search rules; card = search rules; under = search rules; list = refl }

pub returns : goal.returns
returns g c =
    let bad = c.args.self.now.bad in
    let cs = g.C.Card.contents c.args.self.now.card in
    let f : Found bad cs c.args.place c.below-at.result = record { is = search rules; left = search rules } in
    let u = c.strike.ensures.card ∙ found-strike_below bad cs c.args.place c.below-at.result f in
    record {
      answer = c.strike.ensures.answer ∙ found-strike bad cs c.args.place c.below-at.result f;
      card = ap (skipped bad) u ∙ skipped-strike bad cs c.args.place;
      under = u;
      list = refl;
    }

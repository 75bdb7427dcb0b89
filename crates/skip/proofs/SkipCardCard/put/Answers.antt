-- What a put of a skip card leaves at its places and below. Assumes nothing.
use Rattle.std.proofs.Common.{◌≡◌, length, refl, ap, ◌∙◌, rules}
use Rattle.skip.specs.Skipped.{skipped}
use Rattle.skip.proofs.SkipLaws.{length-skipped, skipped-put}
use Rattle.skip.proofs.FoundLaws.{Found, found-put, found-put_below}
use Rattle.skip.proofs.SkipCardCard.put.Goals as goal

pub returns-in_err-judge_call : goal.returns-in_err-judge_call
returns-in_err-judge_call g c =
    let n = length-skipped c.args.self.now.bad (g.C.Card.contents c.args.self.now.card) in
    record { answer = search rules; card = search rules; under = search rules; list = refl }

pub returns : goal.returns
returns g c =
    let bad = c.args.self.now.bad in
    let cs = g.C.Card.contents c.args.self.now.card in
    let f : Found bad cs c.args.place c.below-at.result = record { is = search rules; left = search rules } in
    let e : length c.args.block.now ≡ 8256 = search rules in
    let u = c.put.ensures.card ∙ found-put_below bad cs c.args.place c.below-at.result f c.args.block.now e in
    record {
      answer = c.put.ensures.answer ∙ found-put bad cs c.args.place c.below-at.result f (length c.args.block.now) e;
      card = ap (skipped bad) u ∙ skipped-put bad cs c.args.place c.args.block.now;
      under = u;
      list = refl;
    }

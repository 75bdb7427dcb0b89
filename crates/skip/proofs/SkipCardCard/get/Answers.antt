-- What a get of a skip card answers and copies, from the get below. Assumes nothing.
use Rattle.std.proofs.Common.{◌≡◌, length, ◌∙◌, rules}
use Rattle.skip.proofs.SkipLaws.{length-skipped}
use Rattle.skip.proofs.FoundLaws.{Found, found_get, found_buffer}
use Rattle.skip.proofs.SkipCardCard.get.Goals as goal

pub returns-in_err-judge_call : goal.returns-in_err-judge_call
returns-in_err-judge_call g c =
    let n = length-skipped c.args.self.now.bad (g.C.Card.contents c.args.self.now.card) in
    record { answer = search rules; buffer = search rules }

pub returns : goal.returns
returns g c =
    let bad = c.args.self.now.bad in
    let cs = g.C.Card.contents c.args.self.now.card in
    let f : Found bad cs c.args.place c.below-at.result = record { is = search rules; left = search rules } in
    let e : length c.args.buf.now ≡ 8256 = search rules in
    record {
      answer = c.get.ensures.answer ∙ found_get bad cs c.args.place c.below-at.result f (length c.args.buf.now) e;
      buffer = c.get.ensures.buffer ∙ found_buffer bad cs c.args.place c.below-at.result f c.args.buf.now e;
    }

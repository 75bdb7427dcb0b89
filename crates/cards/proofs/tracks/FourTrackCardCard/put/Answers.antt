-- What a put of a four-track card answers, and what it leaves in its memories and at its places. Assumes nothing.
use Rattle.std.proofs.Common.{◌≡◌, length, refl, ap, ◌∙◌, rules}
use Rattle.cards.specs.Memories.{memories}
use Rattle.cards.specs.Tracks.{dealt, put_memories}
use Rattle.cards.proofs.TrackLaws.{length-dealt, dealt-put, judged_on_track}
use Rattle.cards.proofs.tracks.FourTrackCardCard.put.Goals as goal

pub returns-in_err-judge_call-clause-memories : goal.returns-in_err-judge_call-clause-memories
returns-in_err-judge_call-clause-memories c = let n = length-dealt (memories c.args.self.now) in search rules

pub returns : goal.returns
returns c =
    let ms = memories c.args.self.now in
    let n = length-dealt ms in
    let j = judged_on_track ms c.args.place (length c.args.block.now) (search rules) in
    let m : memories c.change.new.self ≡ put_memories ms c.args.place c.args.block.now = search rules in
    record {
      answer = search rules;
      card = ap dealt m ∙ dealt-put ms refl c.args.place c.args.block.now;
      memories = m;
      held = search rules;
    }

-- What a strike of a four-track card answers, and what it leaves in its memories and at its places. Assumes nothing.
use Rattle.std.proofs.Common.{◌≡◌, refl, ap, ◌∙◌, rules}
use Rattle.cards.specs.Memories.{memories}
use Rattle.cards.specs.Tracks.{dealt, strike_memories}
use Rattle.cards.proofs.TrackLaws.{length-dealt, dealt-strike, judged_place_on_track}
use Rattle.cards.proofs.tracks.FourTrackCardCard.strike.Goals as goal

pub returns-in_err-judge_place-clause-memories : goal.returns-in_err-judge_place-clause-memories
returns-in_err-judge_place-clause-memories c = let n = length-dealt (memories c.args.self.now) in search rules

pub returns : goal.returns
returns c =
    let ms = memories c.args.self.now in
    let n = length-dealt ms in
    let j = judged_place_on_track ms c.args.place (search rules) in
    let m : memories c.change.new.self ≡ strike_memories ms c.args.place = search rules in
    record {
      answer = search rules;
      card = ap dealt m ∙ dealt-strike ms refl c.args.place;
      memories = m;
      held = search rules;
    }

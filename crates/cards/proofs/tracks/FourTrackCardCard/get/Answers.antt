-- What a get of a four-track card answers and copies, refused and granted. Assumes nothing.
use Rattle.std.proofs.Common.{length, rules}
use Rattle.cards.specs.Memories.{memories}
use Rattle.cards.proofs.TrackLaws.{judged_on_track, content_on_track}
use Rattle.cards.proofs.tracks.FourTrackCardCard.get.Goals as goal

pub returns : goal.returns
returns c =
    let j = judged_on_track (memories c.args.self.now) c.args.place (length c.args.buf.now) (search rules) in
    let x = content_on_track (memories c.args.self.now) c.args.place (search rules) in
    record { answer = search rules; buffer = search rules }

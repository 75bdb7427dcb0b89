-- The places of a four-track card are four times the rows of its shortest memory. Assumes nothing.
use Rattle.std.proofs.Common.{◌*◌, sym, ap, ◌∙◌}
use Rattle.cards.specs.Memories.{memories}
use Rattle.cards.proofs.TrackLaws.{length-dealt}
use Rattle.cards.proofs.tracks.FourTrackCardCard.places.Goals as goal

pub returns : goal.returns
returns c = ap (λ z. 4 * z) c.rows.ensures.least ∙ sym (length-dealt (memories c.args.self.now))

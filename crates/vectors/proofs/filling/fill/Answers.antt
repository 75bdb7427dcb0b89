-- A turn writes one place and leaves those below it. Assumes nothing.
use Rattle.std.proofs.Common.{◌<◌, ◌≢◌, length, arith, get_or-set_other, get_or-set_same, below_more}
use Rattle.vectors.proofs.filling.fill.Goals as goal

pub loop-place-preserved : goal.loop-place-preserved
loop-place-preserved c =
    below_more _ _
    (λ k h. let other : k ≢ c.loop-place.place = omega arith in rw get_or-set_other (c.loop-place.invariant k h))
    (let inside : c.loop-place.place < length c.loop-place.bytes = omega arith in
    rw get_or-set_same c.byte_at.ensures)

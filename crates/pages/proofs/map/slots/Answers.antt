-- The places are the eights of the field. Assumes nothing.
use Rattle.std.proofs.Common.{ℕ, ◌/◌, List, [], length, get_or, ap, ◌∙◌, arith}
use Rattle.pages.proofs.Slots.{slot_at}
use Rattle.pages.proofs.map.slots.Goals as goal

pub returns-clause-each : goal.returns-clause-each
returns-clause-each c k h =
    ap (λ (xs : List (List ℕ)). get_or xs k []) c.as_chunks.ensures.front
    ∙ slot_at (length c.args.field.now / 8) k c.args.field.now (omega (arith, c.told-field))

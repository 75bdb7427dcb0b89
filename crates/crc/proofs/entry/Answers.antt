-- Every entry of the tables is tested against the definition by antt's own computing. Assumes nothing.
use Rattle.std.proofs.Common.{◌≡◌, ℕ, ◌+◌, ◌*◌, ◌/◌, ◌%◌, ◌<◌, Bool, eqb, ◌∷◌, get_or, replicate, ◌∙◌, ap₂, arith, eqb→eq}
use Rattle.crc.specs.Crc.{crc, crc_byte, crc_more}
use Rattle.crc.proofs.Entries.{entries}
use Rattle.crc.proofs.Table.{at}
use Rattle.crc.proofs.entry.Goals as goal

right : ℕ → ℕ → Bool
right i x = eqb x (crc (i % 256 ∷ replicate (i / 256) 0))

pub returns : goal.returns
unfolding entries right crc_more crc_byte
returns c =
    let i : ℕ = 256 * c.args.zeros + c.args.byte in
    let inside : i < 2048 = omega (arith, c.ranges.byte) in
    let byte : i % 256 ≡ c.args.byte = omega (arith, c.ranges.byte) in
    let zeros : i / 256 ≡ c.args.zeros = omega (arith, c.ranges.byte) in
    eqb→eq (get_or entries i 0) (crc (i % 256 ∷ replicate (i / 256) 0)) (at right entries tt i inside)
    ∙ ap₂ (λ b z. crc (b ∷ replicate z 0)) byte zeros

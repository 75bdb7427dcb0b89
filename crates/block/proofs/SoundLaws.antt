-- Soundness by its parts. Assumes nothing.
use Rattle.std.proofs.Common.{◌≡◌, ℕ, Bool, false, ◌&&◌, List, ap, ◌∙◌}
use Rattle.block.specs.Block.{control1_at, crc_agrees, edc_agrees, sound_kind, sound}

pub sound_by : (b : List ℕ) (crc kind : Bool) → crc ≡ crc_agrees b → kind ≡ sound_kind (control1_at b).kind (edc_agrees b)
    → crc && kind ≡ sound b
unfolding sound
sound_by b crc kind ec ek = ap (λ (x : Bool). x && kind) ec ∙ ap (λ (x : Bool). crc_agrees b && x) ek

pub unsound_by : (b : List ℕ) → crc_agrees b ≡ false → sound b ≡ false
unfolding sound
unsound_by b e = ap (λ (x : Bool). x && sound_kind (control1_at b).kind (edc_agrees b)) e

-- A turn takes in the next chunk of eight. Assumes nothing.
use Rattle.std.proofs.Common.{◌≡◌, ℕ, ◌+◌, ◌/◌, List, [], ◌++◌, length, drop, get_or, sym, ap, ap₂, ◌∙◌, arith}
use Rattle.std.proofs.lemmas.List.{append_assoc, at_drop_more}
use Rattle.bits.proofs.Chunks.{joined, joined_is}
use Rattle.crc.specs.Crc.{crc_more}
use Rattle.crc.proofs.Linear.{more-append}
use Rattle.crc.proofs.crc64_more.Goals as goal

pub loop-eight-init : goal.loop-eight-init
loop-eight-init c =
    ap (crc_more c.args.start)
    (ap₂ (λ (cs : List (List ℕ)) (r : List ℕ). joined cs ++ r) c.as_chunks.ensures.front c.as_chunks.ensures.back
    ∙ joined_is 8 (length c.args.bytes.now / 8) c.args.bytes.now)

pub loop-eight-preserved : goal.loop-eight-preserved
loop-eight-preserved c =
    let es = c.as_chunks.result.0.now in
    let rest = c.as_chunks.result.1.now in
    let eight : List ℕ = get_or es c.loop-eight.eight-index [] in
    let behind : List ℕ = joined (drop (c.loop-eight.eight-index + 1) es) in
    ap (λ r. crc_more r (behind ++ rest)) c.after_eight-register.ensures
    ∙ sym (more-append c.loop-eight.register eight (behind ++ rest))
    ∙ ap (crc_more c.loop-eight.register) (sym (append_assoc eight behind rest))
    ∙ sym (at_drop_more (λ (cs : List (List ℕ)). crc_more c.loop-eight.register (joined cs ++ rest)) es c.loop-eight.eight-index []
    c.loop-eight-test.true)
    ∙ c.loop-eight.invariant

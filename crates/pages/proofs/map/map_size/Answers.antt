-- Each entry ends the search or leaves fewer. Assumes nothing.
use Rattle.std.proofs.Common.{ℕ, ◌+◌, Some, length, reverse, refl, ap, ◌∙◌, rules, arith}
use Rattle.std.proofs.lemmas.List.{length_push, length-reverse}
use Rattle.std.proofs.lemmas.List.FromFn.{length-enumerate_from}
use Rattle.std.proofs.lemmas.Iterator.Adapters.{YieldsList-from_rev_slice}
use Rattle.std.proofs.lemmas.Iterator.Consumers.{YieldsList-from_enumerate, YieldsList-turn, YieldsList-end}
use Rattle.pages.specs.Map.{map_size}
use Rattle.pages.proofs.MapSteps.{map_spent}
use Rattle.pages.proofs.Slots.{slot_turn}
use Rattle.pages.proofs.map.map_size.Goals as goal

pub loop-i-init : goal.loop-i-init
unfolding map_size
loop-i-init c = (search rules, search rules, refl)

pub returns-in_err-judge_entry : goal.returns-in_err-judge_entry
returns-in_err-judge_entry c =
    let t = YieldsList-turn (YieldsList-from_enumerate (YieldsList-from_rev_slice c.slots.result.now cc) (cc)) c.loop-i.yielded _
    c.loop-i.yielded_by _ _ (c.in-Some.i, c.in-Some.bytes) c.in-Some.is c.next.ensures.steps in
    let e = slot_turn c.slots.result.now c.args.field.now (record { count = c.slots.ensures.count; each = c.slots.ensures.each })
    (length c.loop-i.yielded) c.loop-i.free c.in-Some.i c.in-Some.bytes.now c.judge_entry.result t
    (rw c.read.ensures at c.judge_entry.ensures) c.loop-i.invariant.2 in
    c.from_residual.ensures ∙ (rw c.in_err-judge_entry.was at e.1)

pub returns-in-Last : goal.returns-in-Last
returns-in-Last c =
    let t = YieldsList-turn (YieldsList-from_enumerate (YieldsList-from_rev_slice c.slots.result.now cc) (cc)) c.loop-i.yielded _
    c.loop-i.yielded_by _ _ (c.in-Some.i, c.in-Some.bytes) c.in-Some.is c.next.ensures.steps in
    let e = slot_turn c.slots.result.now c.args.field.now (record { count = c.slots.ensures.count; each = c.slots.ensures.each })
    (length c.loop-i.yielded) c.loop-i.free c.in-Some.i c.in-Some.bytes.now c.judge_entry.result t
    (rw c.read.ensures at c.judge_entry.ensures) c.loop-i.invariant.2 in
    ap (λ (k : ℕ). Some (k + 1)) e.0 ∙ (rw (c.in_ok-judge_entry.was, c.in-Last.is) at e.1)

pub loop-i-preserved : goal.loop-i-preserved
loop-i-preserved c =
    let t = YieldsList-turn (YieldsList-from_enumerate (YieldsList-from_rev_slice c.slots.result.now cc) (cc)) c.loop-i.yielded _
    c.loop-i.yielded_by _ _ (c.in-Some.i, c.in-Some.bytes) c.in-Some.is c.next.ensures.steps in
    let e = slot_turn c.slots.result.now c.args.field.now (record { count = c.slots.ensures.count; each = c.slots.ensures.each })
    (length c.loop-i.yielded) c.loop-i.free c.in-Some.i c.in-Some.bytes.now c.judge_entry.result t
    (rw c.read.ensures at c.judge_entry.ensures) c.loop-i.invariant.2 in (
      search rules,
      search rules,
      rw length_push (rw (c.in_ok-judge_entry.was, c.in-Next.is) at e.1),
    )

pub returns : goal.returns
returns c =
    let t = YieldsList-end (YieldsList-from_enumerate (YieldsList-from_rev_slice c.slots.result.now cc) (cc)) c.loop-i.yielded _
    c.loop-i.yielded_by _ _ c.in-None.is c.next.ensures.steps in
    map_spent c.args.field.now c.loop-i.free (length c.loop-i.yielded)
    (omega (arith, t.1, length-enumerate_from 0 (reverse c.slots.result.now), length-reverse c.slots.result.now, c.slots.ensures.count))
    c.loop-i.invariant.2

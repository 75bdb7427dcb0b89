-- Getting the places in turn fills the work area with their bytes. Assumes nothing.
use Rattle.std.proofs.Common.{◌+◌, ◌-◌, ◌*◌, arith}
use Rattle.runs.proofs.GetLaws.{run_bytes-start, run_bytes-turn}
use Rattle.runs.proofs.getting.get_run.Goals as goal

pub loop-i-init : goal.loop-i-init
loop-i-init g c = run_bytes-start (g.C.Card.contents c.args.card.now) c.args.start c.args.work.now

pub loop-i-preserved : goal.loop-i-preserved
loop-i-preserved g c =
    run_bytes-turn (g.C.Card.contents c.args.card.now) (g.C.Card.whole c.args.card.now)
    c.args.start c.args.work.now
    c.loop-i.work c.fetch.new.part c.loop-i.i ((c.loop-i.i * 8256 + 8256) - c.loop-i.i * 8256)
    (omega arith) c.loop-i.invariant c.fetch.ensures

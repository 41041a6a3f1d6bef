use Rattle.handler_desk.proofs.Seating.{loses_none, loses_more}
use Rattle.handler_desk.proofs.state.State.give_up.Goals as goal

pub loop-init : goal.loop-init
loop-init g = loses_none _

pub loop-preserved : goal.loop-preserved
loop-preserved g = loses_more _ _ _ _ g.loop.invariant g.remove.ensures.updates.0

use Rattle.handler_desk.proofs.Seating.{loses_none, loses_more}
use Rattle.handler_desk.proofs.state.State.make_room.Goals as goal

pub loop-init : goal.loop-init
loop-init g = loses_none _

pub loop-preserved : goal.loop-preserved
loop-preserved g = loses_more _ _ _ g.in-Some.id g.loop.invariant g.withdraw.ensures.seats

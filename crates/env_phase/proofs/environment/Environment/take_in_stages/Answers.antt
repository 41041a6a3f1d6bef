use Rattle.std.proofs.Common.{sym, length, ◌≤◌, arith}
use Rattle.environment_step.specs.After.{first_stand}
use Rattle.env_phase.specs.Taking.{step_of}
use Rattle.env_phase.proofs.Room.{first_room}
use Rattle.env_phase.proofs.environment.Environment.take_in_stages.Goals as goal

pub finish-requires-clause-few : goal.finish-requires-clause-few
unfolding first_stand
finish-requires-clause-few c = rw c.first.ensures.stand (omega arith)

pub finish-requires-clause-room : goal.finish-requires-clause-room
finish-requires-clause-room c =
    let few : length c.args.self.now.stand.members ≤ 10 = rw (sym c.self.view_is) (c.self.invariant.1) in
    rw (c.first.ensures.stand, c.first.ensures.given) (first_room c.args.self.now.fixed (step_of c.args.step) c.args.self.now.stand c.args.call.now few)

use Rattle.std.proofs.Common.{arith}
use Rattle.env_phase.specs.Taking.{step_of}
use Rattle.env_phase.proofs.Room.{moves_few, events_more, registrations_more}
use Rattle.env_phase.proofs.environment.Environment.take.Goals as goal

pub returns-clause-answers : goal.returns-clause-answers
returns-clause-answers c = rw c.take_in_stages.ensures.given (moves_few c.args.self.now.fixed (step_of c.args.step) c.args.self.now.stand c.args.call.now)

pub returns-clause-events : goal.returns-clause-events
returns-clause-events c =
    rw c.take_in_stages.ensures.stand
    (omega (arith, c.take_in_stages.ensures.ten_before, events_more c.args.self.now.fixed (step_of c.args.step) c.args.self.now.stand c.args.call.now))

pub returns-clause-registrations : goal.returns-clause-registrations
returns-clause-registrations c =
    rw c.take_in_stages.ensures.stand (registrations_more c.args.self.now.fixed (step_of c.args.step) c.args.self.now.stand c.args.call.now)

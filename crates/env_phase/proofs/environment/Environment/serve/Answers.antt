use Rattle.std.proofs.Common.{sym}
use Rattle.environment_step.proofs.SecondMoves.{none_all}
use Rattle.env_phase.proofs.environment.Environment.serve.Goals as goal

pub returns-in-None-clause-given : goal.returns-in-None-clause-given
returns-in-None-clause-given c = rw c.in-None.is (sym (none_all c.args.self.now.stand c.args.moves.now))

use Rattle.std.proofs.Common.{arith}
use Rattle.env_phase.proofs.phases.settle.Goals as goal

pub returns-in-Busy : goal.returns-in-Busy
returns-in-Busy c = grind arith

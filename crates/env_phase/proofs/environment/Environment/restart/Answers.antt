use Rattle.std.proofs.Common.{arith}
use Rattle.env_phase.proofs.environment.Environment.restart.Goals as goal

pub returns-then-is_none : goal.returns-then-is_none
returns-then-is_none c = rw (← c.self.view_is) (grind arith)

pub returns-else-is_none : goal.returns-else-is_none
returns-else-is_none c = rw (← c.self.view_is) (grind arith)

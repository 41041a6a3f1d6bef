use Rattle.std.proofs.Common.{arith}
use Rattle.extension_set.proofs.member.Member.offer.Goals as goal

pub returns-then-self-clause-told : goal.returns-then-self-clause-told
returns-then-self-clause-told c = rw (← c.self.view_is) (grind arith)

pub returns-then-self-clause-given : goal.returns-then-self-clause-given
returns-then-self-clause-given c = rw (← c.self.view_is) (grind arith)

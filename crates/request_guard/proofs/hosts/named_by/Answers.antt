use Rattle.std.proofs.Common.{refl}
use Rattle.request_guard.proofs.hosts.named_by.Goals as goal

pub returns-in-Some : goal.returns-in-Some
returns-in-Some c = rw (← c.if-is_literal.ensures) (rw (← c.name_in.ensures.there, c.in-Some.is, c.in-Some.ensures.value) (refl, λ listed. refl))

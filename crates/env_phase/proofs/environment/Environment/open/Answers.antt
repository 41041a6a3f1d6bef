use Rattle.std.proofs.Common.{refl}
use Rattle.env_phase.proofs.environment.Environment.open.Goals as goal

pub returns : goal.returns
returns c = rw (c.in_ok-copied.ensures, c.as_slice.ensures, c.in_ok-open.ensures, c.from.ensures) refl

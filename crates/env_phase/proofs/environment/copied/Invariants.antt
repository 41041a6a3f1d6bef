use Rattle.std.proofs.Common.{◌≡◌, take}
use Rattle.env_phase.proofs.environment.copied.Given as goal

abbrev pub invariant-loop-name : goal.invariant-loop-name
invariant-loop-name l = l.row.items ≡ take l.name-index l.names

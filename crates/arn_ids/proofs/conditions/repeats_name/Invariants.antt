use Rattle.std.proofs.Common.{◌≡◌, bytes_eq, drop}
use Rattle.arn_ids.specs.Faults.{repeats}
use Rattle.arn_ids.proofs.conditions.repeats_name.Given as goal

abbrev pub invariant-loop-i : goal.invariant-loop-i
invariant-loop-i l = repeats bytes_eq l.names ≡ repeats bytes_eq (drop l.i l.names)

use Rattle.std.proofs.Common.{◌≡◌, nat_eq, drop}
use Rattle.arn_ids.specs.Faults.{repeats, environment_ports}
use Rattle.arn_ids.proofs.conditions.has_duplicate_port.Given as goal

abbrev pub invariant-loop-i : goal.invariant-loop-i
invariant-loop-i l = repeats nat_eq (environment_ports l.functions) ≡ repeats nat_eq (environment_ports (drop l.i l.functions))

use Rattle.std.proofs.Common.{◌≡◌, ◌++◌, nat_eq, map, drop}
use Rattle.arn_ids.specs.Faults.{repeats, port_of, environment_ports}
use Rattle.arn_ids.proofs.conditions.has_port_again.Given as goal

abbrev pub invariant-loop-i : goal.invariant-loop-i
invariant-loop-i l =
    repeats nat_eq (map port_of l.slots ++ environment_ports l.later) ≡ repeats nat_eq (map port_of (drop l.i l.slots) ++ environment_ports l.later)

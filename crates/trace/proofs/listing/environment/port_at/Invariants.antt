use Rattle.std.proofs.Common.{◌≡◌, ◌-◌, drop}
use Rattle.arn_ids.specs.Environments.{at}
use Rattle.arn_ids.specs.Faults.{environment_ports}
use Rattle.trace.proofs.listing.environment.port_at.Given as goal

abbrev pub invariant-loop-function : goal.invariant-loop-function
invariant-loop-function l =
    at 0 (environment_ports l.config.functions) (l.env - 1) ≡ at 0 (environment_ports (drop l.function-index l.config.functions)) l.place

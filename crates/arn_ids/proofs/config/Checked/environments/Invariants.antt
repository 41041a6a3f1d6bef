use Rattle.std.proofs.Common.{◌≡◌, ◌+◌, length, drop}
use Rattle.arn_ids.specs.Environments.{owners, owners_from}
use Rattle.arn_ids.proofs.config.Checked.environments.Given as goal

abbrev pub invariant-loop-function : goal.invariant-loop-function
invariant-loop-function l =
    l.count + length (owners_from (1 + l.function-index) (drop l.function-index l.self.functions)) ≡ length (owners l.self)

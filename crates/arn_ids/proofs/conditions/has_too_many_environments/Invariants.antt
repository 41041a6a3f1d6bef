use Rattle.std.proofs.Common.{◌≡◌, ◌+◌, length, drop}
use Rattle.arn_ids.specs.Environments.{owners, owners_from}
use Rattle.arn_ids.proofs.conditions.has_too_many_environments.Given as goal

abbrev pub invariant-loop-function : goal.invariant-loop-function
invariant-loop-function l = record {
  left_of : l.left + length (owners l.config) ≡ 256 + length (owners_from (1 + l.function-index) (drop l.function-index l.config.functions));
}

use Rattle.std.proofs.Common.{◌≡◌, ◌+◌, drop, sum_by}
use Rattle.arn_ids.specs.Faults.{reservation_of}
use Rattle.arn_ids.proofs.conditions.has_too_small_remainder.Given as goal

abbrev pub invariant-loop-function : goal.invariant-loop-function
invariant-loop-function l =
    (l.left + (l.config.least_remainder + sum_by reservation_of l.config.functions)) ≡ (l.config.account_limit + sum_by reservation_of (drop l.function-index l.config.functions))

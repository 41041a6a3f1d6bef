use Rattle.std.proofs.Common.{◌≡◌, drop}
use Rattle.arn_ids.specs.Faults.{repeats, is_namesake}
use Rattle.arn_ids.proofs.conditions.has_duplicate_name.Given as goal

abbrev pub invariant-loop-i : goal.invariant-loop-i
invariant-loop-i l = repeats is_namesake l.functions ≡ repeats is_namesake (drop l.i l.functions)

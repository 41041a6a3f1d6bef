use Rattle.std.proofs.Common.{◌≢◌, ℕ, ◌<◌, Some}
use Rattle.arn_ids.specs.Faults.{first_fault}
use Rattle.arn_ids.specs.Places.{with_first}
use Rattle.arn_ids.proofs.search.comes_in_with.Given as goal

abbrev pub invariant-loop-count : goal.invariant-loop-count
invariant-loop-count l = (m : ℕ) → m < l.count → first_fault (with_first m l.config) ≢ Some l.fault

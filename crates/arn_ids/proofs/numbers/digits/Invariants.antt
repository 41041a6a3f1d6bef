use Rattle.std.proofs.Common.{◌≡◌, ◌≤◌, length}
use Rattle.arn_ids.specs.Numbers.{digits_in}
use Rattle.arn_ids.proofs.numbers.digits.Given as goal

abbrev pub invariant-loop-first : goal.invariant-loop-first
invariant-loop-first l = record {
  small : l.number ≤ l.fn.most;
  goes_on : digits_in l.fn.most l.number l.rest ≡ digits_in l.fn.most 0 l.fn.text;
}

abbrev pub decreases-loop-first : goal.decreases-loop-first
decreases-loop-first l = length l.rest

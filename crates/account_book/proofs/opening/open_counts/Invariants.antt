use Rattle.std.proofs.Common.{◌≡◌, [], map}
use Rattle.arn_ids.specs.Environments.{count_from}
use Rattle.call_model.specs.History.{requests}
use Rattle.account_book.proofs.opening.open_counts.Given as goal

abbrev pub invariant-loop-function : goal.invariant-loop-function
invariant-loop-function l = l.counts.items ≡ map (requests []) (count_from 1 l._function-index)

use Rattle.std.proofs.Common.{◌≡◌, ◌+◌, ◌≤◌, take, count_by}
use Rattle.call_model.specs.Counts.{is_throttle, is_failure}
use Rattle.account_book.proofs.totals.Counters.count.Given as goal

abbrev pub invariant-loop-ticket : goal.invariant-loop-ticket
invariant-loop-ticket l =
    (l.self.admitted ≡ l.initial.self.admitted)
    × (l.self.throttled ≡ l.initial.self.throttled + count_by (λ a. is_throttle a.1) (take l._ticket-index l.answers))
    × (l.self.failed ≡ l.initial.self.failed + count_by (λ a. is_failure a.1) (take l._ticket-index l.answers))
    × (l.self.throttled ≤ l.initial.self.throttled + l._ticket-index)
    × (l.self.failed ≤ l.initial.self.failed + l._ticket-index)

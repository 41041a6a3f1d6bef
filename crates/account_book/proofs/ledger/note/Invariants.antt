use Rattle.std.proofs.Common.{◌≡◌, ◌≤◌, drop, length}
use Rattle.account_book.specs.Indexes.{noted}
use Rattle.account_book.proofs.ledger.note.Given as goal

abbrev pub invariant-loop-index : goal.invariant-loop-index
invariant-loop-index l = (l.given ≡ (noted (drop l.index l.answers) l.initial.given.0, l.initial.given.1)) × (l.index ≤ length l.answers)

abbrev pub decreases-loop-index : goal.decreases-loop-index
decreases-loop-index l = l.index

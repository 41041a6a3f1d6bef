use Rattle.std.proofs.Common.{◌≡◌, length, All, []}
use Rattle.account_book.proofs.book.make_rooms.Given as goal

abbrev pub invariant-loop-entry : goal.invariant-loop-entry
invariant-loop-entry l = (length l.rooms.items ≡ l._entry) × All (λ room. room ≡ ([], l.answers)) l.rooms.items

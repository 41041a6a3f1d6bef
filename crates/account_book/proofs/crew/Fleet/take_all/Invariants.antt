use Rattle.account_book.specs.Fleets.{moved_by, moves_by}
use Rattle.account_book.proofs.Loops.{IsVisited}
use Rattle.account_book.proofs.crew.Fleet.take_all.Given as goal

abbrev pub invariant-loop-index : goal.invariant-loop-index
invariant-loop-index l = IsVisited (moved_by l.arrival) (moves_by l.arrival) l.index l.initial.self l.self l.initial.answers l.answers

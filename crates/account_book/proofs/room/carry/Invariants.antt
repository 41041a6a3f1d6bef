use Rattle.std.proofs.Common.{length}
use Rattle.extension_set.proofs.PutInPlace.{IsCarrying}
use Rattle.account_book.proofs.room.carry.Given as goal

abbrev pub invariant-loop-place : goal.invariant-loop-place
invariant-loop-place l = IsCarrying l.place (length l.initial.pairs) (length l.initial.pairs) l.fn.pair l.carried l.initial.pairs l.pairs

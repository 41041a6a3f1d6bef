use Rattle.extension_set.proofs.PutInPlace.{IsCarrying}
use Rattle.extension_set.proofs.moves.Moves.put.Given as goal

abbrev pub invariant-loop-place : goal.invariant-loop-place
invariant-loop-place l =
    IsCarrying l.place l.self-inside.count l.initial.self-inside.count (l.ticket, l.fn.answer) l.carried l.initial.self-inside.pairs l.self-inside.pairs

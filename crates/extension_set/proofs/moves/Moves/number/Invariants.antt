use Rattle.extension_set.proofs.NumberedInPlace.{IsNumbered}
use Rattle.extension_set.proofs.moves.Moves.number.Given as goal

abbrev pub invariant-loop-place : goal.invariant-loop-place
invariant-loop-place l = IsNumbered l.place l.self-inside.count l.initial.self-inside.count l.fn.events l.last l.initial.self-inside.pairs l.self-inside.pairs

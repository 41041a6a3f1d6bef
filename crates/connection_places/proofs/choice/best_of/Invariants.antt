use Rattle.std.proofs.Common.{◌≡◌, take, fold, None}
use Rattle.connection_places.specs.Choices.{searched}
use Rattle.connection_places.proofs.choice.best_of.Given as goal

-- the best of the places so far
abbrev pub invariant-loop-slot : goal.invariant-loop-slot
invariant-loop-slot g l = record {
  place : l.at ≡ l.slot-index;
  best : fold searched (record { at = 0; best = None }) (take l.slot-index l.slots) ≡ record { at = l.at; best = l.best };
}

use Rattle.std.proofs.Common.{◌≡◌, take, fold, None, IfSome}
use Rattle.connection_places.specs.Choices.{searched_ports, count_at}
use Rattle.connection_places.proofs.choice.best_of_ports.Given as goal

-- the best of the places so far, whose port holds what its count says
abbrev pub invariant-loop-slot : goal.invariant-loop-slot
invariant-loop-slot g l = record {
  place : l.at ≡ l.slot-index;
  own : l.own ≡ count_at l.environment l.slots;
  held : IfSome l.best (λ best. best.held ≡ count_at best.environment l.slots);
  best : fold (searched_ports l.environment l.slots) (record { at = 0; best = None }) (take l.slot-index l.slots)
      ≡ record { at = l.at; best = l.best };
}

use Rattle.std.proofs.Common.{◌≡◌, ℕ, take, fold, Option, None, IfSome, List, ap, sym, subst, ◌∙◌}
use Rattle.std.proofs.lemmas.List.{take_all}
use Rattle.connection_places.specs.Choices.{searched_ports, SearchOfPorts, GivesWay}
use Rattle.connection_places.specs.declared.choice.Spare.{Spare}
use Rattle.connection_places.specs.declared.slots.Slot.{Slot}
use Rattle.connection_places.proofs.Fullest.{fullest, gives_way}
use Rattle.connection_places.proofs.choice.best_of_ports.Goals as goal

-- the best one when all places have been looked at
found : {Y V : Type 0} (e n at : ℕ) (best : Option Spare) (slots : List (Slot Y V)) → take n slots ≡ slots
    → fold (searched_ports e slots) (record { at = 0; best = None }) (take n slots) ≡ record { at = at; best = best }
    → (fold (searched_ports e slots) (record { at = 0; best = None }) slots).best ≡ best
found e n at best slots all is =
    ap (λ (search : SearchOfPorts). search.best)
    (ap (λ xs. fold (searched_ports e slots) (record { at = 0; best = None }) xs) (sym all) ∙ is)

pub returns-clause-fullest : goal.returns-clause-fullest
returns-clause-fullest g c =
    fullest c.args.environment c.args.slots.now c.loop-slot.best
    (found c.args.environment c.loop-slot.slot-index c.loop-slot.at c.loop-slot.best c.args.slots.now
    (take_all c.loop-slot.slot-index c.args.slots.now c.loop-slot-test.false) c.loop-slot.invariant.best)

pub returns-clause-gives_way : goal.returns-clause-gives_way
returns-clause-gives_way g c =
    let P : Option Spare → Type 0 = λ best. IfSome best (GivesWay c.args.environment c.args.slots.now) in
    subst P
    (found c.args.environment c.loop-slot.slot-index c.loop-slot.at c.loop-slot.best c.args.slots.now
    (take_all c.loop-slot.slot-index c.args.slots.now c.loop-slot-test.false) c.loop-slot.invariant.best)
    (gives_way c.args.environment c.args.slots.now)

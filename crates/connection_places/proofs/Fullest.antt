-- The connection that a search at the environments' ports finds is at the port that holds most.
use Rattle.std.proofs.Common.{◌≡◌, ℕ, zero, suc, ◌<◌, ◌≤◌, Bool, true, false, ◌||◌, ◌&&◌, ◌==◌, nat_lt, List, [], ◌∷◌}
use Rattle.std.proofs.Common.{length, get_or, fold, Option, Some, None, IfSome, refl, ap, arith, if◌then◌else◌}
use Rattle.std.proofs.lemmas.Bool.Decides.{nat_tests}
use Rattle.connection_places.specs.Choices.{SearchOfPorts, fuller, held_of, offered, spare_at, searched_ports, count_at, GivesWay, IsFullest}
use Rattle.connection_places.specs.Looks.{looks_of_environment}
use Rattle.connection_places.specs.declared.choice.Spare.{Spare}
use Rattle.connection_places.specs.declared.running.Running.{Running}
use Rattle.connection_places.specs.declared.slots.Slot.{Slot}

-- the better of two is at a port that holds no less than the first one's
first_holds : (best spare : Option Spare) → held_of best ≤ held_of (fuller best spare)
first_holds best None = omega arith
first_holds None (Some spare) = omega arith
first_holds (Some best) (Some spare) = go (nat_lt best.held spare.held || ((best.held == spare.held) && nat_lt best.looks spare.looks)) refl
  where
    go : (c : Bool) → (nat_lt best.held spare.held || ((best.held == spare.held) && nat_lt best.looks spare.looks)) ≡ c
        → best.held ≤ held_of (if c then Some spare else Some best)
    go true is = grind (arith, nat_tests)
    go false is = omega arith

-- nor than the second one's
second_holds : (best spare : Option Spare) → held_of spare ≤ held_of (fuller best spare)
second_holds best None = omega arith
second_holds None (Some spare) = omega arith
second_holds (Some best) (Some spare) = go (nat_lt best.held spare.held || ((best.held == spare.held) && nat_lt best.looks spare.looks)) refl
  where
    go : (c : Bool) → (nat_lt best.held spare.held || ((best.held == spare.held) && nat_lt best.looks spare.looks)) ≡ c
        → spare.held ≤ held_of (if c then Some spare else Some best)
    go true is = omega arith
    go false is = grind (arith, nat_tests)

-- what holds of both holds of the better one
pub fuller_keeps : (P : Spare → Type 0) (best spare : Option Spare) → IfSome best P → IfSome spare P → IfSome (fuller best spare) P
fuller_keeps P best None first second = first
fuller_keeps P None (Some spare) first second = second
fuller_keeps P (Some best) (Some spare) first second = go (nat_lt best.held spare.held || ((best.held == spare.held) && nat_lt best.looks spare.looks))
  where
    go : (c : Bool) → IfSome (if c then Some spare else Some best) P
    go true = second
    go false = first

module _ {Y V : Type 0} (e : ℕ) (all : List (Slot Y V)) where
  -- what a port holds does not depend on the place of its connection
  offered_same : (at : ℕ) (looks : Option (ℕ × ℕ)) → held_of (offered e all at looks) ≡ held_of (offered e all 0 looks)
  offered_same at None = refl
  offered_same at (Some (own, looks)) = go ((own == e) || nat_lt (count_at e all) (count_at own all))
    where
      go : (c : Bool) → held_of (if c then Some (record { at = at; environment = own; held = count_at own all; looks = looks }) else None)
          ≡ held_of (if c then Some (record { at = 0; environment = own; held = count_at own all; looks = looks }) else None)
      go true = refl
      go false = refl

  same_held : (at : ℕ) (running : Option Running) → held_of (spare_at e all at running) ≡ held_of (spare_at e all 0 running)
  same_held at None = refl
  same_held at (Some running) = offered_same at (looks_of_environment e running.seen)

  -- the best one holds no less than before, after some more places
  grows : (search : SearchOfPorts) (slots : List (Slot Y V)) → held_of search.best ≤ held_of (fold (searched_ports e all) search slots).best
  grows search [] = omega arith
  grows search (slot ∷ slots) =
      omega (arith, first_holds search.best (spare_at e all search.at slot.running), grows (searched_ports e all search slot) slots)

  -- no place has one at a port that holds more
  fullest_from : (search : SearchOfPorts) (slots : List (Slot Y V)) (k : ℕ) (d : Slot Y V) → k < length slots
      → held_of (spare_at e all 0 (get_or slots k d).running) ≤ held_of (fold (searched_ports e all) search slots).best
  fullest_from search [] k d within = absurd (omega arith)
  fullest_from search (slot ∷ slots) zero d within =
      omega
      (arith, second_holds search.best (spare_at e all search.at slot.running), same_held search.at slot.running, grows (searched_ports e all search slot) slots)
  fullest_from search (slot ∷ slots) (suc k) d within = fullest_from (searched_ports e all search slot) slots k d (omega arith)

  pub fullest : (best : Option Spare) → (fold (searched_ports e all) (record { at = 0; best = None }) all).best ≡ best → IfSome best (IsFullest e all)
  fullest None is = tt
  fullest (Some best) is =
      let holds : Option Spare → ℕ = held_of in
      λ k d within. omega (arith, ap holds is, fullest_from (record { at = 0; best = None }) all k d within)

  -- a connection that is offered gives way
  offered_gives_way : (at : ℕ) (looks : Option (ℕ × ℕ)) → IfSome (offered e all at looks) (GivesWay e all)
  offered_gives_way at None = tt
  offered_gives_way at (Some (own, looks)) = go ((own == e) || nat_lt (count_at e all) (count_at own all)) refl
    where
      go : (c : Bool) → ((own == e) || nat_lt (count_at e all) (count_at own all)) ≡ c
          → IfSome (if c then Some (record { at = at; environment = own; held = count_at own all; looks = looks }) else None) (GivesWay e all)
      go true is = grind (arith, nat_tests)
      go false is = tt

  spare_gives_way : (at : ℕ) (running : Option Running) → IfSome (spare_at e all at running) (GivesWay e all)
  spare_gives_way at None = tt
  spare_gives_way at (Some running) = offered_gives_way at (looks_of_environment e running.seen)

  gives_way_from : (search : SearchOfPorts) (slots : List (Slot Y V)) → IfSome search.best (GivesWay e all)
      → IfSome (fold (searched_ports e all) search slots).best (GivesWay e all)
  gives_way_from search [] so = so
  gives_way_from search (slot ∷ slots) so =
      gives_way_from (searched_ports e all search slot) slots
      (fuller_keeps (GivesWay e all) search.best (spare_at e all search.at slot.running) so (spare_gives_way search.at slot.running))

  pub gives_way : IfSome (fold (searched_ports e all) (record { at = 0; best = None }) all).best (GivesWay e all)
  gives_way = gives_way_from (record { at = 0; best = None }) all tt

  -- a connection that is offered is counted at its port
  offered_is_counted : (at : ℕ) (looks : Option (ℕ × ℕ)) → IfSome (offered e all at looks) (λ spare. spare.held ≡ count_at spare.environment all)
  offered_is_counted at None = tt
  offered_is_counted at (Some (own, looks)) = go ((own == e) || nat_lt (count_at e all) (count_at own all))
    where
      go : (c : Bool) → IfSome (if c then Some (record { at = at; environment = own; held = count_at own all; looks = looks }) else None)
          (λ (spare : Spare). spare.held ≡ count_at spare.environment all)
      go true = refl
      go false = tt

  pub spare_is_counted : (at : ℕ) (running : Option Running) → IfSome (spare_at e all at running) (λ spare. spare.held ≡ count_at spare.environment all)
  spare_is_counted at None = tt
  spare_is_counted at (Some running) = offered_is_counted at (looks_of_environment e running.seen)

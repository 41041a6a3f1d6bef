-- Which new connections get a place, and which connection makes room for one. The account's port and those of handlers
-- are callers' ports: their connections share their places.
use Rattle.std.specs.Prelude.{◌≤◌, ℕ, ◌+◌, ◌==◌, Bool, true, false, ◌||◌, ◌&&◌, nat_lt, if◌then◌else◌, fold, Option}
use Rattle.std.specs.Prelude.{Some, None, List, All, option_map, ◌≡◌, ◌<◌, ◌⊎◌}
use Rattle.std.specs.Option.{option_or}
use Rattle.service_port.specs.Ports.{environment_of}
use Rattle.connection_places.specs.Looks.{looks_of_caller, looks_of_environment, reserve_of, better}
use Rattle.connection_places.specs.declared.choice.Spare.{Spare}
use Rattle.service_port.specs.declared.port.Port.{Port}
use Rattle.service_port.specs.declared.port.Port.TheVariants.{Account, Environment, Handled}
use Rattle.connection_places.specs.declared.running.Running.{Running}
use Rattle.connection_places.specs.declared.slots.Slot.{Slot}

-- The state of a search for the connection that makes room: the next place, and the best one so far with its looks.
pub record Search : Type 0 where
  pub at : ℕ
  pub best : Option (ℕ × ℕ)

-- The state of a search at the environments' ports: the next place, and the best connection so far.
pub record SearchOfPorts : Type 0 where
  pub at : ℕ
  pub best : Option Spare

-- For how many looks the connection of a place has been without a complete request; `None` if it may not make room, or
-- is at an environment's port.
abbrev pub spare_of : Option Running → Option ℕ
spare_of None = None
spare_of (Some running) = looks_of_caller running.seen

-- Whether an environment is this one.
abbrev pub is_this : ℕ → Option ℕ → Bool
is_this e None = false
is_this e (Some other) = other == e

-- Whether there is an environment.
abbrev pub is_any : Option ℕ → Bool
is_any None = false
is_any (Some e) = true

-- The environment at whose port the connection of a place is.
abbrev pub environment_at : Option Running → Option ℕ
environment_at None = None
environment_at (Some running) = environment_of running.seen.port

-- The better of two connections to make room at the environments' ports: the one whose port holds more, of ports that
-- hold as many the one that has been longer without a complete request, and the earlier of equal ones.
abbrev pub fuller : Option Spare → Option Spare → Option Spare
fuller best None = best
fuller None (Some spare) = Some spare
fuller (Some best) (Some spare) =
    if nat_lt best.held spare.held || ((best.held == spare.held) && nat_lt best.looks spare.looks) then Some spare
    else Some best

-- The number of connections that the port of a connection holds; 0 if there is none.
abbrev pub held_of : Option Spare → ℕ
held_of None = 0
held_of (Some spare) = spare.held

module _ {Y V : Type 0} where
  -- The search after one more place.
  abbrev pub searched : Search → Slot Y V → Search
  searched search slot = record { at = search.at + 1; best = better search.best search.at (spare_of slot.running) }

  -- Of the connections at callers' ports that may make room, the one that has been longest without a complete
  -- request, and the first of equal ones: its place, and for how many looks it has been so.
  abbrev pub best_of : List (Slot Y V) → Option (ℕ × ℕ)
  best_of slots = (fold searched (record { at = 0; best = None }) slots).best

  -- The number of these places that have a connection at an environment's port.
  abbrev pub count_of_environments : List (Slot Y V) → ℕ
  count_of_environments slots =
      fold (λ count slot. if is_any (environment_at slot.running) then count + 1 else count) 0 slots

  -- The number of these places that have a connection at the port of this environment.
  abbrev pub count_at : ℕ → List (Slot Y V) → ℕ
  count_at e slots =
      fold (λ count slot. if is_this e (environment_at slot.running) then count + 1 else count) 0 slots

  -- A connection at the port of environment `own`, if it makes room for a newcomer at that of environment e: that is the
  -- same port, or one that holds more connections.
  abbrev pub offered : ℕ → List (Slot Y V) → ℕ → Option (ℕ × ℕ) → Option Spare
  offered e slots at None = None
  offered e slots at (Some (own, looks)) =
      if (own == e) || nat_lt (count_at e slots) (count_at own slots)
      then Some (record { at = at; environment = own; held = count_at own slots; looks = looks })
      else None

  -- The connection of a place, if it may make room for a newcomer at the port of environment e.
  abbrev pub spare_at : ℕ → List (Slot Y V) → ℕ → Option Running → Option Spare
  spare_at e slots at None = None
  spare_at e slots at (Some running) = offered e slots at (looks_of_environment e running.seen)

  -- The search at the environments' ports after one more place.
  abbrev pub searched_ports : ℕ → List (Slot Y V) → SearchOfPorts → Slot Y V → SearchOfPorts
  searched_ports e slots search slot =
      record { at = search.at + 1; best = fuller search.best (spare_at e slots search.at slot.running) }

  -- Of the connections that may make room for a newcomer at the port of environment e, one at the port that holds most:
  -- the one that has been longest without a complete request, and the first of equal ones.
  abbrev pub best_of_ports : ℕ → List (Slot Y V) → Option Spare
  best_of_ports e slots = (fold (searched_ports e slots) (record { at = 0; best = None }) slots).best

  -- No connection that may make room is at a port that holds more than this one's.
  abbrev pub IsFullest : ℕ → List (Slot Y V) → Spare → Type 0
  IsFullest e slots best = All (λ slot. held_of (spare_at e slots 0 slot.running) ≤ best.held) slots

  -- A port gives way to a newcomer at its own port, and to one at a port that holds fewer connections.
  abbrev pub GivesWay : ℕ → List (Slot Y V) → Spare → Type 0
  GivesWay e slots best = (best.environment ≡ e) ⊎ (count_at e slots < best.held)

  -- Whether a new connection at this port may have one of `most` places that no connection has. At an
  -- environment's port, the places that are kept for callers' ports are not available.
  abbrev pub admits : ℕ → Port → List (Slot Y V) → Bool
  admits most Account slots = true
  admits most (Environment e) slots = nat_lt (count_of_environments slots + reserve_of most) most
  admits most (Handled number) slots = true

  -- The place whose connection makes room for a newcomer at this port.
  abbrev pub place_for : ℕ → Port → List (Slot Y V) → Option ℕ
  place_for most Account slots = option_map (λ best. best.0) (best_of slots)
  place_for most (Environment e) slots =
      if admits most (Environment e) slots
      then option_or (option_map (λ best. best.0) (best_of slots)) (option_map (λ best. best.at) (best_of_ports e slots))
      else option_map (λ best. best.at) (best_of_ports e slots)
  place_for most (Handled number) slots = option_map (λ best. best.0) (best_of slots)

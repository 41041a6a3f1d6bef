-- What happens to requests that are handed over, from the first to the last.
use Rattle.std.specs.Prelude.{ℕ, Bool, true, false, ◌+◌, ◌==◌, nat_lt, is_some, if◌then◌else◌, List, [], ◌∷◌, ◌++◌}
use Rattle.std.specs.Prelude.{map, count_by, Option, Some, None}
use Rattle.std.specs.BTreeMap.{is_at}
use Rattle.std.specs.Map.{lookup, keys_of}
use Rattle.std.specs.Ordering.{nat_cmp}
use Rattle.handover.specs.declared.request.Request.{Request}
use Rattle.handover.specs.declared.fault.NotTaken.{NotTaken}
use Rattle.handover.specs.Counters.{Counter, bytes_of, refusal, with_request, first_for, taken_by, given_up}
use Rattle.handover.specs.Counters.{answered, withdrawn, taken_of, without_handler}
use Rattle.handover.specs.Stages.{stage, denial}

-- What may happen: a request comes; a handler asks for one; a handler answers one; a handler ends; a requester goes
-- away; the first request that waits is given up.
pub data Event : Type 0 where
  Comes : Request → Event
  Asks : ℕ → Event
  Answers : ℕ → ℕ → Event
  HandlerEnds : ℕ → Event
  RequesterEnds : ℕ → Event
  GivesUp : Event

-- The counter, or what has become of it, by whether there is a reason not to change it.
abbrev pub unless : {X : Type 0} → Option X → Counter → Counter → Counter
unless None c changed = changed
unless (Some reason) c changed = c

-- The counter after an event.
abbrev pub after : Counter → Event → Counter
after c (Comes request) = unless (refusal (bytes_of request) c) c (with_request request c)
after c (Asks handler) = taken_by handler c
after c (Answers id handler) = unless (denial handler (stage id c)) c (answered id c)
after c (HandlerEnds handler) = without_handler handler c
after c (RequesterEnds id) = withdrawn id c
after c GivesUp = given_up c

-- The counter after several events.
abbrev pub run : Counter → List Event → Counter
run c [] = c
run c (event ∷ events) = run (after c event) events

-- How a request ends: it is answered by a handler, its handler has ended, its requester has gone away, or it was given
-- up.
pub data End : Type 0 where
  Answered : ℕ → End
  Failed : ℕ → End
  Withdrawn : End
  GivenUp : End

-- The request that an answer ends, unless there is a reason not to.
abbrev pub answered_unless : Option NotTaken → ℕ → ℕ → List (ℕ × End)
answered_unless None id handler = (id, Answered handler) ∷ []
answered_unless (Some reason) id handler = []

-- The request with an identifier, as one that has ended so, if a list has it.
abbrev pub ended_if : Bool → ℕ → End → List (ℕ × End)
ended_if true id end = (id, end) ∷ []
ended_if false id end = []

-- The request that waits first, as one that was given up.
abbrev pub first_given_up : List (ℕ × Request) → List (ℕ × End)
first_given_up [] = []
first_given_up (first ∷ others) = (first.0, GivenUp) ∷ []

-- The requests that an event ends, each with how.
abbrev pub ends : Counter → Event → List (ℕ × End)
ends c (Comes request) = []
ends c (Asks handler) = []
ends c (Answers id handler) = answered_unless (denial handler (stage id c)) id handler
ends c (HandlerEnds handler) = map (λ id. (id, Failed handler)) (taken_of handler c)
ends c (RequesterEnds id) =
    ended_if (is_some (lookup (is_at (nat_cmp id)) c.waiting)) id Withdrawn
    ++ ended_if (is_some (lookup (is_at (nat_cmp id)) c.taken)) id Withdrawn
ends c GivesUp = first_given_up c.waiting

-- The requests that several events end.
abbrev pub all_ends : Counter → List Event → List (ℕ × End)
all_ends c [] = []
all_ends c (event ∷ events) = ends c event ++ all_ends (after c event) events

-- The request that an event hands to a handler, with the handler.
abbrev pub hands : Counter → Event → List (ℕ × ℕ)
hands c (Comes request) = []
hands c (Asks handler) = first_for handler c.waiting
hands c (Answers id handler) = []
hands c (HandlerEnds handler) = []
hands c (RequesterEnds id) = []
hands c GivesUp = []

-- The requests that several events hand to handlers.
abbrev pub all_hands : Counter → List Event → List (ℕ × ℕ)
all_hands c [] = []
all_hands c (event ∷ events) = hands c event ++ all_hands (after c event) events

-- How often an identifier is in a list.
abbrev pub times : ℕ → List ℕ → ℕ
times id ids = count_by (λ other. other == id) ids

-- How often an identifier was given: once if it is below the next one.
abbrev pub times_given : ℕ → ℕ → ℕ
times_given id next_id = if nat_lt id next_id then 1 else 0

-- How often a request waits, or is at a handler.
abbrev pub times_here : ℕ → Counter → ℕ
times_here id c = times id (keys_of c.waiting) + times id (keys_of c.taken)

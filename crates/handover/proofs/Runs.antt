-- What holds of a request from the first event to the last.
use Rattle.std.proofs.Common.{◌≡◌, ℕ, ◌+◌, ◌≤◌, List, [], ◌∷◌, arith}
use Rattle.std.specs.Map.{keys_of}
use Rattle.handover.specs.declared.request.Request.{Request}
use Rattle.handover.specs.declared.fault.PutFault.{PutFault}
use Rattle.handover.specs.declared.fault.NotTaken.{NotTaken}
use Rattle.std.proofs.Common.{Option, Some, None}
use Rattle.handover.specs.Counters.{Counter, bytes_of, refusal, with_request, answered}
use Rattle.handover.specs.Stages.{stage, denial}
use Rattle.handover.specs.Runs.{Event, Comes, Asks, Answers, HandlerEnds, RequesterEnds, GivesUp}
use Rattle.handover.specs.Runs.{after, unless, run, ends, all_ends, times, times_here, times_given}
use Rattle.handover.proofs.Counting.{keys_append}
use Rattle.handover.proofs.Steps.{moves}

-- What is here, and what has ended, are what was here and what was given.
pub one_place : (id : ℕ) (c : Counter) (events : List Event)
    → times_here id (run c events) + times id (keys_of (all_ends c events)) + times_given id c.next_id
    ≡ times_here id c + times_given id (run c events).next_id
one_place id c [] = omega arith
one_place id c (event ∷ events) =
    let now = moves id c event in
    let later = one_place id (after c event) events in
    let both = keys_append id (ends c event) (all_ends (after c event) events) in
    omega (arith, now, later, both)

-- The next identifier never falls.
rises_unless_full : (reason : Option PutFault) (c : Counter) (request : Request)
    → c.next_id ≤ (unless reason c (with_request request c)).next_id
rises_unless_full None c request = omega arith
rises_unless_full (Some reason) c request = omega arith

stays_answered : (reason : Option NotTaken) (c : Counter) (id : ℕ)
    → c.next_id ≤ (unless reason c (answered id c)).next_id
stays_answered None c id = omega arith
stays_answered (Some reason) c id = omega arith

rises_once : (c : Counter) (event : Event) → c.next_id ≤ (after c event).next_id
rises_once c (Comes request) = rises_unless_full (refusal (bytes_of request) c) c request
rises_once c (Asks handler) = omega arith
rises_once c (Answers id handler) = stays_answered (denial handler (stage id c)) c id
rises_once c (HandlerEnds handler) = omega arith
rises_once c (RequesterEnds id) = omega arith
rises_once c GivesUp = omega arith

pub rises : (c : Counter) (events : List Event) → c.next_id ≤ (run c events).next_id
rises c [] = omega arith
rises c (event ∷ events) = omega (arith, rises_once c event, rises (after c event) events)

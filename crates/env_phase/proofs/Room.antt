-- How many answers a call gives at an environment at most, and how many extensions it leaves.
use Rattle.std.proofs.Common.{◌≡◌, ℕ, ◌+◌, ◌*◌, ◌≤◌, ◌++◌, Bool, true, false, List, map, length, ◌<◌, [], Option, Some}
use Rattle.std.proofs.Common.{None, refl, ap, ◌∙◌, arith, if◌then◌else◌}
use Rattle.std.proofs.lemmas.List.{length-map}
use Rattle.call_types.specs.declared.answer.Answer.{Answer}
use Rattle.call_types.specs.declared.answer.Phase.{Phase}
use Rattle.call_types.specs.declared.call.Call.{Call}
use Rattle.call_model.specs.Generation.{Member, Extension, as_registered}
use Rattle.call_model.specs.Polls.{begun, delivered}
use Rattle.call_model.specs.Stand.{Stand, RuntimePoll, ExtensionPoll}
use Rattle.call_model.specs.Table.{own_answer, to_waiting, is_registered}
use Rattle.environment_step.specs.After.{Step, Fixed, give, give_each, poll_gets, waiting_call, fresh_members}
use Rattle.environment_step.specs.After.{member_first, first_stand, first_moves, restarted, settled_stand, turned}
use Rattle.environment_step.specs.After.{turned_moves, served_moves, settled_phase, closing_ends, expires_now, finished}
use Rattle.environment_step.specs.After.{finished_moves, stand_after, moves_of}
use Rattle.extension_set.proofs.Lengths.{give_length, each_length, numbered_length, events_few}

-- the first stage: at most an answer to each extension, to the runtime, to the waiting call and to the call itself
first_moves_few : (step : Step) (s : Stand) (call : Call) → length (first_moves step s call) ≤ length s.members + 3
unfolding first_moves
first_moves_few step s call =
    omega
    (arith, give_length (Some step.ticket) (own_answer s call) polled_all, each_length (λ x. poll_gets step s call (ExtensionPoll x) x.next) s.members polled_runtime, give_length s.runtime (poll_gets step s call RuntimePoll s.runtime) waited, give_length (waiting_call s) (to_waiting step.ticket s call) [])
  where
    waited : List (ℕ × Answer)
    waited = give (waiting_call s) (to_waiting step.ticket s call) []

    polled_runtime : List (ℕ × Answer)
    polled_runtime = give s.runtime (poll_gets step s call RuntimePoll s.runtime) waited

    polled_all : List (ℕ × Answer)
    polled_all = give_each (λ x. poll_gets step s call (ExtensionPoll x) x.next) s.members polled_runtime

-- the extensions after it: one more at most
first_members : (fixed : Fixed) (step : Step) (s : Stand) (call : Call)
    → (first_stand fixed step s call).members ≡ fresh_members (as_registered call (own_answer s call)) ++ map (member_first step s call) s.members
unfolding first_stand
first_members fixed step s call = refl

fresh_length : (o : Option Extension) (xs : List Member) → length (fresh_members o ++ xs) ≤ length xs + 1
fresh_length None xs = omega arith
fresh_length (Some x) xs = omega arith

pub first_room : (fixed : Fixed) (step : Step) (s : Stand) (call : Call) → length s.members ≤ 10
    → length (first_stand fixed step s call).members + length (first_moves step s call) < 31
first_room fixed step s call few =
    omega
    (arith, ap length (first_members fixed step s call), fresh_length (as_registered call (own_answer s call)) (map (member_first step s call) s.members), length-map s.members (member_first step s call), first_moves_few step s call, few)

-- one that has just registered has no parked Next, so that it gets nothing
fresh_each : (f : Member → Option Answer) (o : Option Extension) (xs : List Member) (moves : List (ℕ × Answer))
    → give_each f (fresh_members o ++ xs) moves ≡ give_each f xs moves
fresh_each f None xs moves = refl
fresh_each f (Some x) xs moves = refl

-- what comes after each entry: at most an answer to each extension from before and to the runtime
served_length : (b : Option (ℕ × ℕ)) (s : Stand) (o : Option Extension) (xs : List Member) (moves : List (ℕ × Answer))
    → s.members ≡ fresh_members o ++ xs → length (served_moves b s moves) ≤ length xs + 1 + length moves
served_length b s o xs moves e =
    omega
    (arith, ap length (ap (λ ys. give_each (λ x. delivered b (ExtensionPoll x)) ys polled) e ∙ fresh_each (λ x. delivered b (ExtensionPoll x)) o xs polled), each_length (λ x. delivered b (ExtensionPoll x)) xs polled, give_length s.runtime (delivered b RuntimePoll) moves)
  where
    polled : List (ℕ × Answer)
    polled = give s.runtime (delivered b RuntimePoll) moves

turned_length : (fixed : Fixed) (now : ℕ) (expires : Bool) (before : Phase) (s : Stand) (o : Option Extension) (xs : List Member) (moves : List (ℕ × Answer))
    → s.members ≡ fresh_members o ++ xs
    → length (turned_moves fixed now expires before s moves) ≤ length xs + 1 + length moves
unfolding turned_moves
turned_length fixed now expires before s o xs moves e = go (closing_ends expires s)
  where
    go : (b : Bool) → length (if b then moves else served_moves (begun before (settled_phase fixed now s)) s moves) ≤ length xs + 1 + length moves
    go true = omega arith
    go false = served_length (begun before (settled_phase fixed now s)) s o xs moves e

-- after the whole call
turned_few : (fixed : Fixed) (step : Step) (s : Stand) (call : Call)
    → length (turned_moves fixed step.now (expires_now s call) s.phase (first_stand fixed step s call) (first_moves step s call)) ≤ 2 * length s.members + 4
turned_few fixed step s call =
    omega
    (arith, turned_length fixed step.now (expires_now s call) s.phase (first_stand fixed step s call) (as_registered call (own_answer s call)) (map (member_first step s call) s.members) (first_moves step s call) (first_members fixed step s call), length-map s.members (member_first step s call), first_moves_few step s call)

pub moves_few : (fixed : Fixed) (step : Step) (s : Stand) (call : Call) → length (moves_of fixed step s call) ≤ 2 * length s.members + 4
unfolding moves_of finished_moves first_stand
moves_few fixed step s call = omega (arith, turned_few fixed step s call, numbered_length s.events turned_all)
  where
    turned_all : List (ℕ × Answer)
    turned_all = turned_moves fixed step.now (expires_now s call) s.phase (first_stand fixed step s call) (first_moves step s call)

pub events_more : (fixed : Fixed) (step : Step) (s : Stand) (call : Call) → (stand_after fixed step s call).events ≤ s.events + (2 * length s.members + 4)
unfolding stand_after finished first_stand
events_more fixed step s call =
    omega
    (arith, turned_few fixed step s call, events_few (turned_moves fixed step.now (expires_now s call) s.phase (first_stand fixed step s call) (first_moves step s call)))

-- a call registers one extension at most
turned_registrations : (fixed : Fixed) (now : ℕ) (expires : Bool) (before : Phase) (s : Stand)
    → (turned fixed now expires before s).registrations ≡ s.registrations
unfolding turned
turned_registrations fixed now expires before s = go (closing_ends expires s)
  where
    go : (b : Bool) → (if b then restarted now s else settled_stand fixed now before s).registrations ≡ s.registrations
    go true = refl
    go false = refl

pub registrations_more : (fixed : Fixed) (step : Step) (s : Stand) (call : Call) → (stand_after fixed step s call).registrations ≤ s.registrations + 1
unfolding stand_after finished first_stand
registrations_more fixed step s call =
    omega (arith, turned_registrations fixed step.now (expires_now s call) s.phase (first_stand fixed step s call), one (is_registered (own_answer s call)))
  where
    one : (b : Bool) → (if b then 1 else 0) + s.registrations ≤ s.registrations + 1
    one true = omega arith
    one false = omega arith

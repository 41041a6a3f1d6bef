-- The first stage by what the call comes to is that of the table.
use Rattle.std.proofs.Common.{◌≡◌, ℕ, Bool, List, [], ◌∷◌, map, Option, Some, None, refl, ap, ap₂, is_some}
use Rattle.call_types.specs.declared.answer.Answer.{Answer}
use Rattle.call_types.specs.declared.answer.Phase.{Phase}
use Rattle.call_types.specs.declared.call.Call.{Call}
use Rattle.call_model.specs.Generation.{Member, TheRuntime}
use Rattle.call_model.specs.Stand.{Stand, RuntimePoll, ExtensionPoll, at_hand}
use Rattle.environment_step.specs.After.{Fixed, Known, Step, cell_at, first_moves, first_stand, give, give_each}
use Rattle.environment_step.specs.After.{member_first, over_now, request_of, runtime_first, poll_gets}
use Rattle.call_model.specs.Table.{table, own_answer, closes, to_waiting}
use Rattle.extension_set.specs.declared.turn.Turn.{Turn}
use Rattle.extension_set.specs.Turns.{poll_gets_by_turn, member_after, next_after}
use Rattle.env_phase.specs.declared.environment.cells.Cell.{Cell}
use Rattle.env_phase.specs.Cells.{at_ticket, turn_at}
use Rattle.env_phase.specs.First.{turn_of, polled, answers, joined, request_kept}

-- The table's cell says what the call itself is answered, why the environment closes,
pub of_cell : (step : Step) (s : Stand) (call : Call) (cell : Cell) → cell ≡ at_ticket step.ticket (table s call) → turn_at step cell ≡ turn_of step s call
unfolding own_answer closes
of_cell step s call cell q = ap (turn_at step) q

-- and what the waiting call gets.
pub waiting_of : (own : ℕ) (s : Stand) (call : Call) (cell : Cell) → cell ≡ at_ticket own (table s call) → cell.waiting ≡ to_waiting own s call
unfolding to_waiting
waiting_of own s call cell q = ap (λ (x : Cell). x.waiting) q

extension_same : (step : Step) (s : Stand) (call : Call) (x : Member) (o : Option ℕ)
    → poll_gets_by_turn (turn_of step s call) call (ExtensionPoll x) o ≡ poll_gets step s call (ExtensionPoll x) o
extension_same step s call x None = refl
extension_same step s call x (Some u) = refl

runtime_same : (step : Step) (s : Stand) (call : Call) (o : Option ℕ)
    → poll_gets_by_turn (turn_of step s call) call RuntimePoll o ≡ poll_gets step s call RuntimePoll o
runtime_same step s call None = refl
runtime_same step s call (Some u) = refl

member_same : (step : Step) (s : Stand) (call : Call) (x : Member) → member_after (turn_of step s call) call x ≡ member_first step s call x
member_same step s call x = rw (extension_same step s call x x.next) refl

members_same : (step : Step) (s : Stand) (call : Call) (xs : List Member) → map (member_after (turn_of step s call) call) xs ≡ map (member_first step s call) xs
members_same step s call [] = refl
members_same step s call (x ∷ xs) = ap₂ ◌∷◌ (member_same step s call x) (members_same step s call xs)

each_same : (step : Step) (s : Stand) (call : Call) (xs : List Member) (moves : List (ℕ × Answer))
    → give_each (λ x. poll_gets_by_turn (turn_of step s call) call (ExtensionPoll x) x.next) xs moves ≡ give_each (λ x. poll_gets step s call (ExtensionPoll x) x.next) xs moves
each_same step s call [] moves = refl
each_same step s call (x ∷ xs) moves =
    rw (extension_same step s call x x.next) (ap (give x.next (poll_gets step s call (ExtensionPoll x) x.next)) (each_same step s call xs moves))

next_same : (step : Step) (s : Stand) (call : Call) → next_after TheRuntime (turn_of step s call) call RuntimePoll s.runtime ≡ runtime_first step s call
next_same step s call = rw (runtime_same step s call s.runtime) refl

pub answers_same : (step : Step) (s : Stand) (call : Call) → answers (turn_of step s call) (to_waiting step.ticket s call) call s ≡ first_moves step s call
unfolding first_moves
answers_same step s call = rw (runtime_same step s call s.runtime) (ap (give (Some step.ticket) _) (each_same step s call s.members _))

request_same : (step : Step) (s : Stand) (call : Call) (o : Option ℕ)
    → request_kept step (is_some (to_waiting step.ticket s call)) s.request o ≡ request_of step s call o
request_same step s call None = refl
request_same step s call (Some p) = refl

-- an environment with its fixed part and its stand
abbrev known : Fixed → Stand → Known
known fixed s = record { fixed = fixed; stand = s }

-- an environment whose parked Nexts were answered, where an extension was added, and that entered its phase
pub first_same : (step : Step) (before : Known) (call : Call) (turn : Turn) (caller : Option Answer) (phase : Phase)
    (request : Option ℕ) (answered stopped : Bool) (heard added entered : Known)
    → turn ≡ turn_of step before.stand call
    → caller ≡ to_waiting step.ticket before.stand call
    → phase ≡ cell_at before.fixed step before.stand call
    → answered ≡ is_some caller
    → request ≡ request_kept step answered before.stand.request (at_hand phase)
    → stopped ≡ over_now before.stand call
    → heard ≡ known before.fixed (polled turn call before.stand)
    → added ≡ known heard.fixed (joined call turn.own heard.stand)
    → entered ≡ known added.fixed (record added.stand { phase = phase; request = request; stopped = stopped })
    → entered ≡ known before.fixed (first_stand before.fixed step before.stand call)
unfolding first_stand
first_same step before call turn caller phase request answered stopped heard added entered of_turn of_caller of_phase of_answered of_request of_stopped of_heard of_added of_entered =
    rw
    (of_entered, of_added, of_heard, of_request, of_answered, of_caller, of_phase, of_stopped, of_turn, members_same step before.stand call before.stand.members, next_same step before.stand call, request_same step before.stand call (at_hand (cell_at before.fixed step before.stand call))) refl

-- The state of one environment (`Stand`) after a call, and the answers that the call gives there. Both are determined
-- by the state before the call, the call, its step and the configuration; the rest of the history does not matter. A
-- call takes effect in two stages. The first is the table of phases, with the answers to the call itself and to older
-- tickets. The second follows every call: a Closing may end, or the environment may become Idle, Busy or Starting by
-- whether the runtime and all extensions have asked for Next, and a Busy that begins answers their Nexts.
use Rattle.std.specs.Prelude.{ℕ, suc, ◌+◌, ◌*◌, Bool, false, ◌&&◌, ◌||◌, if◌then◌else◌, ◌==◌, nat_lt, List, [], ◌∷◌}
use Rattle.std.specs.Prelude.{◌++◌, length, map, Option, Some, None, is_some}
use Rattle.call_types.specs.declared.call.Call.{Call}
use Rattle.call_types.specs.declared.answer.Answer.{Answer}
use Rattle.call_types.specs.declared.answer.Phase.{Phase}
use Rattle.call_types.specs.declared.call.Entry.{Entry}
use Rattle.arn_ids.specs.declared.config.Config.{Config}
use Rattle.arn_ids.specs.Environments.{timeout_of, expected_at, function_of}
use Rattle.call_model.specs.History.{is_stop, requests, is_expiry}
use Rattle.call_model.specs.Generation.{Member, Extension, Actor, TheRuntime, TheExtension, asks, as_registered}
use Rattle.call_model.specs.Generation.{is_ending, is_accepted, reports_exit, ready, awaited}
use Rattle.call_model.specs.Stand.{Stand, Role, RuntimePoll, ExtensionPoll, at_hand, bound_of, is_closing}
use Rattle.call_model.specs.Table.{own_answer, to_waiting, after_cell, reborn, settled, is_registered}
use Rattle.call_model.specs.Polls.{by_role, begun, delivered}
use Rattle.call_model.specs.Life.{is_event}
use Rattle.call_model.specs.Answers.{with_event}

-- What the configuration sets for an environment, and no call changes.
pub record Fixed : Type 0 where
  -- The timeout of its function, in milliseconds.
  pub timeout : ℕ
  -- The names of the extensions that must register before Init can end.
  pub expected : List (List ℕ)

-- What a call comes with: its ticket, its moment in milliseconds, and, if it is an Invoke that is placed, the count in
-- its request identifier.
pub record Step : Type 0 where
  pub ticket : ℕ
  pub now : ℕ
  pub count : ℕ

-- The deadline of a Busy phase that begins at the step, in milliseconds.
abbrev pub limit_at : Fixed → Step → ℕ
limit_at fixed step = step.now + fixed.timeout

-- The ticket of an actor's last Next after a call with ticket `n`; `before` is the ticket before the call.
abbrev pub asked_now : Actor → Call → ℕ → Option ℕ → Option ℕ
asked_now actor call n before = if asks actor call then Some n else before

-- A Next that is still pending: the Next itself if it gets no answer, and `None` if it gets one.
abbrev pub left : Option Answer → Option ℕ → Option ℕ
left None next = next
left (Some a) next = None

-- The answer of the first stage to an actor's older pending Next, if there is one.
abbrev pub poll_gets : Step → Stand → Call → Role → Option ℕ → Option Answer
poll_gets step s call role None = None
poll_gets step s call role (Some u) = by_role step.ticket step.now s call u role

-- The answer of the first stage to an actor's last Next, which may be the call itself.
abbrev pub actor_gets : Actor → Step → Stand → Call → Role → Option ℕ → Option Answer
actor_gets actor step s call role next = if asks actor call then own_answer s call else poll_gets step s call role next

-- The runtime's pending Next after the first stage.
abbrev pub runtime_first : Step → Stand → Call → Option ℕ
runtime_first step s call =
    left (actor_gets TheRuntime step s call RuntimePoll s.runtime) (asked_now TheRuntime call step.ticket s.runtime)

-- The answer of the first stage to an extension's last Next, which may be the call itself.
abbrev pub member_gets : Step → Stand → Call → Member → Option Answer
member_gets step s call x = actor_gets (TheExtension x.extension.count) step s call (ExtensionPoll x) x.next

-- An extension after the first stage.
abbrev pub member_first : Step → Stand → Call → Member → Member
member_first step s call x = record {
  extension = x.extension;
  next = left (member_gets step s call x) (asked_now (TheExtension x.extension.count) call step.ticket x.next);
  told = x.told || is_ending (member_gets step s call x);
  again = x.again || (x.told && asks (TheExtension x.extension.count) call);
  exited = (reports_exit x.extension.count call && is_accepted (own_answer s call)) || x.exited;
}

-- The extension that a Register adds, as a list of one; an empty list if the call adds none.
abbrev pub fresh_members : Option Extension → List Member
fresh_members None = []
fresh_members (Some x) = record { extension = x; next = None; told = false; again = false; exited = false } ∷ []

-- The extensions after the first stage, the newest first.
abbrev pub members_first : Step → Stand → Call → List Member
members_first step s call =
    fresh_members (as_registered call (own_answer s call)) ++ map (member_first step s call) s.members

-- The request count of the call that waits after an entry: that of an Invoke placed by this entry, `None` once the
-- waiting call was answered, and otherwise the one before. The last argument is the invocation at hand after the entry.
abbrev pub request_of : Step → Stand → Call → Option ℕ → Option ℕ
request_of step s call None = None
request_of step s call (Some p) =
    if p == step.ticket then Some step.count else if is_some (to_waiting step.ticket s call) then None else s.request

-- The phase after the table's cell.
abbrev pub cell_at : Fixed → Step → Stand → Call → Phase
cell_at fixed step s call = after_cell step.now (limit_at fixed step) step.ticket s call

-- Whether the service is stopped after the call.
abbrev pub over_now : Stand → Call → Bool
over_now s call = is_stop call || s.stopped

-- The state after the first stage.
unfoldable pub first_stand : Fixed → Step → Stand → Call → Stand
first_stand fixed step s call = record {
  phase = cell_at fixed step s call;
  runtime = runtime_first step s call;
  members = members_first step s call;
  request = request_of step s call (at_hand (cell_at fixed step s call));
  stopped = over_now s call;
  registrations = (if is_registered (own_answer s call) then 1 else 0) + s.registrations;
  events = s.events;
}

-- The request count, if the phase has an invocation at hand; otherwise `None`.
abbrev pub if_held : Phase → Option ℕ → Option ℕ
if_held phase request = if is_some (at_hand phase) then request else None

-- The state after a Closing has ended: the first of the next generation, or Off after a Stop, without pending Nexts and
-- without extensions.
abbrev pub restarted : ℕ → Stand → Stand
restarted now s = record s {
  phase = reborn s.stopped now (bound_of s.phase);
  runtime = None;
  members = [];
  request = if_held (reborn s.stopped now (bound_of s.phase)) s.request;
}

-- An extension after a Busy begins, which answers its Next if it registered for INVOKE. No Busy begins if the first
-- argument is `None`.
abbrev pub member_second : Option (ℕ × ℕ) → Member → Member
member_second b x = record x { next = left (delivered b (ExtensionPoll x)) x.next }

-- The state with a new phase, after the Nexts that a Busy answers when it begins.
abbrev pub served : Option (ℕ × ℕ) → Phase → Stand → Stand
served b phase s = record s {
  phase = phase;
  runtime = left (delivered b RuntimePoll) s.runtime;
  members = map (member_second b) s.members;
  request = if_held phase s.request;
}

-- The phase after the second stage if no Closing ends, by whether the runtime and all extensions have asked for Next.
abbrev pub settled_phase : Fixed → ℕ → Stand → Phase
settled_phase fixed now s =
    settled (now + fixed.timeout) (ready s.runtime s.members fixed.expected) (is_some s.request) s.phase

-- The state after the second stage if no Closing ends; `before` is the phase before the call.
abbrev pub settled_stand : Fixed → ℕ → Phase → Stand → Stand
settled_stand fixed now before s = served (begun before (settled_phase fixed now s)) (settled_phase fixed now s) s

-- Whether a Closing ends: because no extension is awaited any more, or because its time is over.
abbrev pub closing_ends : Bool → Stand → Bool
closing_ends expires s = is_closing s.phase && ((length (awaited s.members) == 0) || expires)

-- The state after the second stage, without the events counted; `before` is the phase before the call.
unfoldable pub turned : Fixed → ℕ → Bool → Phase → Stand → Stand
turned fixed now expires before s = if closing_ends expires s then restarted now s else settled_stand fixed now before s

-- The list with a pair inserted, in rising order of tickets.
abbrev pub put : ℕ × Answer → List (ℕ × Answer) → List (ℕ × Answer)
put a [] = a ∷ []
put a (b ∷ rest) = if nat_lt a.0 b.0 then a ∷ put b rest else b ∷ put a rest

-- The list with the answer to a ticket inserted, if there are both a ticket and an answer.
abbrev pub give : Option ℕ → Option Answer → List (ℕ × Answer) → List (ℕ × Answer)
give (Some t) (Some a) moves = put (t, a) moves
give _ _ moves = moves

-- The list with the answers to the last Nexts of extensions inserted, each as `f` gives it. The extensions are the
-- newest first, and the oldest is inserted first.
abbrev pub give_each : (Member → Option Answer) → List Member → List (ℕ × Answer) → List (ℕ × Answer)
give_each f [] moves = moves
give_each f (x ∷ xs) moves = give x.next (f x) (give_each f xs moves)

-- The ticket of the waiting call, if there is one.
abbrev pub waiting_call : Stand → Option ℕ
waiting_call s = if is_some s.request then at_hand s.phase else None

-- The answers of the first stage: to the call itself and to older tickets.
unfoldable pub first_moves : Step → Stand → Call → List (ℕ × Answer)
first_moves step s call =
    give (Some step.ticket) (own_answer s call)
    (give_each (λ x. poll_gets step s call (ExtensionPoll x) x.next) s.members
    (give s.runtime (poll_gets step s call RuntimePoll s.runtime)
    (give (waiting_call s) (to_waiting step.ticket s call) [])))

-- The answers with those that a Busy gives when it begins: the delivery to the runtime, and the notices to extensions.
abbrev pub served_moves : Option (ℕ × ℕ) → Stand → List (ℕ × Answer) → List (ℕ × Answer)
served_moves b s moves =
    give_each (λ x. delivered b (ExtensionPoll x)) s.members (give s.runtime (delivered b RuntimePoll) moves)

-- The answers after the second stage, with their events not numbered yet: with those of a Busy that begins, unless a
-- Closing ends.
unfoldable pub turned_moves : Fixed → ℕ → Bool → Phase → Stand → List (ℕ × Answer) → List (ℕ × Answer)
turned_moves fixed now expires before s moves =
    if closing_ends expires s
    then moves
    else served_moves (begun before (settled_phase fixed now s)) s moves

-- The answers with their events numbered in order from `n` + 1.
abbrev pub numbered_from : ℕ → List (ℕ × Answer) → List (ℕ × Answer)
numbered_from n [] = []
numbered_from n (a ∷ rest) = (a.0, with_event (suc n) a.1) ∷ numbered_from (if is_event a.1 then suc n else n) rest

-- The number of events among the answers.
abbrev pub events_of : List (ℕ × Answer) → ℕ
events_of [] = 0
events_of (a ∷ rest) = (if is_event a.1 then 1 else 0) + events_of rest

-- Whether the call ends a Closing by its expiry.
abbrev pub expires_now : Stand → Call → Bool
expires_now s call = is_closing s.phase && is_expiry call

-- The state with this count of events.
abbrev pub with_events : ℕ → Stand → Stand
with_events n s = record s { events = n }

-- The answers after both stages, with their events numbered.
unfoldable pub finished_moves : Fixed → ℕ → Bool → Phase → Stand → List (ℕ × Answer) → List (ℕ × Answer)
finished_moves fixed now expires before s moves = numbered_from s.events (turned_moves fixed now expires before s moves)

-- The state after both stages, with the events counted.
unfoldable pub finished : Fixed → ℕ → Bool → Phase → Stand → List (ℕ × Answer) → Stand
finished fixed now expires before s moves =
    with_events (events_of (turned_moves fixed now expires before s moves) + s.events)
    (turned fixed now expires before s)

-- The answers that a call gives at an environment, each with the ticket that gets it, in rising order of tickets.
unfoldable pub moves_of : Fixed → Step → Stand → Call → List (ℕ × Answer)
moves_of fixed step s call =
    finished_moves fixed step.now (expires_now s call) s.phase (first_stand fixed step s call) (first_moves step s call)

-- The state of an environment after a call.
unfoldable pub stand_after : Fixed → Step → Stand → Call → Stand
stand_after fixed step s call =
    finished fixed step.now (expires_now s call) s.phase (first_stand fixed step s call) (first_moves step s call)

-- An environment: what the configuration sets for it, and its state.
pub record Known : Type 0 where
  pub fixed : Fixed
  pub stand : Stand

-- What the configuration sets for the environment with a number.
abbrev pub fixed_of : Config → ℕ → Fixed
fixed_of config e = record { timeout = 1000 * timeout_of config e; expected = expected_at config e }

-- The step of an entry after a history, with this count.
abbrev pub step_at : List Entry → Entry → ℕ → Step
step_at h entry count = record { ticket = length h; now = entry.moment; count = count }

-- The count that the entry has if it is an Invoke of the environment's function: the requests of that function, up to
-- and including the entry.
abbrev pub count_at : Config → List Entry → Entry → ℕ → ℕ
count_at config h entry e = requests (entry ∷ h) (function_of config e)

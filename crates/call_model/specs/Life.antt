-- The phase of an environment and its present generation, as a fold over the history.
use Rattle.std.specs.Prelude.{ℕ, ◌+◌, ◌*◌, Bool, true, false, not, ◌&&◌, ◌||◌, if◌then◌else◌, ◌==◌, List, [], ◌∷◌}
use Rattle.std.specs.Prelude.{length, Option, Some, None, count_by, filter, is_some}
use Rattle.call_types.specs.declared.call.Call.{Call}
use Rattle.call_types.specs.declared.call.Call.TheVariants.{Withdraw, Stop}
use Rattle.call_types.specs.declared.call.Entry.{Entry}
use Rattle.call_types.specs.declared.answer.Answer.{Answer}
use Rattle.call_types.specs.declared.answer.Answer.TheVariants.{Told, Ending, Delivered}
use Rattle.call_types.specs.declared.answer.Phase.{Phase}
use Rattle.call_types.specs.declared.answer.Phase.TheVariants.{Starting}
use Rattle.arn_ids.specs.declared.config.Config.{Config}
use Rattle.arn_ids.specs.Environments.{timeout_of, expected_at, function_of}
use Rattle.call_model.specs.History.{answer_in, pending, stopped, poll_env, call_of, with_tickets, requests, upto}
use Rattle.call_model.specs.History.{is_expiry}
use Rattle.call_types.specs.Calls.{env_of}
use Rattle.call_model.specs.Generation.{Generation, Member, members, ready, awaited, parked, TheRuntime}
use Rattle.call_model.specs.Stand.{Stand, at_hand, bound_of, is_number, is_closing}
use Rattle.call_model.specs.Table.{is_registered, reborn, settled, after_cell}

-- The life of an environment: its phase, and the entries that concerned it in its present generation.
pub record Lifecycle : Type 0 where
  pub phase : Phase
  pub generation : Generation

-- Whether a call concerns environment e: it names e, withdraws a Next that was sent at e, or stops the service.
abbrev pub names : List Entry → ℕ → Call → Bool
names h e Stop = true
names h e (Withdraw t) = is_number (poll_env (call_of h t)) e
names h e call = is_number (env_of call) e

-- Whether an entry concerns environment e: its call concerns e, or its Invoke is placed at e.
abbrev pub concerns : List Entry → ℕ → Entry → Bool
concerns h e entry = is_number entry.place e || names h e entry.call

-- The count in the request identifier of the invocation at hand, if that invocation still waits for its answer.
abbrev pub request_at : Config → List Entry → ℕ → Option ℕ → Option ℕ
request_at config h e None = None
request_at config h e (Some p) = if pending h p then Some (requests (upto h p) (function_of config e)) else None

-- The number of extensions that were registered at an environment, over all its generations. It is the count in the
-- identifier of the newest one. (Extensions API: Lambda-Extension-Identifier)
abbrev pub registrations : List Entry → ℕ → ℕ
registrations h e =
    count_by (λ taken. is_number (env_of taken.1.call) e && is_registered (answer_in taken.1.answers taken.0))
    (with_tickets h)

-- Whether an answer is an event. (Extensions API: Invoke and Shutdown events)
abbrev pub is_event : Answer → Bool
is_event (Told p d event) = true
is_event (Ending reason until event) = true
is_event _ = false

-- The number of answers in a list that are events at environment e.
abbrev pub events_in : List Entry → ℕ → List (ℕ × Answer) → ℕ
events_in h e pairs = count_by (λ a. is_event a.1 && is_number (env_of (call_of h a.0)) e) pairs

-- The number of events of which the extensions of an environment were notified, over all its generations. It is the
-- count in the identifier of the newest event. (Extensions API: Lambda-Extension-Event-Identifier)
abbrev pub events : List Entry → ℕ → ℕ
events [] e = 0
events (entry ∷ h) e = events_in (entry ∷ h) e entry.answers + events h e

-- What a history says of an environment, given the phase and the generation that the environment has.
unfoldable pub seen : Config → List Entry → ℕ → Lifecycle → Stand
seen config h e life = record {
  phase = life.phase;
  runtime = parked h life.generation TheRuntime;
  members = members h life.generation;
  request = request_at config h e (at_hand life.phase);
  stopped = stopped h;
  registrations = registrations h e;
  events = events h e;
}

-- Whether an answer is a second one: only a Busy that begins in the entry gives it.
abbrev pub is_second : Answer → Bool
is_second (Delivered p d) = true
is_second (Told p d event) = true
is_second _ = false

-- An entry with its first answers only: all but those of a Busy that begins in it.
abbrev pub first_part : Entry → Entry
first_part entry = record entry { answers = filter (λ a. not (is_second a.1)) entry.answers }

-- Whether a Closing ends in an entry: either no extension is awaited any more, or the environment was Closing before
-- the entry and the entry is an expiry. (life cycle: Shutdown phase)
abbrev pub ends : Phase → Call → Phase → List Member → Bool
ends before call phase members =
    is_closing phase && ((length (awaited members) == 0) || (is_closing before && is_expiry call))

-- The deadline, in milliseconds, of a Busy that begins now; the function's timeout is in seconds.
abbrev pub limit_of : Config → ℕ → ℕ → ℕ
limit_of config e now = now + 1000 * timeout_of config e

-- The visit of an entry to an environment: the entry, the history before it, and the life that it finds there.
pub record Visit : Type 0 where
  pub config : Config
  pub environment : ℕ
  pub history : List Entry
  pub found : Lifecycle
  pub entry : Entry

-- The history including the entry, of which only the first answers count.
abbrev pub history_with : Visit → List Entry
history_with v = first_part v.entry ∷ v.history

-- The present generation including the entry.
abbrev pub generation_with : Visit → Generation
generation_with v = (length v.history, v.entry) ∷ v.found.generation

-- The extensions of the present generation after the entry.
abbrev pub members_with : Visit → List Member
members_with v = members (history_with v) (generation_with v)

-- The deadline of a Busy that begins in the visit.
abbrev pub limit : Visit → ℕ
limit v = limit_of v.config v.environment v.entry.moment

-- The phase that the table's cell for the entry's call gives.
abbrev pub phase_by_table : Visit → Phase
phase_by_table v =
    after_cell v.entry.moment (limit v) (length v.history) (seen v.config v.history v.environment v.found) v.entry.call

-- Whether a Closing ends in the visit.
abbrev pub ends_here : Visit → Bool
ends_here v = ends v.found.phase v.entry.call (phase_by_table v) (members_with v)

-- Whether the generation is ready after the entry: the runtime and all extensions have asked for their Next.
abbrev pub is_ready : Visit → Bool
is_ready v =
    ready (parked (history_with v) (generation_with v) TheRuntime) (members_with v) (expected_at v.config v.environment)

-- Whether the invocation at hand still waits for its answer after the first answers of the entry.
abbrev pub waits : Visit → Bool
waits v = is_some (request_at v.config (history_with v) v.environment (at_hand (phase_by_table v)))

-- The life with which a new generation begins: it has no entries, and its phase is Starting, or Off after a Stop.
abbrev pub new_generation : Visit → Lifecycle
new_generation v = record {
  phase = reborn (stopped (history_with v)) v.entry.moment (bound_of (phase_by_table v));
  generation = [];
}

-- The life that continues in the present generation. Its phase is settled by whether the generation is ready, and
-- whether the invocation at hand still waits.
abbrev pub settled_life : Visit → Lifecycle
settled_life v = record {
  phase = settled (limit v) (is_ready v) (waits v) (phase_by_table v);
  generation = generation_with v;
}

-- The life after an entry that concerns the environment: that of a new generation if a Closing ends in the visit,
-- otherwise the settled one of the present generation.
unfoldable pub after : Visit → Lifecycle
after v = if ends_here v then new_generation v else settled_life v

-- The life after any entry. If the entry does not concern the environment, its life stays as it is.
unfoldable pub lived : Visit → Lifecycle
lived v = if concerns v.history v.environment v.entry then after v else v.found

-- The life of an environment after a history. It begins in Starting, without a deadline, and each entry continues it.
unfoldable pub life : Config → List Entry → ℕ → Lifecycle
life config [] e = record { phase = Starting None None; generation = [] }
life config (entry ∷ h) e =
    lived (record { config = config; environment = e; history = h; found = life config h e; entry = entry })

-- The phase of an environment after a history.
abbrev pub phase : Config → List Entry → ℕ → Phase
phase config h e = (life config h e).phase

-- The stand of an environment: what a history says of it.
abbrev pub stand : Config → List Entry → ℕ → Stand
stand config h e = seen config h e (life config h e)

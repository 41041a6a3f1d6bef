-- The first stage of a call, in steps: what it results in, the answers that it gives, and the extension that it adds.
use Rattle.std.specs.Prelude.{ℕ, ◌+◌, ◌++◌, Bool, if◌then◌else◌, ◌==◌, List, [], map, Option, Some, None, Ok, ◌≡◌}
use Rattle.call_types.specs.declared.answer.Answer.{Answer}
use Rattle.call_types.specs.declared.call.Call.{Call}
use Rattle.call_model.specs.Generation.{Member, Extension, TheRuntime, as_registered}
use Rattle.call_model.specs.Stand.{Stand, RuntimePoll, ExtensionPoll}
use Rattle.call_model.specs.Table.{own_answer, closes, is_registered}
use Rattle.environment_step.specs.After.{Step, fresh_members, give, give_each, waiting_call}
use Rattle.extension_set.specs.declared.turn.Turn.{Turn}
use Rattle.extension_set.specs.Registering.{admits}
use Rattle.extension_set.specs.Turns.{poll_gets_by_turn, next_after, member_after}

-- What a call results in at an environment in this state.
abbrev pub turn_of : Step → Stand → Call → Turn
turn_of step s call = record { ticket = step.ticket; now = step.now; own = own_answer s call; closes = closes s call }

-- The state after the parked Nexts are answered.
abbrev pub polled : Turn → Call → Stand → Stand
polled turn call s = record s {
  runtime = next_after TheRuntime turn call RuntimePoll s.runtime;
  members = map (member_after turn call) s.members;
}

-- The answers of the first stage; the waiting call gets `caller`.
abbrev pub answers : Turn → Option Answer → Call → Stand → List (ℕ × Answer)
answers turn caller call s =
    give (Some turn.ticket) turn.own
    (give_each (λ x. poll_gets_by_turn turn call (ExtensionPoll x) x.next) s.members
    (give s.runtime (poll_gets_by_turn turn call RuntimePoll s.runtime)
    (give (waiting_call s) caller [])))

-- The request count of the invocation at hand after a call: that of the call itself if it is an Invoke that is placed
-- now, `None` if the waiting call was answered, and otherwise the one before.
abbrev pub request_kept : Step → Bool → Option ℕ → Option ℕ → Option ℕ
request_kept step answered request None = None
request_kept step answered request (Some p) =
    if p == step.ticket then Some step.count else if answered then None else request

-- Either a call adds no extension, or the one that it adds may be registered.
abbrev pub IsWelcome : List Member → Option Extension → Type 0
IsWelcome xs None = Unit {0}
IsWelcome xs (Some x) = admits xs x.name ≡ Ok tt

-- The state with the extension that a call adds, if it adds one.
abbrev pub joined : Call → Option Answer → Stand → Stand
joined call own s = record s {
  members = fresh_members (as_registered call own) ++ s.members;
  registrations = (if is_registered own then 1 else 0) + s.registrations;
}

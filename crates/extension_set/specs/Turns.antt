-- What a call does to the parked Nexts of an environment, from what the call results in there (`Turn`).
use Rattle.std.specs.Prelude.{ℕ, ◌||◌, ◌&&◌, if◌then◌else◌, Option, Some, None}
use Rattle.call_types.specs.declared.answer.Answer.{Answer}
use Rattle.call_types.specs.declared.call.Call.{Call}
use Rattle.call_model.specs.History.{or_else}
use Rattle.call_model.specs.Generation.{Member, Actor, TheExtension, asks, is_ending, is_accepted, reports_exit}
use Rattle.call_model.specs.Stand.{Role, ExtensionPoll}
use Rattle.call_model.specs.Polls.{at_close, replaced}
use Rattle.environment_step.specs.After.{left, asked_now}
use Rattle.extension_set.specs.declared.turn.Turn.{Turn}

-- The answer to an actor's parked Next with ticket `u`, if there is one.
abbrev pub poll_gets_by_turn : Turn → Call → Role → Option ℕ → Option Answer
poll_gets_by_turn turn call role None = None
poll_gets_by_turn turn call role (Some u) = or_else (at_close turn.now turn.closes call role) (replaced u call role)

-- The answer to an actor's last Next, which may be the call itself.
abbrev pub actor_gets_by_turn : Actor → Turn → Call → Role → Option ℕ → Option Answer
actor_gets_by_turn actor turn call role next = if asks actor call then turn.own else poll_gets_by_turn turn call role next

-- The ticket of the actor's parked Next after the call.
abbrev pub next_after : Actor → Turn → Call → Role → Option ℕ → Option ℕ
next_after actor turn call role next =
    left (actor_gets_by_turn actor turn call role next) (asked_now actor call turn.ticket next)

-- The answer to an extension's last Next, which may be the call itself.
abbrev pub member_gets_by_turn : Turn → Call → Member → Option Answer
member_gets_by_turn turn call x = actor_gets_by_turn (TheExtension x.extension.count) turn call (ExtensionPoll x) x.next

-- An extension after the call.
abbrev pub member_after : Turn → Call → Member → Member
member_after turn call x = record {
  extension = x.extension;
  next = next_after (TheExtension x.extension.count) turn call (ExtensionPoll x) x.next;
  told = x.told || is_ending (member_gets_by_turn turn call x);
  again = x.again || (x.told && asks (TheExtension x.extension.count) call);
  exited = (reports_exit x.extension.count call && is_accepted turn.own) || x.exited;
}

-- What an environment is when it is opened, and after a call.
use Rattle.std.specs.Prelude.{ℕ, ◌*◌, ◌≤◌, length, Bool, true, false, ◌&&◌, List, [], Option, Some, None, is_none}
use Rattle.arn_ids.specs.declared.config.Function.{Function}
use Rattle.call_types.specs.declared.answer.Answer.{Answer}
use Rattle.call_types.specs.declared.answer.Phase.{Phase}
use Rattle.call_types.specs.declared.answer.Phase.TheVariants.{Starting, Off}
use Rattle.call_types.specs.declared.call.Call.{Call}
use Rattle.call_types.specs.declared.call.Call.TheVariants.{Register}
use Rattle.call_model.specs.Stand.{Stand, is_busy}
use Rattle.environment_step.specs.After.{Known, Step, stand_after, moves_of}
use Rattle.env_phase.specs.declared.step.Step.{Step as TheStep}

-- The state before any call.
abbrev pub unused : Stand
unused = record {
  phase = Starting None None;
  runtime = None;
  members = [];
  request = None;
  stopped = false;
  registrations = 0;
  events = 0;
}

-- An environment of a function before any call.
abbrev pub opened : Function → Known
opened function = record {
  fixed = record { timeout = 1000 * function.timeout_s; expected = function.extensions };
  stand = unused;
}

-- What a call comes with, as the definitions see it.
abbrev pub step_of : TheStep → Step
step_of step = record { ticket = step.ticket; now = step.now; count = step.count }

-- The name in a Register; `None` for every other call.
abbrev pub registered_name : Call → Option (List ℕ)
registered_name (Register e name invoke shutdown account) = Some name
registered_name _ = None

-- No name, or one of at most 128 bytes.
abbrev pub IsShort : Option (List ℕ) → Type 0
IsShort None = Unit {0}
IsShort (Some name) = length name ≤ 128

-- An environment after a call.
abbrev pub taken : Known → Step → Call → Known
taken known step call = record { fixed = known.fixed; stand = stand_after known.fixed step known.stand call }

-- The answers that a call gives at an environment, in rising order of tickets.
abbrev pub given : Known → Step → Call → List (ℕ × Answer)
given known step call = moves_of known.fixed step known.stand call

-- Whether a phase is Off, the last one.
abbrev pub is_off : Phase → Bool
is_off Off = true
is_off _ = false

-- Whether a phase is Busy with its invocation answered: the runtime and the extensions have not all asked for Next
-- again.
abbrev pub has_answered : Stand → Bool
has_answered s = is_busy s.phase && is_none s.request

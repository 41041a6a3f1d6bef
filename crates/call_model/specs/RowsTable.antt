-- The table of phases cell by cell, at one state for each of its columns: the answer to the call, why it makes the
-- environment close, and the answer to the waiting call.
use Rattle.std.specs.Prelude.{◌≡◌, ℕ, Bool, true, false, if◌then◌else◌, List, [], ◌∷◌, map, Option, Some, None, is_some}
use Rattle.std.specs.Prelude.{refl}
use Rattle.call_types.specs.declared.call.Call.{Call}
use Rattle.call_types.specs.declared.call.Call.TheVariants.{RuntimeNext, Response, ResponseTooLarge, Failure}
use Rattle.call_types.specs.declared.call.Call.TheVariants.{InitFailure, Register, ExtNext, ExtInitFailure}
use Rattle.call_types.specs.declared.call.Call.TheVariants.{ExtExitFailure, Tick, Spindown, Stop, Expire}
use Rattle.call_types.specs.declared.answer.Answer.{Answer}
use Rattle.call_types.specs.declared.answer.Answer.TheVariants.{Ending, Registered, Accepted, Output, Error, TimedOut}
use Rattle.call_types.specs.declared.answer.Answer.TheVariants.{InitTimedOut, OutputTooLarge, Stopped, Refused}
use Rattle.call_types.specs.declared.answer.Rejection.TheVariants.{State, BadId, Unknown, TooLarge, Container}
use Rattle.call_types.specs.declared.answer.Rejection.TheVariants.{NameInUse, NotIdle}
use Rattle.call_types.specs.declared.answer.Reason.{Reason}
use Rattle.call_types.specs.declared.answer.Reason.TheVariants.{Timeout, Failure as Failed, Spindown as SpunDown}
use Rattle.call_types.specs.declared.answer.Phase.{Phase}
use Rattle.call_types.specs.declared.answer.Phase.TheVariants.{Starting, Idle, Busy, Closing, Off}
use Rattle.call_model.specs.Generation.{Member}
use Rattle.call_model.specs.Stand.{Stand}
use Rattle.call_model.specs.Table.{own_answer, closes, to_waiting}
use Rattle.call_model.specs.Sample.{name_a, name_b}

-- The extension a, whose identifier has the count 1: it is registered for INVOKE and SHUTDOWN, and its Next is parked.
abbrev extension : Member
extension = record {
  extension = record { count = 1; name = name_a; invoke = true; shutdown = true };
  next = Some 2;
  told = false;
  again = false;
  exited = false;
}

-- The state of an environment with this phase, these extensions, the count of the waiting call's request, and whether
-- the service was stopped. Three extensions were registered so far.
abbrev stand : Phase → List Member → Option ℕ → Bool → Stand
stand phase members request stopped = record {
  phase = phase;
  runtime = None;
  members = members;
  request = request;
  stopped = stopped;
  registrations = 3;
  events = 0;
}

-- The states for the columns of the table: Starting, Idle, Busy unanswered, Busy answered, Closing and Off. The request
-- of the waiting call has the count 7.
abbrev columns : List Stand
columns =
    stand (Starting (Some 10000) (Some 5)) (extension ∷ []) (Some 7) false ∷ stand Idle (extension ∷ []) None false
    ∷ stand (Busy 5 3000) (extension ∷ []) (Some 7) false ∷ stand (Busy 5 3000) (extension ∷ []) None false
    ∷ stand (Closing Failed 2000 (Some 5)) (extension ∷ []) (Some 7) false ∷ stand Off [] None true ∷ []

-- What a cell gives at a state: the answer to the call, why the environment closes, and the answer to the waiting call.
abbrev Effect : Type 0
Effect = Option Answer × Option Reason × Option Answer

-- What the cells of a call's row give at each of the columns. The ticket of the call is 9.
unfoldable effects : Call → List Effect
unfolding own_answer closes to_waiting
effects call =
    map (λ s. (own_answer s call, closes s call, if is_some s.request then to_waiting 9 s call else None)) columns

-- The call parks, or gives nothing here.
abbrev nothing : Effect
nothing = (None, None, None)

-- The call is answered.
abbrev answer : Answer → Effect
answer a = (Some a, None, None)

-- The call is answered, and so is the waiting call.
abbrev both : Answer → Answer → Effect
both a b = (Some a, None, Some b)

-- The call is accepted, the environment closes after a failure, and the waiting call gets an error.
abbrev fails : Effect
fails = (Some Accepted, Some Failed, Some (Error 9))

-- The call is accepted, and the environment closes; no call waits.
abbrev closing : Reason → Effect
closing reason = (Some Accepted, Some reason, None)

-- The clock or a Stop closes the environment, and the waiting call is answered.
abbrev ending : Reason → Answer → Effect
ending reason a = (None, Some reason, Some a)

-- The clock or a Stop closes the environment; no call waits.
abbrev ends : Reason → Effect
ends reason = (None, Some reason, None)

-- The call is refused, because the phase does not allow it.
abbrev state : Effect
state = answer (Refused State)

-- The call is refused, because its extension is not registered.
abbrev unknown : Effect
unknown = answer (Refused Unknown)

-- The call is refused, because the environment is closing or off.
abbrev container : Effect
container = answer (Refused Container)

-- The spindown is refused, because the environment is not idle.
abbrev not_idle : Effect
not_idle = answer (Refused NotIdle)

runtime_next : effects (RuntimeNext 1) ≡ (nothing ∷ nothing ∷ state ∷ nothing ∷ container ∷ container ∷ [])
unfolding effects
runtime_next = refl

response : effects (Response 1 7 []) ≡ (state ∷ state ∷ both Accepted (Output 9) ∷ state ∷ state ∷ container ∷ [])
unfolding effects
response = refl

response_to_another : effects (Response 1 6 [])
    ≡ (state ∷ state ∷ answer (Refused BadId) ∷ state ∷ state ∷ container ∷ [])
unfolding effects
response_to_another = refl

response_too_large : effects (ResponseTooLarge 1 7)
    ≡ (state ∷ state ∷ both (Refused TooLarge) OutputTooLarge ∷ state ∷ state ∷ container ∷ [])
unfolding effects
response_too_large = refl

response_too_large_to_another : effects (ResponseTooLarge 1 6)
    ≡ (state ∷ state ∷ answer (Refused BadId) ∷ state ∷ state ∷ container ∷ [])
unfolding effects
response_too_large_to_another = refl

failure : effects (Failure 1 7 []) ≡ (state ∷ state ∷ both Accepted (Error 9) ∷ state ∷ state ∷ container ∷ [])
unfolding effects
failure = refl

failure_of_another : effects (Failure 1 6 [])
    ≡ (state ∷ state ∷ answer (Refused BadId) ∷ state ∷ state ∷ container ∷ [])
unfolding effects
failure_of_another = refl

init_failure : effects (InitFailure 1 []) ≡ (fails ∷ state ∷ state ∷ state ∷ state ∷ container ∷ [])
unfolding effects
init_failure = refl

register : effects (Register 1 name_b true true false)
    ≡ (answer (Registered 4) ∷ state ∷ state ∷ state ∷ state ∷ container ∷ [])
unfolding effects
register = refl

register_again : effects (Register 1 name_a true true false)
    ≡ (answer (Refused NameInUse) ∷ state ∷ state ∷ state ∷ state ∷ container ∷ [])
unfolding effects
register_again = refl

ext_next : effects (ExtNext 1 1)
    ≡ (nothing ∷ nothing ∷ nothing ∷ nothing ∷ answer (Ending Failed 2000 0) ∷ container ∷ [])
unfolding effects
ext_next = refl

ext_next_unknown : effects (ExtNext 1 2) ≡ (unknown ∷ unknown ∷ unknown ∷ unknown ∷ unknown ∷ container ∷ [])
unfolding effects
ext_next_unknown = refl

ext_init_failure : effects (ExtInitFailure 1 1 []) ≡ (fails ∷ state ∷ state ∷ state ∷ state ∷ container ∷ [])
unfolding effects
ext_init_failure = refl

ext_init_failure_unknown : effects (ExtInitFailure 1 2 [])
    ≡ (unknown ∷ unknown ∷ unknown ∷ unknown ∷ unknown ∷ container ∷ [])
unfolding effects
ext_init_failure_unknown = refl

ext_exit_failure : effects (ExtExitFailure 1 1 [])
    ≡ (fails ∷ closing Failed ∷ fails ∷ closing Failed ∷ answer Accepted ∷ container ∷ [])
unfolding effects
ext_exit_failure = refl

ext_exit_failure_unknown : effects (ExtExitFailure 1 2 [])
    ≡ (unknown ∷ unknown ∷ unknown ∷ unknown ∷ unknown ∷ container ∷ [])
unfolding effects
ext_exit_failure_unknown = refl

spindown : effects (Spindown 1) ≡ (not_idle ∷ closing SpunDown ∷ not_idle ∷ not_idle ∷ not_idle ∷ not_idle ∷ [])
unfolding effects
spindown = refl

expire : effects (Expire 1)
    ≡ (ending Timeout InitTimedOut ∷ nothing ∷ ending Timeout TimedOut ∷ ends Timeout ∷ nothing ∷ nothing ∷ [])
unfolding effects
expire = refl

stop : effects Stop
    ≡ (ending SpunDown Stopped ∷ ends SpunDown ∷ ending SpunDown Stopped ∷ ends SpunDown ∷ (None, None, Some Stopped)
    ∷ nothing ∷ [])
unfolding effects
stop = refl

tick : effects Tick ≡ (nothing ∷ nothing ∷ nothing ∷ nothing ∷ nothing ∷ nothing ∷ [])
unfolding effects
tick = refl

-- The table of phases: what each call does to an environment in each of its phases.
-- (Lambda Developer Guide, "Understanding the Lambda execution environment lifecycle"; Runtime API; Extensions API)
use Rattle.std.specs.Prelude.{ℕ, suc, ◌+◌, Bool, true, false, not, ◌&&◌, if◌then◌else◌, nat_le, List, length, Option}
use Rattle.std.specs.Prelude.{Some, None, is_some, bytes_eq}
use Rattle.std.specs.List.{list_any, find}
use Rattle.arn_ids.specs.Limits.{most_extensions}
use Rattle.call_types.specs.declared.call.Call.{Call}
use Rattle.call_types.specs.declared.call.Call.TheVariants.{Invoke, RuntimeNext, Response, ResponseTooLarge, Failure}
use Rattle.call_types.specs.declared.call.Call.TheVariants.{InitFailure, Register, ExtNext, ExtInitFailure}
use Rattle.call_types.specs.declared.call.Call.TheVariants.{ExtExitFailure, Spindown, Stop, Expire}
use Rattle.call_types.specs.declared.answer.Answer.{Answer}
use Rattle.call_types.specs.declared.answer.Answer.TheVariants.{Ending, Registered, Accepted, Output, Error, TimedOut}
use Rattle.call_types.specs.declared.answer.Answer.TheVariants.{InitTimedOut, OutputTooLarge, Stopped, Refused}
use Rattle.call_types.specs.declared.answer.Rejection.{Rejection}
use Rattle.call_types.specs.declared.answer.Rejection.TheVariants.{State, BadId, Unknown, TooLarge, Container}
use Rattle.call_types.specs.declared.answer.Rejection.TheVariants.{NameInUse, TooMany, NotIdle}
use Rattle.call_types.specs.declared.answer.Reason.{Reason}
use Rattle.call_types.specs.declared.answer.Reason.TheVariants.{Timeout, Failure as Failed, Spindown as SpunDown}
use Rattle.call_types.specs.declared.answer.Phase.{Phase}
use Rattle.call_types.specs.declared.answer.Phase.TheVariants.{Starting, Idle, Busy, Closing, Off}
use Rattle.call_model.specs.Generation.{Member, hears_end, has_count}
use Rattle.call_model.specs.Stand.{Stand, is_known, is_number}

-- A cell of the table: what a call does in a phase.
pub record Cell : Type 0 where
  -- The answer to the call itself, if it gets one now. An event in it gets its number later.
  pub own : Option Answer
  -- The answer to the waiting call, if there is such a call. It is a function of the ticket of the call that is taken,
  -- because an output or an error names the ticket whose call has its bytes.
  pub waiting : ℕ → Option Answer
  -- Why the environment closes, if it does.
  -- (life cycle: reset after a timeout, a failed Init or a failed extension; a spindown)
  pub close : Option Reason

-- Selects the cell of a row for a phase. Busy has two cells: one while its invocation waits for its answer, one after
-- that.
abbrev pub by_phase : {A : Type 0} → A → A → A → A → A → A → Stand → Phase → A
by_phase starting idle unanswered answered closing off s (Starting d bound) = starting
by_phase starting idle unanswered answered closing off s Idle = idle
by_phase starting idle unanswered answered closing off s (Busy p d) = if is_some s.request then unanswered else answered
by_phase starting idle unanswered answered closing off s (Closing reason until bound) = closing
by_phase starting idle unanswered answered closing off s Off = off

-- The cell of a row for the phase that an environment is in. The cells of a row are those for Starting, Idle, Busy with
-- its invocation unanswered, Busy with it answered, Closing and Off.
abbrev pub row : {A : Type 0} → Stand → A → A → A → A → A → A → A
row s starting idle unanswered answered closing off = by_phase starting idle unanswered answered closing off s s.phase

-- The answer that refuses a call, for a reason.
abbrev pub refused : Rejection → Option Answer
refused kind = Some (Refused kind)

-- A cell that at most answers the call itself: it gives the waiting call no answer and does not close the environment.
abbrev pub only : Option Answer → Cell
only a = record { own = a; waiting = λ ticket. None; close = None }

-- The Next parks: it gets no answer yet.
abbrev pub parks : Cell
parks = only None

-- The call gives no answer here and closes nothing.
abbrev pub nothing : Cell
nothing = only None

-- The call is accepted.
abbrev pub accepted : Cell
accepted = only (Some Accepted)

-- The call is refused, because the phase does not allow it.
abbrev pub refused_state : Cell
refused_state = only (refused State)

-- The call is refused, because the environment is closing or off.
abbrev pub refused_container : Cell
refused_container = only (refused Container)

-- The spindown is refused, because the environment is not idle.
abbrev pub not_idle : Cell
not_idle = only (refused NotIdle)

-- The report is refused, because it names an invocation other than the open one.
abbrev pub bad_id : Cell
bad_id = only (refused BadId)

-- The call is refused, because its extension is not registered in the present generation.
abbrev pub unknown : Cell
unknown = only (refused Unknown)

-- The response is accepted, and the waiting call gets it as its output.
abbrev pub gets_output : Cell
gets_output = record { own = Some Accepted; waiting = λ ticket. Some (Output ticket); close = None }

-- The response is refused as too large, and the waiting call is answered that its output was too large.
abbrev pub too_large : Cell
too_large = record { own = refused TooLarge; waiting = λ ticket. Some OutputTooLarge; close = None }

-- The failure is accepted, and the waiting call gets it as an error.
abbrev pub gets_error : Cell
gets_error = record { own = Some Accepted; waiting = λ ticket. Some (Error ticket); close = None }

-- The failure is accepted, the waiting call gets it as an error, and the environment closes.
abbrev pub fails : Cell
fails = record { own = Some Accepted; waiting = λ ticket. Some (Error ticket); close = Some Failed }

-- The time of an Init is over: the waiting call gets an Init timeout, and the environment closes.
abbrev pub init_times_out : Cell
init_times_out = record { own = None; waiting = λ ticket. Some InitTimedOut; close = Some Timeout }

-- The time of an invocation is over: the waiting call gets a timeout, and the environment closes.
abbrev pub times_out : Cell
times_out = record { own = None; waiting = λ ticket. Some TimedOut; close = Some Timeout }

-- The spindown is accepted, and the idle environment closes.
abbrev pub spins_down : Cell
spins_down = record { own = Some Accepted; waiting = λ ticket. None; close = Some SpunDown }

-- The service stops: the waiting call is answered that it was stopped, and the environment closes.
abbrev pub stops : Cell
stops = record { own = None; waiting = λ ticket. Some Stopped; close = Some SpunDown }

-- The service stops while the environment is closing or off: only the waiting call is answered.
abbrev pub tells_stopped : Cell
tells_stopped = record { own = None; waiting = λ ticket. Some Stopped; close = None }

-- The given cell if a report names the open invocation, by the count in its request identifier; otherwise the report is
-- refused.
-- (Runtime API: AwsRequestId)
abbrev pub if_named : Stand → ℕ → Cell → Cell
if_named s id cell = if is_number s.request id then cell else bad_id

-- The answer to a Register: it is refused if its name is in use, otherwise if there are as many extensions as there may be.
-- (Extensions API: Register)
abbrev pub register : Stand → List ℕ → Answer
register s name =
    if list_any (λ x. bytes_eq name x.extension.name) s.members then Refused NameInUse
    else if nat_le most_extensions (length s.members) then Refused TooMany
    else Registered (suc s.registrations)

-- The cell of a Register in Starting.
abbrev pub registers : Stand → List ℕ → Cell
registers s name = only (Some (register s name))

-- The answer to an extension's Next in Closing. If the extension is registered for SHUTDOWN, has not exited and was not
-- notified before, it is notified of the shutdown; otherwise its Next is refused.
-- (Extensions API: Shutdown event)
abbrev pub next_in_closing : Option Member → Phase → Option Answer
next_in_closing (Some x) (Closing reason until bound) =
    if hears_end x && not x.told
    then Some (Ending reason until 0)
    else refused Container
next_in_closing _ _ = refused Container

-- The same answer, for the extension whose identifier has the count x.
abbrev pub told_in_closing : Stand → ℕ → Option Answer
told_in_closing s x = next_in_closing (find (has_count x) s.members) s.phase

-- The cell of an extension's Next in Closing.
abbrev pub told_once : Stand → ℕ → Cell
told_once s x = only (told_in_closing s x)

-- The row of a call by an extension. An extension that is not registered in the present generation is unknown; in Off
-- no extension is registered, and the call is refused because the environment is off.
abbrev pub extension_row : Stand → ℕ → Cell → Cell → Cell → Cell → Cell → Cell
extension_row s x starting idle unanswered answered closing =
    if is_known s x
    then row s starting idle unanswered answered closing refused_container
    else row s unknown unknown unknown unknown unknown refused_container

-- The row of a report on the open invocation, with the given cell while that invocation waits for its answer.
abbrev pub report_row : Stand → ℕ → Cell → Cell
report_row s id cell =
    row s refused_state refused_state (if_named s id cell) refused_state refused_state refused_container

-- The table: a row for each call. In every phase a second Stop and a call without a row give no answer here and close
-- nothing.
-- The columns: Starting, Idle, Busy with its invocation unanswered, Busy with it answered, Closing, Off.
abbrev pub table : Stand → Call → Cell
table s (RuntimeNext e) = row s parks parks refused_state parks refused_container refused_container
table s (Response e id body) = report_row s id gets_output
table s (ResponseTooLarge e id) = report_row s id too_large
table s (Failure e id body) = report_row s id gets_error
table s (InitFailure e body) = row s fails refused_state refused_state refused_state refused_state refused_container
table s (Register e name invoke shutdown account) =
    row s (registers s name) refused_state refused_state refused_state refused_state refused_container
table s (ExtNext e x) = extension_row s x parks parks parks parks (told_once s x)
table s (ExtInitFailure e x body) = extension_row s x fails refused_state refused_state refused_state refused_state
table s (ExtExitFailure e x body) = extension_row s x fails fails fails fails accepted
table s (Spindown e) = row s not_idle spins_down not_idle not_idle not_idle not_idle
table s (Expire e) = row s init_times_out nothing times_out times_out nothing nothing
table s Stop = if s.stopped then nothing else row s stops stops stops stops tells_stopped tells_stopped
table s _ = nothing

-- The answer to the call itself, if the table has one.
unfoldable pub own_answer : Stand → Call → Option Answer
own_answer s call = (table s call).own

-- Why a call makes the environment close, if it does.
unfoldable pub closes : Stand → Call → Option Reason
closes s call = (table s call).close

-- The answer that the waiting call gets when a call with this ticket is taken, if it gets one.
unfoldable pub to_waiting : ℕ → Stand → Call → Option Answer
to_waiting ticket s call = (table s call).waiting ticket

-- The deadline of an Init: the one that is set already; otherwise 10 s from now, its first contact.
-- (life cycle: Init phase)
abbrev pub init_limit : ℕ → Option ℕ → Option ℕ
init_limit now None = Some (now + 10000)
init_limit now (Some d) = Some d

-- The phase after a contact: the first one of a Starting environment sets the deadline of its Init.
abbrev pub clock_started : ℕ → Phase → Phase
clock_started now (Starting d bound) = Starting (init_limit now d) bound
clock_started now phase = phase

-- The phase after an Invoke with ticket p is placed in the environment. The limit is the deadline of a Busy that begins
-- now.
abbrev pub placed : ℕ → ℕ → ℕ → Phase → Phase
placed now limit p Idle = Busy p limit
placed now limit p (Starting d bound) = Starting (init_limit now d) (Some p)
placed now limit p (Closing reason until bound) = Closing reason until (Some p)
placed now limit p phase = phase

-- A Closing without its bound invocation; any other phase is unchanged.
abbrev pub unbound : Phase → Phase
unbound (Closing reason until bound) = Closing reason until None
unbound phase = phase

-- Whether an answer says that an extension was registered.
abbrev pub is_registered : Option Answer → Bool
is_registered (Some (Registered count)) = true
is_registered _ = false

-- The phase after a call with ticket t, if the call does not close the environment.
unfoldable pub kept : ℕ → ℕ → ℕ → Stand → Call → Phase
kept now limit t s (Invoke f qualified trace body) = placed now limit t s.phase
kept now limit t s (RuntimeNext e) = clock_started now s.phase
kept now limit t s (ExtNext e x) = if is_known s x then clock_started now s.phase else s.phase
kept now limit t s (Register e name invoke shutdown account) =
    if is_registered (own_answer s (Register e name invoke shutdown account))
    then clock_started now s.phase
    else s.phase
kept now limit t s Stop = if s.stopped then s.phase else unbound s.phase
kept now limit t s _ = s.phase

-- The phase after a call that may close the environment. If it does, the extensions have 2 s to shut down.
-- (life cycle: Shutdown phase)
abbrev pub or_closing : ℕ → Option Reason → Phase → Phase
or_closing now None phase = phase
or_closing now (Some reason) phase = Closing reason (now + 2000) None

-- The phase after a call by its cell of the table, before it is known whether the actors are ready (`settled`) or a
-- Closing has ended (`reborn`).
abbrev pub after_cell : ℕ → ℕ → ℕ → Stand → Call → Phase
after_cell now limit t s call = or_closing now (closes s call) (kept now limit t s call)

-- The phase after a Closing has ended. After a Stop it is Off. Otherwise a new generation is Starting: if an invocation
-- is bound, its Init has 10 s from now, and if not, it has no deadline yet.
abbrev pub reborn : Bool → ℕ → Option ℕ → Phase
reborn true now bound = Off
reborn false now None = Starting None None
reborn false now (Some p) = Starting (Some (now + 10000)) (Some p)

-- The phase at the end of an entry, from the phase that the table gives. `ready` says that all actors have asked for
-- Next, and `waits` that the invocation at hand still waits for its answer.
-- (life cycle: Init and Invoke end when the runtime and all extensions have asked for Next)
abbrev pub settled : ℕ → Bool → Bool → Phase → Phase
settled limit true waits (Starting d None) = Idle
settled limit true waits (Starting d (Some p)) = Busy p limit
settled limit true false (Busy p d) = Idle
settled limit false waits Idle = Starting None None
settled limit ready waits phase = phase

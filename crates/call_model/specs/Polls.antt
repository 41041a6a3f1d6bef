-- The answers that an entry gives to the older tickets of an environment: to the parked Nexts and to the waiting call.
use Rattle.std.specs.Prelude.{ℕ, ◌+◌, not, ◌&&◌, if◌then◌else◌, ◌==◌, Option, Some, None}
use Rattle.call_types.specs.declared.call.Call.{Call}
use Rattle.call_types.specs.declared.call.Call.TheVariants.{RuntimeNext, ExtNext, Withdraw}
use Rattle.call_types.specs.declared.answer.Answer.{Answer}
use Rattle.call_types.specs.declared.answer.Answer.TheVariants.{Delivered, Told, Ending, Withdrawn}
use Rattle.call_types.specs.declared.answer.Rejection.TheVariants.{Replaced, Container}
use Rattle.call_types.specs.declared.answer.Reason.{Reason}
use Rattle.call_types.specs.declared.answer.Phase.{Phase}
use Rattle.call_types.specs.declared.answer.Phase.TheVariants.{Busy}
use Rattle.call_model.specs.History.{or_else}
use Rattle.call_model.specs.Generation.{hears_end, reports_exit}
use Rattle.call_model.specs.Stand.{Stand, Role, NoRole, Waiting, RuntimePoll, ExtensionPoll}
use Rattle.call_model.specs.Table.{refused, closes, to_waiting}

-- The answer to a parked Next if the call closes the environment. An extension that is registered for SHUTDOWN, has not
-- exited and is not just reporting its own exit is notified of the shutdown and of its deadline, 2 s from now; every
-- other parked Next is refused.
-- (Extensions API: Shutdown event)
abbrev pub at_close : ℕ → Option Reason → Call → Role → Option Answer
at_close now (Some reason) call RuntimePoll = refused Container
at_close now (Some reason) call (ExtensionPoll x) =
    if hears_end x && not (reports_exit x.extension.count call)
    then Some (Ending reason (now + 2000) 0)
    else refused Container
at_close now _ call _ = None

-- The answer to a parked Next with ticket t if the call replaces it or takes it back: a newer Next of the same actor
-- replaces it, and a Withdraw takes back the Next that it names.
abbrev pub replaced : (t : ℕ) → Call → Role → Option Answer
replaced t (RuntimeNext e) RuntimePoll = refused Replaced
replaced t (ExtNext e x) (ExtensionPoll y) = if y.extension.count == x then refused Replaced else None
replaced t (Withdraw u) RuntimePoll = if u == t then Some Withdrawn else None
replaced t (Withdraw u) (ExtensionPoll y) = if u == t then Some Withdrawn else None
replaced t call role = None

-- The answer that an older ticket t gets, by its role, from a call that is taken with the given ticket at `now`.
abbrev pub by_role : (ticket now : ℕ) → Stand → Call → (t : ℕ) → Role → Option Answer
by_role ticket now s call t NoRole = None
by_role ticket now s call t Waiting = to_waiting ticket s call
by_role ticket now s call t role = or_else (at_close now (closes s call) call role) (replaced t call role)

-- The ticket and the deadline of the invocation of a Busy that begins between two phases, if one does.
abbrev pub begun : Phase → Phase → Option (ℕ × ℕ)
begun (Busy q b) phase = None
begun _ (Busy p d) = Some (p, d)
begun _ _ = None

-- The answer to a parked Next if a Busy begins: the runtime's Next delivers the invocation, and each extension that is
-- registered for INVOKE is notified of it.
-- (Runtime API: Next invocation; Extensions API: Invoke event)
abbrev pub delivered : Option (ℕ × ℕ) → Role → Option Answer
delivered (Some b) RuntimePoll = Some (Delivered b.0 b.1)
delivered (Some b) (ExtensionPoll x) = if x.extension.invoke then Some (Told b.0 b.1 0) else None
delivered _ _ = None

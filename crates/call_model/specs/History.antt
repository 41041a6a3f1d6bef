-- A history is the list of all entries of an account, the newest first. An entry is one call with what it caused. The
-- ticket of a call is the number of older entries: 0 for the first call.
use Rattle.std.specs.Prelude.{ℕ, Bool, true, false, not, ◌&&◌, if◌then◌else◌, ◌==◌, nat_lt, List, [], ◌∷◌, length}
use Rattle.std.specs.Prelude.{Option, Some, None, count_by, is_some}
use Rattle.std.specs.List.{list_any}
use Rattle.call_types.specs.declared.call.Call.{Call}
use Rattle.call_types.specs.declared.call.Call.TheVariants.{Invoke, RuntimeNext, ExtNext, Stop, Expire}
use Rattle.call_types.specs.declared.call.Entry.{Entry}
use Rattle.call_types.specs.declared.answer.Answer.{Answer}

-- The answer that a list of pairs (ticket, answer) has for a ticket, if it has one.
abbrev pub answer_in : List (ℕ × Answer) → ℕ → Option Answer
answer_in [] t = None
answer_in (a ∷ rest) t = if a.0 == t then Some a.1 else answer_in rest t

-- The first of two options if it has a value, otherwise the second.
abbrev pub or_else : {A : Type 0} → Option A → Option A → Option A
or_else None b = b
or_else (Some a) b = Some a

-- The answer that a ticket got, in its own entry or a later one; `None` while it has no answer.
abbrev pub answer_of : List Entry → ℕ → Option Answer
answer_of [] t = None
answer_of (entry ∷ h) t = or_else (answer_in entry.answers t) (answer_of h t)

-- Whether an entry of the history answers a ticket.
abbrev pub answered : List Entry → ℕ → Bool
answered h t = is_some (answer_of h t)

-- The call with a ticket, or `Expire 0` if the ticket is not in the history.
abbrev pub call_of : List Entry → ℕ → Call
call_of [] t = Expire 0
call_of (entry ∷ h) t = if t == length h then entry.call else call_of h t

-- The environment where the call with a ticket was placed. Only an admitted Invoke has one.
abbrev pub place_of : List Entry → ℕ → Option ℕ
place_of [] t = None
place_of (entry ∷ h) t = if t == length h then entry.place else place_of h t

-- Whether a call is an expiry, which the service itself enters when the deadline of an environment comes. Its own
-- ticket gets no answer.
abbrev pub is_expiry : Call → Bool
is_expiry (Expire e) = true
is_expiry _ = false

-- Whether a ticket is pending: its call is not an expiry, and no entry answers it yet. A pending call is an invocation
-- whose caller waits, or a parked Next (a long poll of the Runtime API or the Extensions API).
abbrev pub pending : List Entry → ℕ → Bool
pending h t = not (is_expiry (call_of h t)) && not (answered h t)

-- Whether a call is a Stop, which shuts the service down.
abbrev pub is_stop : Call → Bool
is_stop Stop = true
is_stop _ = false

-- Whether the service was stopped: the history has a Stop.
abbrev pub stopped : List Entry → Bool
stopped h = list_any (λ entry. is_stop entry.call) h

-- The entries of a history with their tickets, the newest first.
abbrev pub with_tickets : List Entry → List (ℕ × Entry)
with_tickets [] = []
with_tickets (entry ∷ h) = (length h, entry) ∷ with_tickets h

-- Whether a call is an Invoke of function f.
abbrev pub is_invoke_of : ℕ → Call → Bool
is_invoke_of f (Invoke g qualified trace body) = g == f
is_invoke_of f _ = false

-- The number of Invokes of a function in a history, including those that were throttled or came after a Stop. It is the
-- count in the request identifier of the newest one. (Runtime API: Lambda-Runtime-Aws-Request-Id)
abbrev pub requests : List Entry → ℕ → ℕ
requests h f = count_by (λ entry. is_invoke_of f entry.call) h

-- The history up to and including the entry with a ticket: what it was once that call had been taken.
abbrev pub upto : List Entry → ℕ → List Entry
upto [] t = []
upto (entry ∷ h) t = if nat_lt t (length h) then upto h t else entry ∷ h

-- The environment of a Next, of the runtime or of an extension; `None` for any other call.
abbrev pub poll_env : Call → Option ℕ
poll_env (RuntimeNext e) = Some e
poll_env (ExtNext e x) = Some e
poll_env _ = None

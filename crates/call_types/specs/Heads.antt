-- The head of a call: its variant, the number of its function or environment (0 if it names neither), and its count
-- (`None` if it has none).
use Rattle.std.specs.Prelude.{ℕ, Option, Some, None}
use Rattle.call_types.specs.declared.call.Call.{Call}
use Rattle.call_types.specs.declared.call.Call.TheVariants.{Invoke, RuntimeNext, Response, ResponseTooLarge, Failure}
use Rattle.call_types.specs.declared.call.Call.TheVariants.{InitFailure, Register, ExtNext, ExtInitFailure}
use Rattle.call_types.specs.declared.call.Call.TheVariants.{ExtExitFailure, Tick, Withdraw, Spindown, Stop}
use Rattle.call_types.specs.declared.call.Call.TheVariants.{Expire, Reserve}
use Rattle.call_types.specs.declared.head.Head.{Head}
use Rattle.call_types.specs.declared.head.Kind.{Kind}
use Rattle.call_types.specs.declared.head.Kind.TheVariants as kind

-- The head with these three parts.
abbrev pub head : Kind → ℕ → Option ℕ → Head
head kind number count = record { kind = kind; number = number; count = count }

-- The head of a call. Its count is the one in a request or extension identifier, a ticket, or a reservation.
abbrev pub head_of : Call → Head
head_of (Invoke f qualified trace body) = head kind.Invoke f None
head_of (RuntimeNext e) = head kind.RuntimeNext e None
head_of (Response e id body) = head kind.Response e (Some id)
head_of (ResponseTooLarge e id) = head kind.ResponseTooLarge e (Some id)
head_of (Failure e id body) = head kind.Failure e (Some id)
head_of (InitFailure e body) = head kind.InitFailure e None
head_of (Register e name invoke shutdown account) = head kind.Register e None
head_of (ExtNext e x) = head kind.ExtNext e (Some x)
head_of (ExtInitFailure e x body) = head kind.ExtInitFailure e (Some x)
head_of (ExtExitFailure e x body) = head kind.ExtExitFailure e (Some x)
head_of Tick = head kind.Tick 0 None
head_of (Withdraw t) = head kind.Withdraw 0 (Some t)
head_of (Spindown e) = head kind.Spindown e None
head_of Stop = head kind.Stop 0 None
head_of (Expire e) = head kind.Expire e None
head_of (Reserve f count) = head kind.Reserve f count

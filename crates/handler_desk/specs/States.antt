-- What may be handed over at once, and for how long a handler is waited for.
use Rattle.std.specs.Prelude.{◌≡◌, ℕ, Bool, true, false, Option, is_some}
use Rattle.handover.specs.declared.fault.PutFault.{PutFault}
use Rattle.handler_desk.specs.declared.state.NotPut.{NotPut}
use Rattle.handler_desk.specs.declared.state.NotPut.TheVariants.{NoHandler, TooMany, OutOfMemory}
use Rattle.handover.specs.declared.counter.Limits.{Limits}

-- 1,024 requests, those that wait and those at handlers; 64 MiB of those that wait.
abbrev pub limits : Limits
limits = record { most = 1024; most_bytes = 67108864 }

-- 5 seconds, in milliseconds.
abbrev pub grace : ℕ
grace = 5000

-- Why a request does not wait, by whether a handler is here, and by what the counter has against the request: no handler
-- is; one is, and the counter refuses the request; or one is, and memory was refused.
abbrev pub IsRefused : Bool → Option PutFault → NotPut → Type 0
IsRefused is_here reason NoHandler = is_here ≡ false
IsRefused is_here reason TooMany = (is_here ≡ true) × (is_some reason ≡ true)
IsRefused is_here reason OutOfMemory = (is_here ≡ true) × (is_some reason ≡ false)

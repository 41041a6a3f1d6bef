-- What a call names, and the bytes that it carries.
use Rattle.std.specs.Prelude.{ℕ, Bool, true, false, List, [], Option, Some, None}
use Rattle.call_types.specs.declared.call.Call.{Call}
use Rattle.call_types.specs.declared.call.Call.TheVariants.{Invoke, RuntimeNext, Response, ResponseTooLarge, Failure}
use Rattle.call_types.specs.declared.call.Call.TheVariants.{InitFailure, Register, ExtNext, ExtInitFailure}
use Rattle.call_types.specs.declared.call.Call.TheVariants.{ExtExitFailure, Spindown, Expire}

-- Whether the call is an Invoke of a caller.
abbrev pub is_invoke : Call → Bool
is_invoke (Invoke f qualified trace body) = true
is_invoke _ = false

-- The number of the function that an Invoke names; `None` for every other call.
abbrev pub invoked : Call → Option ℕ
invoked (Invoke f qualified trace body) = Some f
invoked _ = None

-- The number of the environment that a call names, or `None` if it names none.
abbrev pub env_of : Call → Option ℕ
env_of (RuntimeNext e) = Some e
env_of (Response e id body) = Some e
env_of (ResponseTooLarge e id) = Some e
env_of (Failure e id body) = Some e
env_of (InitFailure e body) = Some e
env_of (Register e name invoke shutdown account) = Some e
env_of (ExtNext e x) = Some e
env_of (ExtInitFailure e x body) = Some e
env_of (ExtExitFailure e x body) = Some e
env_of (Spindown e) = Some e
env_of (Expire e) = Some e
env_of _ = None

-- The bytes that a call carries: a payload, an output or a report. Empty for a call that carries none.
abbrev pub body_of : Call → List ℕ
body_of (Invoke f qualified trace body) = body
body_of (Response e id body) = body
body_of (Failure e id body) = body
body_of (InitFailure e body) = body
body_of (ExtInitFailure e x body) = body
body_of (ExtExitFailure e x body) = body
body_of _ = []

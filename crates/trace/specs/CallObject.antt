-- The object of a call. Its members are the arguments of its line in a script, by their names.
use Rattle.std.specs.Prelude.{ℕ, Bool, List, [], ◌∷◌, codes, Option, Some, None}
use Rattle.arn_ids.specs.Environments.{function_at}
use Rattle.arn_ids.specs.declared.config.Config.{Config}
use Rattle.call_types.specs.declared.call.Call.{Call}
use Rattle.call_types.specs.declared.call.Call.TheVariants.{Invoke, RuntimeNext, Response, ResponseTooLarge, Failure}
use Rattle.call_types.specs.declared.call.Call.TheVariants.{InitFailure, Register, ExtNext, ExtInitFailure}
use Rattle.call_types.specs.declared.call.Call.TheVariants.{ExtExitFailure, Tick, Withdraw, Spindown, Stop}
use Rattle.call_types.specs.declared.call.Call.TheVariants.{Expire, Reserve}
use Rattle.json.specs.Token.{Token}
use Rattle.trace.specs.Members.{object, text_member, number_member, number_if, flag_member, body_member}

-- The member with the word for the call's kind, as scripts have it.
abbrev pub kind : List ℕ → List Token
kind word = text_member (codes "kind") word

-- The member with the environment that the call names.
abbrev pub environment : ℕ → List Token
environment e = number_member (codes "environment") e

-- The member with the name of the function that the call names.
abbrev pub function : Config → ℕ → List Token
function config f = text_member (codes "function") (function_at config f).name

-- The member with the caller's trace (`X-Amzn-Trace-Id`), if there is one.
abbrev pub trace_if : Option (List ℕ) → List Token
trace_if None = []
trace_if (Some trace) = text_member (codes "trace") trace

-- A report: its kind, its environment and the count in the request or extension identifier that it names.
abbrev pub report : Bool → List ℕ → List ℕ → ℕ → ℕ → List ℕ → List Token
report bodies word named e count body =
    object (body_member bodies body ∷ environment e ∷ number_member named count ∷ kind word ∷ [])

-- The object of a call. The number `id` is the count in a request identifier, and `extension` that in an extension's.
unfoldable pub call_object : Bool → Config → Call → List Token
call_object bodies config (Invoke f qualified trace body) =
    object (body_member bodies body ∷ function config f ∷ kind (codes "invoke")
    ∷ flag_member (codes "qualified") qualified ∷ trace_if trace ∷ [])
call_object bodies config (RuntimeNext e) = object (environment e ∷ kind (codes "next") ∷ [])
call_object bodies config (Response e id body) = report bodies (codes "response") (codes "id") e id body
call_object bodies config (ResponseTooLarge e id) =
    object (environment e ∷ number_member (codes "id") id ∷ kind (codes "response-too-large") ∷ [])
call_object bodies config (Failure e id body) = report bodies (codes "failure") (codes "id") e id body
call_object bodies config (InitFailure e body) =
    object (body_member bodies body ∷ environment e ∷ kind (codes "init-failure") ∷ [])
call_object bodies config (Register e name invoke shutdown account) =
    object (flag_member (codes "account") account ∷ environment e ∷ flag_member (codes "invoke") invoke
    ∷ kind (codes "register") ∷ text_member (codes "name") name ∷ flag_member (codes "shutdown") shutdown ∷ [])
call_object bodies config (ExtNext e x) =
    object (environment e ∷ number_member (codes "extension") x ∷ kind (codes "ext-next") ∷ [])
call_object bodies config (ExtInitFailure e x body) =
    report bodies (codes "ext-init-failure") (codes "extension") e x body
call_object bodies config (ExtExitFailure e x body) =
    report bodies (codes "ext-exit-failure") (codes "extension") e x body
call_object bodies config Tick = object (kind (codes "tick") ∷ [])
call_object bodies config (Withdraw t) = object (kind (codes "withdraw") ∷ number_member (codes "ticket") t ∷ [])
call_object bodies config (Spindown e) = object (environment e ∷ kind (codes "spindown") ∷ [])
call_object bodies config Stop = object (kind (codes "stop") ∷ [])
call_object bodies config (Expire e) = object (environment e ∷ kind (codes "expire") ∷ [])
call_object bodies config (Reserve f count) =
    object (number_if (codes "count") count ∷ function config f ∷ kind (codes "reserve") ∷ [])

-- The decision on a request on an environment's port (Runtime API, Extensions API).
-- A refusal is for the first of these at fault: its path, its method, the invocation or extension that it names, a
-- header, its body.
use Rattle.std.specs.Prelude.{ℕ, Bool, nat_lt, if◌then◌else◌, List, length, codes, Option, Some, None, Result, Ok, Err}
use Rattle.http.specs.Uri.{uri_path}
use Rattle.http.specs.declared.request.Parts.{Parts}
use Rattle.arn_ids.specs.Environments.{function_of}
use Rattle.arn_ids.specs.Limits.{longest_body}
use Rattle.arn_ids.specs.declared.config.Config.{Config}
use Rattle.call_types.specs.declared.call.Call.{Call}
use Rattle.call_types.specs.declared.call.Call.TheVariants as call
use Rattle.lambda_wire.specs.Requests.{read_events}
use Rattle.lambda_wire.specs.declared.request_reader.Events.{Events}
use Rattle.lambda_wire.specs.declared.fault.WireFault.{WireFault}
use Rattle.lambda_wire.specs.declared.fault.WireFault.TheVariants.{TooLong, NotJson, BadShape, BadEvent, OutOfMemory}
use Rattle.decisions.specs.declared.decide.Decision.{Decision}
use Rattle.decisions.specs.declared.decide.Decision.TheVariants.{Submit}
use Rattle.http_routes.specs.Methods.{is_among}
use Rattle.http_routes.specs.Routes.{environment_rows, route_in, environment_methods}
use Rattle.http_routes.specs.Heads.{has_header, extension_name, asks_for_account}
use Rattle.http_routes.specs.Identifiers.{request_of, extension_of}
use Rattle.http_routes.specs.Refusals.{refused, wrong_method}
use Rattle.http_routes.specs.declared.environment_port.Report.{Report}
use Rattle.http_routes.specs.declared.environment_port.Report.TheVariants.{InitError, ExitError}
use Rattle.http_routes.specs.declared.refusals.Cause.TheVariants as cause
use Rattle.http_routes.specs.declared.routes.EnvironmentRoute.{EnvironmentRoute}
use Rattle.http_routes.specs.declared.routes.EnvironmentRoute.TheVariants.{Next, Response, Failure, InitFailure}
use Rattle.http_routes.specs.declared.routes.EnvironmentRoute.TheVariants.{Register, ExtNext, ExtInitFailure}
use Rattle.http_routes.specs.declared.routes.EnvironmentRoute.TheVariants.{ExtExitFailure}

-- Whether a body is too long: it may have up to 6,291,456 bytes (Lambda quotas: invocation payload).
abbrev pub is_too_long : List ℕ → Bool
is_too_long body = nat_lt longest_body (length body)

-- The call of a request, whose body is refused if it is too long.
abbrev pub submitted : List ℕ → Call → Decision
submitted body made = if is_too_long body then refused cause.TooLarge else Submit made

-- Invocation response. One that is too long is a call of its own kind, without the bytes.
abbrev pub response : ℕ → List ℕ → Option ℕ → Decision
response e body None = refused cause.WrongRequest
response e body (Some id) = Submit (if is_too_long body then call.ResponseTooLarge e id else call.Response e id body)

-- Invocation error.
abbrev pub failure : ℕ → List ℕ → Option ℕ → Decision
failure e body None = refused cause.WrongRequest
failure e body (Some id) = submitted body (call.Failure e id body)

-- Register, given the events that its body asks for. (Reading a body never gives `OutOfMemory`.)
abbrev pub registered : ℕ → List ℕ → Bool → Result Events WireFault → Decision
registered e name account (Ok events) = Submit (call.Register e name events.invoke events.shutdown account)
registered e name account (Err TooLong) = refused cause.TooLarge
registered e name account (Err NotJson) = refused cause.UnreadableRegistration
registered e name account (Err BadShape) = refused cause.UnreadableRegistration
registered e name account (Err BadEvent) = refused cause.WrongEvent
registered e name account (Err OutOfMemory) = refused cause.UnreadableRegistration

-- Register, given the name of the extension, which is in a header that must be present.
abbrev pub register : ℕ → Bool → List ℕ → Option (List ℕ) → Decision
register e account body None = refused cause.MissingHeader
register e account body (Some name) = registered e name account (read_events body)

-- The Next of an extension.
abbrev pub ext_next : ℕ → List ℕ → Option ℕ → Decision
ext_next e body None = refused cause.UnknownExtension
ext_next e body (Some x) = submitted body (call.ExtNext e x)

-- The call of an extension's report.
abbrev pub reported : Report → ℕ → ℕ → List ℕ → Call
reported InitError e x body = call.ExtInitFailure e x body
reported ExitError e x body = call.ExtExitFailure e x body

-- Init error and Exit error. The header with the type of the error must be present, whatever its value.
abbrev pub ext_report : Bool → List ℕ → (ℕ → Call) → Option ℕ → Decision
ext_report has_type body made None = refused cause.UnknownExtension
ext_report has_type body made (Some x) = if has_type then submitted body (made x) else refused cause.MissingHeader

-- Whether the header with the type of an error is present (Extensions API, Init error, Exit error).
abbrev pub has_error_type : Parts → Bool
has_error_type p = has_header (codes "lambda-extension-function-error-type") p

-- The decision on a route, for a method that it has.
unfoldable pub on_environment_route : Config → ℕ → ℕ → Parts → List ℕ → EnvironmentRoute → Decision
on_environment_route config salt e p body Next = submitted body (call.RuntimeNext e)
on_environment_route config salt e p body Response = response e body (request_of salt (function_of config e) p)
on_environment_route config salt e p body Failure = failure e body (request_of salt (function_of config e) p)
on_environment_route config salt e p body InitFailure = submitted body (call.InitFailure e body)
on_environment_route config salt e p body Register = register e (asks_for_account p) body (extension_name p)
on_environment_route config salt e p body ExtNext = ext_next e body (extension_of salt e p)
on_environment_route config salt e p body ExtInitFailure =
    ext_report (has_error_type p) body (λ x. reported InitError e x body) (extension_of salt e p)
on_environment_route config salt e p body ExtExitFailure =
    ext_report (has_error_type p) body (λ x. reported ExitError e x body) (extension_of salt e p)

-- The decision on a route.
abbrev pub at_environment : Config → ℕ → ℕ → Parts → List ℕ → Option EnvironmentRoute → Decision
at_environment config salt e p body None = refused cause.NotFound
at_environment config salt e p body (Some route) =
    if is_among (environment_methods route) p.method then on_environment_route config salt e p body route
    else wrong_method (environment_methods route)

-- The decision on a request on the port of environment e.
unfoldable pub environment_decision : Config → ℕ → ℕ → Parts → List ℕ → Decision
environment_decision config salt e p body =
    at_environment config salt e p body (route_in environment_rows (uri_path p.uri))

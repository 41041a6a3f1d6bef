-- The decision on a request on the account's port (Lambda API, and this service's own routes).
-- A refusal is for the first of these at fault: its path, its method, the function that it names, a header, its body.
use Rattle.std.specs.Prelude.{ℕ, Bool, true, false, if◌then◌else◌, List, codes, bytes_eq, Option, Some, None, Result, Ok, Err}
use Rattle.std.specs.Prelude.{not, option_and_then}
use Rattle.http.specs.Uri.{uri_path}
use Rattle.http.specs.declared.request.Parts.{Parts}
use Rattle.arn_ids.specs.declared.config.Config.{Config}
use Rattle.arn_ids.specs.Limits.{greatest_ticket, greatest_moment}
use Rattle.arn_ids.specs.Numbers.{number_in, from_one, env_in}
use Rattle.call_types.specs.declared.call.Call.TheVariants as call
use Rattle.lambda_wire.specs.Requests.{read_payload, read_count}
use Rattle.lambda_wire.specs.declared.fault.WireFault.{WireFault}
use Rattle.lambda_wire.specs.declared.fault.WireFault.TheVariants.{TooLong, NotJson, BadShape, BadEvent, OutOfMemory}
use Rattle.decisions.specs.declared.decide.Decision.{Decision}
use Rattle.decisions.specs.declared.decide.Decision.TheVariants.{Submit, Show, Clock}
use Rattle.decisions.specs.declared.decide.ClockRequest.TheVariants as clock
use Rattle.decisions.specs.declared.decide.Shown.TheVariants as shown
use Rattle.http_routes.specs.Methods.{put, is_among}
use Rattle.http_routes.specs.Routes.{account_rows, route_in, account_methods}
use Rattle.http_routes.specs.Paths.{path_part, name_of, qualifier_of, from_of, follow_of, bodies_of, only_of}
use Rattle.http_routes.specs.Heads.{trace_of, is_synchronous}
use Rattle.http_routes.specs.Names.{invoked, reserved}
use Rattle.http_routes.specs.Refusals.{refused, wrong_method}
use Rattle.http_routes.specs.declared.refusals.Cause.TheVariants as cause
use Rattle.http_routes.specs.declared.names.Target.{Target}
use Rattle.http_routes.specs.declared.names.Target.TheVariants.{Malformed, Unknown, Function}
use Rattle.http_routes.specs.declared.routes.AccountRoute.{AccountRoute}
use Rattle.http_routes.specs.declared.routes.AccountRoute.TheVariants as account

-- The decision about a function: a malformed or unknown one is refused.
abbrev pub about : Target → (ℕ → Bool → Decision) → Decision
about Malformed then_do = refused cause.MalformedName
about Unknown then_do = refused cause.UnknownFunction
about (Function f qualified) then_do = then_do f qualified

-- Invoke, given the payload that was read from its body. (Reading a body never gives `OutOfMemory`.)
abbrev pub by_payload : ℕ → Bool → Option (List ℕ) → Result (List ℕ) WireFault → Decision
by_payload f qualified trace (Ok payload) = Submit (call.Invoke f qualified trace payload)
by_payload f qualified trace (Err TooLong) = refused cause.PayloadTooLarge
by_payload f qualified trace (Err NotJson) = refused cause.UnreadablePayload
by_payload f qualified trace (Err BadShape) = refused cause.UnreadablePayload
by_payload f qualified trace (Err BadEvent) = refused cause.UnreadablePayload
by_payload f qualified trace (Err OutOfMemory) = refused cause.UnreadablePayload

-- Invoke of a function.
abbrev pub invoke : Parts → List ℕ → ℕ → Bool → Decision
invoke p body f qualified =
    if is_synchronous p then by_payload f qualified (trace_of p) (read_payload body)
    else refused cause.WrongInvocationType

-- PutFunctionConcurrency, given the count that its body asks for.
abbrev pub reserve : ℕ → Result ℕ WireFault → Decision
reserve f (Ok count) = Submit (call.Reserve f (Some count))
reserve f (Err TooLong) = refused cause.PayloadTooLarge
reserve f (Err NotJson) = refused cause.UnreadableReservation
reserve f (Err BadShape) = refused cause.UnreadableReservation
reserve f (Err BadEvent) = refused cause.UnreadableReservation
reserve f (Err OutOfMemory) = refused cause.UnreadableReservation

-- PutFunctionConcurrency, or otherwise DeleteFunctionConcurrency, whose body is ignored.
abbrev pub set_reservation : Bool → List ℕ → ℕ → Bool → Decision
set_reservation puts body f qualified = if puts then reserve f (read_count body) else Submit (call.Reserve f None)

-- GetFunctionConcurrency, whose body is ignored.
abbrev pub show_reservation : ℕ → Bool → Decision
show_reservation f qualified = Show (shown.Reservation f)

-- The environment that a path names after three slashes: a decimal number without leading zeros.
abbrev pub environment_of : Config → Parts → Option ℕ
environment_of config p = option_and_then (env_in config) (path_part 3 (uri_path p.uri))

-- The decision, if the route has the request's method.
abbrev pub with_method : AccountRoute → Parts → Decision → Decision
with_method route p decision =
    if is_among (account_methods route) p.method then decision else wrong_method (account_methods route)

-- The spindown of an environment. If there is no environment of this number, the path is not found.
abbrev pub spindown : Parts → Option ℕ → Decision
spindown p None = refused cause.NotFound
spindown p (Some e) = with_method account.Spindown p (Submit (call.Spindown e))

-- The history from a ticket on.
abbrev pub show_from : Option ℕ → Decision
show_from None = refused cause.WrongTicket
show_from (Some ticket) = Show (shown.History (Some ticket))

-- The history: from the ticket in the query's first `from`, or whole if the query has none. A ticket is decimal,
-- without leading zeros, and below 2^64.
abbrev pub show_history : Option (List ℕ) → Decision
show_history None = Show (shown.History None)
show_history (Some text) = show_from (number_in greatest_ticket text)

-- The ticket from which a trace begins: that in the query's first `from`, or 0 if the query has none.
abbrev pub first_of : Option (List ℕ) → Option ℕ
first_of None = Some 0
first_of (Some text) = number_in greatest_ticket text

-- Whether a parameter is absent, or has the one value that it can have.
abbrev pub is_said : List ℕ → Option (List ℕ) → Option Bool
is_said value None = Some false
is_said value (Some text) = if bytes_eq text value then Some true else None

-- The trace, given what its query says: refused for the first of `from`, `follow` and `bodies` that is wrong.
abbrev pub show_trace_with : Option ℕ → Option Bool → Option Bool → Decision
show_trace_with None follow bare = refused cause.WrongTicket
show_trace_with (Some from) None bare = refused cause.WrongFollow
show_trace_with (Some from) (Some follow) None = refused cause.WrongBodies
show_trace_with (Some from) (Some follow) (Some bare) =
    Show (shown.Trace (record { from = from; follow = follow; bodies = not bare }))

-- The trace, from `from` on, which goes on if `follow` is `1`, without bodies if `bodies` is `none`.
abbrev pub show_trace : Parts → Decision
show_trace p = show_trace_with (first_of (from_of p)) (is_said (codes "1") (follow_of p)) (is_said (codes "none") (bodies_of p))

-- By how many milliseconds the clock is set forward: a decimal number, without leading zeros, from 1 to 2^53 - 1.
abbrev pub milliseconds_in : List ℕ → Option ℕ
milliseconds_in text = option_and_then from_one (number_in greatest_moment text)

-- The clock, set forward by that number.
abbrev pub advance : Option ℕ → Decision
advance None = refused cause.WrongMilliseconds
advance (Some milliseconds) = Clock (clock.Advance milliseconds)

-- The clock, set forward by the query's `ms`, which it has exactly once.
abbrev pub advance_by : Option (List ℕ) → Decision
advance_by text = advance (option_and_then milliseconds_in text)

-- The decision on a route. The bodies of requests on this service's own routes are ignored.
abbrev pub at_account : Config → Parts → List ℕ → Option AccountRoute → Decision
at_account config p body None = refused cause.NotFound
at_account config p body (Some account.Invoke) =
    with_method account.Invoke p (about (invoked config (name_of p) (qualifier_of p)) (invoke p body))
at_account config p body (Some account.Concurrency) =
    with_method account.Concurrency p (about (reserved config (name_of p)) (set_reservation (bytes_eq p.method put) body))
at_account config p body (Some account.ReadConcurrency) =
    with_method account.ReadConcurrency p (about (reserved config (name_of p)) show_reservation)
at_account config p body (Some account.Stop) = with_method account.Stop p (Submit call.Stop)
at_account config p body (Some account.Spindown) = spindown p (environment_of config p)
at_account config p body (Some account.Stats) = with_method account.Stats p (Show shown.Stats)
at_account config p body (Some account.History) = with_method account.History p (show_history (from_of p))
at_account config p body (Some account.Trace) = with_method account.Trace p (show_trace p)
at_account config p body (Some account.Environments) = with_method account.Environments p (Show shown.Environments)
at_account config p body (Some account.Version) = with_method account.Version p (Show shown.Version)
at_account config p body (Some account.Clock) = with_method account.Clock p (Clock clock.Show)
at_account config p body (Some account.AdvanceClock) =
    with_method account.AdvanceClock p (advance_by (only_of (codes "ms") p))
at_account config p body (Some account.PauseClock) = with_method account.PauseClock p (Clock clock.Pause)
at_account config p body (Some account.ResumeClock) = with_method account.ResumeClock p (Clock clock.Resume)

-- The decision on a request on the account's port.
unfoldable pub account_decision : Config → Parts → List ℕ → Decision
account_decision config p body = at_account config p body (route_in account_rows (uri_path p.uri))

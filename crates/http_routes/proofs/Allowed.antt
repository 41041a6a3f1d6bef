-- A call that is decided on is within the limits of the configuration, and a function that is shown is there.
use Rattle.std.proofs.Common.{◌≡◌, ℕ, ◌≤◌, Bool, true, false, cond, nat_lt, List, length, codes, bytes_eq, Option, Some}
use Rattle.std.proofs.Common.{None, option_and_then, Result, Ok, Err, refl}
use Rattle.std.specs.Result.{IfOk}
use Rattle.http.specs.Uri.{uri_path}
use Rattle.http.specs.declared.request.Parts.{Parts}
use Rattle.arn_ids.specs.Words.{is_label}
use Rattle.arn_ids.specs.Environments.{function_of}
use Rattle.arn_ids.specs.declared.config.Config.{Config}
use Rattle.call_types.specs.declared.call.Call.{Call}
use Rattle.call_types.specs.declared.call.Call.TheVariants as call
use Rattle.lambda_wire.specs.Requests.{read_payload, read_count, read_events}
use Rattle.lambda_wire.specs.declared.request_reader.Events.{Events}
use Rattle.lambda_wire.specs.declared.fault.WireFault.{WireFault}
use Rattle.lambda_wire.specs.declared.fault.WireFault.TheVariants as wire
use Rattle.arn_ids.specs.Limits.{longest_body, greatest_reservation, greatest_ticket}
use Rattle.arn_ids.specs.Numbers.{number_in}
use Rattle.call_types.specs.Within.{is_body, IsEnv, IsFunction, IsCount, IsTrace, IsWithin}
use Rattle.decisions.specs.Decisions.{IsAllowed}
use Rattle.decisions.specs.declared.decide.Decision.{Decision}
use Rattle.decisions.specs.declared.decide.Decision.TheVariants.{Submit}
use Rattle.http_routes.specs.Methods.{Method, put, is_among}
use Rattle.http_routes.specs.Routes.{environment_rows, account_rows, route_in, environment_methods, account_methods}
use Rattle.http_routes.specs.Paths.{name_of, qualifier_of, from_of, follow_of, bodies_of, only_of}
use Rattle.http_routes.specs.Heads.{header, extension_name, trace_of, asks_for_account, is_synchronous}
use Rattle.http_routes.specs.Identifiers.{request_of, extension_of}
use Rattle.http_routes.specs.Names.{invoked, reserved}
use Rattle.http_routes.specs.Refusals.{refusal_words, fault_of, reply_of, refused, wrong_method}
use Rattle.lambda_wire.specs.declared.body_writer.InvokeFault.{InvokeFault}
use Rattle.http_routes.specs.declared.refusals.Cause.{Cause}
use Rattle.http_routes.specs.declared.refusals.Cause.TheVariants as cause
use Rattle.http_routes.specs.EnvironmentDecisions.{submitted, response, failure, registered, register, ext_next}
use Rattle.http_routes.specs.EnvironmentDecisions.{ext_report, has_error_type, on_environment_route, at_environment}
use Rattle.http_routes.specs.EnvironmentDecisions.{environment_decision}
use Rattle.http_routes.specs.AccountDecisions.{about, by_payload, invoke, reserve, set_reservation, show_reservation}
use Rattle.http_routes.specs.AccountDecisions.{show_from, show_history, first_of, is_said, show_trace_with, show_trace}
use Rattle.http_routes.specs.AccountDecisions.{environment_of, with_method, spindown, milliseconds_in, advance}
use Rattle.http_routes.specs.AccountDecisions.{advance_by, at_account, account_decision}
use Rattle.http_routes.specs.Decisions.{Served, IsPortOf, decision_on, decision}
use Rattle.http_routes.specs.declared.names.Target.{Target}
use Rattle.http_routes.specs.declared.names.Target.TheVariants as target
use Rattle.http_routes.specs.declared.routes.EnvironmentRoute.{EnvironmentRoute}
use Rattle.http_routes.specs.declared.routes.EnvironmentRoute.TheVariants as environment
use Rattle.http_routes.specs.declared.routes.AccountRoute.{AccountRoute}
use Rattle.http_routes.specs.declared.routes.AccountRoute.TheVariants as account
use Rattle.service_port.specs.declared.port.Port.{Port}
use Rattle.service_port.specs.declared.port.Port.TheVariants as port
use Rattle.call_types.proofs.Within.{Gives}
use Rattle.http_routes.proofs.Within.{Reads, environment_within, IsTarget, invoked_within, reserved_within}
use Rattle.http_routes.proofs.Within.{request_within, extension_within, that_passes, trace_within, short}
use Rattle.http_routes.proofs.Within.{payload_within, reservation_within}

-- refusals need nothing

reply-allowed : (config : Config) (f : Option InvokeFault) (words : ℕ × List ℕ × List ℕ) → IsAllowed config (reply_of f words)
reply-allowed config None words = tt
reply-allowed config (Some f) words = tt

refused-allowed : (config : Config) (c : Cause) → IsAllowed config (refused c)
unfolding refused
refused-allowed config c = reply-allowed config (fault_of c) (refusal_words c)

wrong_method-allowed : (config : Config) (methods : List Method) → IsAllowed config (wrong_method methods)
unfolding wrong_method
wrong_method-allowed config methods = tt

-- a decision by a test
decided : (config : Config) (b : Bool) (x y : Decision) → IsAllowed config x → IsAllowed config y → IsAllowed config (cond b x y)
decided config true x y h k = h
decided config false x y h k = k

-- by whether the body is too long
by_length : (config : Config) (body : List ℕ) (x y : Decision) → IsAllowed config x
    → (is_body body ≡ true → IsAllowed config y) → IsAllowed config (cond (nat_lt longest_body (length body)) x y)
by_length config body x y h k = go (nat_lt longest_body (length body)) refl
  where
    go : (b : Bool) → nat_lt longest_body (length body) ≡ b → IsAllowed config (cond b x y)
    go true e = h
    go false e = k (short (length body) e)

-- the environments' ports

submitted-allowed : (config : Config) (body : List ℕ) (made : Call) → (is_body body ≡ true → IsWithin config made) → IsAllowed config (submitted body made)
submitted-allowed config body made h = by_length config body (refused cause.TooLarge) (Submit made) (refused-allowed config cause.TooLarge) h

response-allowed : (config : Config) (e : ℕ) (body : List ℕ) (o : Option ℕ) → IsEnv config e → Gives o IsCount → IsAllowed config (response e body o)
response-allowed config e body None env h = refused-allowed config cause.WrongRequest
response-allowed config e body (Some id) env h = go (nat_lt longest_body (length body)) refl
  where
    go : (b : Bool) → nat_lt longest_body (length body) ≡ b → IsAllowed config (Submit (cond b (call.ResponseTooLarge e id) (call.Response e id body)))
    go true l = (env, h.holds)
    go false l = (env, h.holds, short (length body) l)

failure-allowed : (config : Config) (e : ℕ) (body : List ℕ) (o : Option ℕ) → IsEnv config e → Gives o IsCount → IsAllowed config (failure e body o)
failure-allowed config e body None env h = refused-allowed config cause.WrongRequest
failure-allowed config e body (Some id) env h = submitted-allowed config body (call.Failure e id body) (λ b. (env, h.holds, b))

registered-allowed : (config : Config) (e : ℕ) (name : List ℕ) (account : Bool) (r : Result Events WireFault)
    → IsEnv config e → is_label name ≡ true → IsAllowed config (registered e name account r)
registered-allowed config e name account (Ok events) env h = (env, h)
registered-allowed config e name account (Err wire.TooLong) env h = refused-allowed config cause.TooLarge
registered-allowed config e name account (Err wire.NotJson) env h = refused-allowed config cause.UnreadableRegistration
registered-allowed config e name account (Err wire.BadShape) env h = refused-allowed config cause.UnreadableRegistration
registered-allowed config e name account (Err wire.BadEvent) env h = refused-allowed config cause.WrongEvent
registered-allowed config e name account (Err wire.OutOfMemory) env h = refused-allowed config cause.UnreadableRegistration

register-allowed : (config : Config) (e : ℕ) (account : Bool) (body : List ℕ) (o : Option (List ℕ)) → IsEnv config e
    → Gives o (λ name. is_label name ≡ true) → IsAllowed config (register e account body o)
register-allowed config e account body None env h = refused-allowed config cause.MissingHeader
register-allowed config e account body (Some name) env h = registered-allowed config e name account (read_events body) env h.holds

ext_next-allowed : (config : Config) (e : ℕ) (body : List ℕ) (o : Option ℕ) → IsEnv config e → Gives o IsCount → IsAllowed config (ext_next e body o)
ext_next-allowed config e body None env h = refused-allowed config cause.UnknownExtension
ext_next-allowed config e body (Some x) env h = submitted-allowed config body (call.ExtNext e x) (λ b. (env, h.holds))

ext_report-allowed : (config : Config) (has_type : Bool) (body : List ℕ) (made : ℕ → Call) (o : Option ℕ)
    → ((x : ℕ) → IsCount x → is_body body ≡ true → IsWithin config (made x)) → Gives o IsCount → IsAllowed config (ext_report has_type body made o)
ext_report-allowed config has_type body made None within h = refused-allowed config cause.UnknownExtension
ext_report-allowed config has_type body made (Some x) within h =
    decided config has_type (submitted body (made x)) (refused cause.MissingHeader)
    (submitted-allowed config body (made x) (within x h.holds)) (refused-allowed config cause.MissingHeader)

on_environment_route-allowed : (config : Config) (salt e : ℕ) (p : Parts) (body : List ℕ) (route : EnvironmentRoute)
    → IsEnv config e → IsAllowed config (on_environment_route config salt e p body route)
unfolding on_environment_route
on_environment_route-allowed config salt e p body environment.Next env = submitted-allowed config body (call.RuntimeNext e) (λ b. env)
on_environment_route-allowed config salt e p body environment.Response env =
    response-allowed config e body (request_of salt (function_of config e) p) env (request_within salt (function_of config e) p)
on_environment_route-allowed config salt e p body environment.Failure env =
    failure-allowed config e body (request_of salt (function_of config e) p) env (request_within salt (function_of config e) p)
on_environment_route-allowed config salt e p body environment.InitFailure env = submitted-allowed config body (call.InitFailure e body) (λ b. (env, b))
on_environment_route-allowed config salt e p body environment.Register env =
    register-allowed config e (asks_for_account p) body (extension_name p) env (that_passes is_label (header (codes "lambda-extension-name") p))
on_environment_route-allowed config salt e p body environment.ExtNext env =
    ext_next-allowed config e body (extension_of salt e p) env (extension_within salt e p)
on_environment_route-allowed config salt e p body environment.ExtInitFailure env =
    ext_report-allowed config (has_error_type p) body (λ x. call.ExtInitFailure e x body) (extension_of salt e p)
    (λ x h b. (env, h, b)) (extension_within salt e p)
on_environment_route-allowed config salt e p body environment.ExtExitFailure env =
    ext_report-allowed config (has_error_type p) body (λ x. call.ExtExitFailure e x body) (extension_of salt e p)
    (λ x h b. (env, h, b)) (extension_within salt e p)

at_environment-allowed : (config : Config) (salt e : ℕ) (p : Parts) (body : List ℕ) (o : Option EnvironmentRoute)
    → IsEnv config e → IsAllowed config (at_environment config salt e p body o)
at_environment-allowed config salt e p body None env = refused-allowed config cause.NotFound
at_environment-allowed config salt e p body (Some route) env =
    decided config (is_among (environment_methods route) p.method) (on_environment_route config salt e p body route) (wrong_method (environment_methods route))
    (on_environment_route-allowed config salt e p body route env) (wrong_method-allowed config (environment_methods route))

environment_decision-allowed : (config : Config) (salt e : ℕ) (p : Parts) (body : List ℕ) → IsEnv config e
    → IsAllowed config (environment_decision config salt e p body)
unfolding environment_decision
environment_decision-allowed config salt e p body env = at_environment-allowed config salt e p body (route_in environment_rows (uri_path p.uri)) env

-- the account's port

by_payload-allowed : (config : Config) (f : ℕ) (qualified : Bool) (trace : Option (List ℕ)) (r : Result (List ℕ) WireFault)
    → IsFunction config f → IsTrace trace → Reads r (λ payload. is_body payload ≡ true) → IsAllowed config (by_payload f qualified trace r)
by_payload-allowed config f qualified trace (Ok payload) is_f is_t h = (is_f, is_t, h.holds)
by_payload-allowed config f qualified trace (Err wire.TooLong) is_f is_t h = refused-allowed config cause.PayloadTooLarge
by_payload-allowed config f qualified trace (Err wire.NotJson) is_f is_t h = refused-allowed config cause.UnreadablePayload
by_payload-allowed config f qualified trace (Err wire.BadShape) is_f is_t h = refused-allowed config cause.UnreadablePayload
by_payload-allowed config f qualified trace (Err wire.BadEvent) is_f is_t h = refused-allowed config cause.UnreadablePayload
by_payload-allowed config f qualified trace (Err wire.OutOfMemory) is_f is_t h = refused-allowed config cause.UnreadablePayload

invoke-allowed : (config : Config) (p : Parts) (body : List ℕ) (f : ℕ) (qualified : Bool) → IsFunction config f → IsAllowed config (invoke p body f qualified)
invoke-allowed config p body f qualified is_f =
    decided config (is_synchronous p) (by_payload f qualified (trace_of p) (read_payload body)) (refused cause.WrongInvocationType)
    (by_payload-allowed config f qualified (trace_of p) (read_payload body) is_f (trace_within p) (payload_within body))
    (refused-allowed config cause.WrongInvocationType)

reserve-allowed : (config : Config) (f : ℕ) (r : Result ℕ WireFault) → IsFunction config f
    → Reads r (λ n. n ≤ greatest_reservation) → IsAllowed config (reserve f r)
reserve-allowed config f (Ok count) is_f h = (is_f, h.holds)
reserve-allowed config f (Err wire.TooLong) is_f h = refused-allowed config cause.PayloadTooLarge
reserve-allowed config f (Err wire.NotJson) is_f h = refused-allowed config cause.UnreadableReservation
reserve-allowed config f (Err wire.BadShape) is_f h = refused-allowed config cause.UnreadableReservation
reserve-allowed config f (Err wire.BadEvent) is_f h = refused-allowed config cause.UnreadableReservation
reserve-allowed config f (Err wire.OutOfMemory) is_f h = refused-allowed config cause.UnreadableReservation

set_reservation-allowed : (config : Config) (puts : Bool) (body : List ℕ) (f : ℕ) (qualified : Bool)
    → IsFunction config f → IsAllowed config (set_reservation puts body f qualified)
set_reservation-allowed config puts body f qualified is_f =
    decided config puts (reserve f (read_count body)) (Submit (call.Reserve f None))
    (reserve-allowed config f (read_count body) is_f (reservation_within body)) (is_f, tt)

about-allowed : (config : Config) (t : Target) (then_do : ℕ → Bool → Decision) → IsTarget config t
    → ((f : ℕ) (q : Bool) → IsFunction config f → IsAllowed config (then_do f q)) → IsAllowed config (about t then_do)
unfolding IsTarget
about-allowed config target.Malformed then_do h k = refused-allowed config cause.MalformedName
about-allowed config target.Unknown then_do h k = refused-allowed config cause.UnknownFunction
about-allowed config (target.Function f q) then_do h k = k f q h

with_method-allowed : (config : Config) (route : AccountRoute) (p : Parts) (d : Decision) → IsAllowed config d → IsAllowed config (with_method route p d)
with_method-allowed config route p d h =
    decided config (is_among (account_methods route) p.method) d (wrong_method (account_methods route)) h (wrong_method-allowed config (account_methods route))

spindown-allowed : (config : Config) (p : Parts) (o : Option ℕ) → Gives o (IsEnv config) → IsAllowed config (spindown p o)
spindown-allowed config p None h = refused-allowed config cause.NotFound
spindown-allowed config p (Some e) h = with_method-allowed config account.Spindown p (Submit (call.Spindown e)) h.holds

show_from-allowed : (config : Config) (ticket : Option ℕ) → IsAllowed config (show_from ticket)
show_from-allowed config None = refused-allowed config cause.WrongTicket
show_from-allowed config (Some ticket) = tt

show_history-allowed : (config : Config) (from : Option (List ℕ)) → IsAllowed config (show_history from)
show_history-allowed config None = tt
show_history-allowed config (Some text) = show_from-allowed config (number_in greatest_ticket text)

show_trace_with-allowed : (config : Config) (from : Option ℕ) (follow bare : Option Bool) → IsAllowed config (show_trace_with from follow bare)
show_trace_with-allowed config None follow bare = refused-allowed config cause.WrongTicket
show_trace_with-allowed config (Some from) None bare = refused-allowed config cause.WrongFollow
show_trace_with-allowed config (Some from) (Some follow) None = refused-allowed config cause.WrongBodies
show_trace_with-allowed config (Some from) (Some follow) (Some bare) = tt

advance-allowed : (config : Config) (milliseconds : Option ℕ) → IsAllowed config (advance milliseconds)
advance-allowed config None = refused-allowed config cause.WrongMilliseconds
advance-allowed config (Some milliseconds) = tt

-- what the other routes decide needs nothing
at_account-allowed : (config : Config) (p : Parts) (body : List ℕ) (o : Option AccountRoute) → IsAllowed config (at_account config p body o)
at_account-allowed config p body None = refused-allowed config cause.NotFound
at_account-allowed config p body (Some account.Invoke) =
    with_method-allowed config account.Invoke p _
    (about-allowed config (invoked config (name_of p) (qualifier_of p)) (invoke p body) (invoked_within config (name_of p) (qualifier_of p)) (invoke-allowed config p body))
at_account-allowed config p body (Some account.Concurrency) =
    with_method-allowed config account.Concurrency p _
    (about-allowed config (reserved config (name_of p)) (set_reservation (bytes_eq p.method put) body) (reserved_within config (name_of p)) (set_reservation-allowed config (bytes_eq p.method put) body))
at_account-allowed config p body (Some account.ReadConcurrency) =
    with_method-allowed config account.ReadConcurrency p _
    (about-allowed config (reserved config (name_of p)) show_reservation (reserved_within config (name_of p)) (λ f q is_f. is_f))
at_account-allowed config p body (Some account.Spindown) = spindown-allowed config p (environment_of config p) (environment_within config p)
at_account-allowed config p body (Some account.History) =
    with_method-allowed config account.History p (show_history (from_of p)) (show_history-allowed config (from_of p))
at_account-allowed config p body (Some account.Trace) =
    with_method-allowed config account.Trace p (show_trace p)
    (show_trace_with-allowed config (first_of (from_of p)) (is_said (codes "1") (follow_of p)) (is_said (codes "none") (bodies_of p)))
at_account-allowed config p body (Some account.AdvanceClock) =
    with_method-allowed config account.AdvanceClock p (advance_by (only_of (codes "ms") p))
    (advance-allowed config (option_and_then milliseconds_in (only_of (codes "ms") p)))
at_account-allowed config p body (Some route) = with_method-allowed config route p _ tt

account_decision-allowed : (config : Config) (p : Parts) (body : List ℕ) → IsAllowed config (account_decision config p body)
unfolding account_decision
account_decision-allowed config p body = at_account-allowed config p body (route_in account_rows (uri_path p.uri))

decision_on-allowed : (config : Config) (salt : ℕ) (of : Port) (p : Parts) (body : List ℕ) → IsPortOf config of
    → IsAllowed config (decision_on config salt of p body)
decision_on-allowed config salt port.Account p body h = account_decision-allowed config p body
decision_on-allowed config salt (port.Environment e) p body env = environment_decision-allowed config salt e p body env
decision_on-allowed config salt (port.Handled number) p body h = refused-allowed config cause.NoHandler

-- What is decided on a port of the configuration, its account can carry out.
pub as_decided : {E : Type 0} (r : Result Decision E) (side : Served) (p : Parts) (body : List ℕ)
    → IsPortOf side.config side.port → IfOk r (λ d. d ≡ decision side p body) → IfOk r (IsAllowed side.config)
as_decided (Ok d) side p body h e = rw e (decision_on-allowed side.config side.salt side.port p body h)
as_decided (Err error) side p body h e = tt

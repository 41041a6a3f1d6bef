-- Requests whose bodies are too long are decided by their heads alone.
use Rattle.std.proofs.Common.{◌≡◌, ℕ, ◌<◌, Bool, true, false, nat_lt, List, length, bytes_eq, Option, Some, None, Result, Ok, Err, IfOk, refl, sym, ◌∙◌, arith}
use Rattle.std.proofs.lemmas.Bool.Decides.{nat_tests}
use Rattle.http.specs.Uri.{uri_path}
use Rattle.http.specs.declared.request.Parts.{Parts}
use Rattle.arn_ids.specs.Environments.{function_of}
use Rattle.arn_ids.specs.Limits.{longest_body}
use Rattle.arn_ids.specs.declared.config.Config.{Config}
use Rattle.call_types.specs.declared.call.Call.{Call}
use Rattle.lambda_wire.specs.Requests.{read_payload, read_count, read_events}
use Rattle.lambda_wire.specs.declared.fault.WireFault.TheVariants.{TooLong}
use Rattle.decisions.specs.Decisions.{IsOn}
use Rattle.decisions.specs.declared.decide.Decision.{Decision}
use Rattle.http_routes.specs.Methods.{put}
use Rattle.http_routes.specs.Routes.{environment_rows, account_rows, route_in}
use Rattle.http_routes.specs.Refusals.{refused}
use Rattle.http_routes.specs.declared.refusals.Cause.TheVariants.{TooLarge}
use Rattle.http_routes.specs.Paths.{name_of, qualifier_of}
use Rattle.http_routes.specs.Heads.{asks_for_account, extension_name}
use Rattle.http_routes.specs.Names.{invoked, reserved}
use Rattle.http_routes.specs.Identifiers.{request_of, extension_of}
use Rattle.http_routes.specs.EnvironmentDecisions.{submitted, response, failure, register, ext_next, ext_report}
use Rattle.http_routes.specs.EnvironmentDecisions.{has_error_type, on_environment_route, at_environment}
use Rattle.http_routes.specs.EnvironmentDecisions.{environment_decision}
use Rattle.http_routes.specs.AccountDecisions.{about, invoke, set_reservation, at_account, account_decision}
use Rattle.http_routes.specs.Decisions.{Served, decision_on, decision}
use Rattle.http_routes.specs.declared.names.Target.{Target}
use Rattle.http_routes.specs.declared.names.Target.TheVariants as target
use Rattle.http_routes.specs.declared.routes.EnvironmentRoute.{EnvironmentRoute}
use Rattle.http_routes.specs.declared.routes.EnvironmentRoute.TheVariants as environment
use Rattle.http_routes.specs.declared.routes.AccountRoute.{AccountRoute}
use Rattle.http_routes.specs.declared.routes.AccountRoute.TheVariants as account
use Rattle.service_port.specs.declared.port.Port.{Port}
use Rattle.service_port.specs.declared.port.Port.TheVariants as port

long : (body : List ℕ) → longest_body < length body → nat_lt longest_body (length body) ≡ true
long body h = grind (arith, nat_tests)

pub payload_long : (body : List ℕ) → longest_body < length body → read_payload body ≡ Err TooLong
unfolding read_payload
payload_long body h = rw (long body h) refl

pub count_long : (body : List ℕ) → longest_body < length body → read_count body ≡ Err TooLong
unfolding read_count
count_long body h = rw (long body h) refl

pub events_too_long : (body : List ℕ) → nat_lt longest_body (length body) ≡ true → read_events body ≡ Err TooLong
unfolding read_events
events_too_long body h = rw h refl

events_long : (body : List ℕ) → longest_body < length body → read_events body ≡ Err TooLong
events_long body h = events_too_long body (long body h)

submitted_long : (body : List ℕ) (made : Call) → longest_body < length body → submitted body made ≡ refused TooLarge
submitted_long body made h = rw (long body h) refl

module _ (a b : List ℕ) (la : longest_body < length a) (lb : longest_body < length b) where
  both : (x y : Call) → submitted a x ≡ submitted b y
  both x y = submitted_long a x la ∙ sym (submitted_long b y lb)

  response_alike : (e : ℕ) (id : Option ℕ) → response e a id ≡ response e b id
  response_alike e None = refl
  response_alike e (Some id) = rw (long a la, long b lb) refl

  failure_alike : (e : ℕ) (id : Option ℕ) → failure e a id ≡ failure e b id
  failure_alike e None = refl
  failure_alike e (Some id) = rw (long a la, long b lb) refl

  register_alike : (e : ℕ) (account : Bool) (name : Option (List ℕ)) → register e account a name ≡ register e account b name
  register_alike e account None = refl
  register_alike e account (Some name) = rw (events_long a la, events_long b lb) refl

  next_alike : (e : ℕ) (ext : Option ℕ) → ext_next e a ext ≡ ext_next e b ext
  next_alike e None = refl
  next_alike e (Some x) = rw (long a la, long b lb) refl

  report_alike : (has : Bool) (x y : ℕ → Call) (ext : Option ℕ) → ext_report has a x ext ≡ ext_report has b y ext
  report_alike has x y None = refl
  report_alike true x y (Some ext) = both (x ext) (y ext)
  report_alike false x y (Some ext) = refl

  route_alike : (config : Config) (salt e : ℕ) (p : Parts) (route : EnvironmentRoute)
      → on_environment_route config salt e p a route ≡ on_environment_route config salt e p b route
  unfolding on_environment_route
  route_alike config salt e p environment.Next = both _ _
  route_alike config salt e p environment.Response = response_alike e (request_of salt (function_of config e) p)
  route_alike config salt e p environment.Failure = failure_alike e (request_of salt (function_of config e) p)
  route_alike config salt e p environment.InitFailure = both _ _
  route_alike config salt e p environment.Register = register_alike e (asks_for_account p) (extension_name p)
  route_alike config salt e p environment.ExtNext = next_alike e (extension_of salt e p)
  route_alike config salt e p environment.ExtInitFailure = report_alike (has_error_type p) _ _ (extension_of salt e p)
  route_alike config salt e p environment.ExtExitFailure = report_alike (has_error_type p) _ _ (extension_of salt e p)

  at_environment_alike : (config : Config) (salt e : ℕ) (p : Parts) (route : Option EnvironmentRoute)
      → at_environment config salt e p a route ≡ at_environment config salt e p b route
  at_environment_alike config salt e p None = refl
  at_environment_alike config salt e p (Some route) = rw (route_alike config salt e p route) refl

  invoke_alike : (p : Parts) (f : ℕ) (qualified : Bool) → invoke p a f qualified ≡ invoke p b f qualified
  invoke_alike p f qualified = rw (payload_long a la, payload_long b lb) refl

  about_alike : (t : Target) (x y : ℕ → Bool → Decision) → ((f : ℕ) (qualified : Bool) → x f qualified ≡ y f qualified) → about t x ≡ about t y
  about_alike target.Malformed x y h = refl
  about_alike target.Unknown x y h = refl
  about_alike (target.Function f qualified) x y h = h f qualified

  set_alike : (puts : Bool) (f : ℕ) (qualified : Bool) → set_reservation puts a f qualified ≡ set_reservation puts b f qualified
  set_alike true f qualified = rw (count_long a la, count_long b lb) refl
  set_alike false f qualified = refl

  -- the bodies of requests on the other routes are ignored
  at_account_alike : (config : Config) (p : Parts) (route : Option AccountRoute) → at_account config p a route ≡ at_account config p b route
  at_account_alike config p None = refl
  at_account_alike config p (Some account.Invoke) =
      rw (about_alike (invoked config (name_of p) (qualifier_of p)) (invoke p a) (invoke p b) (invoke_alike p)) refl
  at_account_alike config p (Some account.Concurrency) =
      rw
      (about_alike (reserved config (name_of p)) (set_reservation (bytes_eq p.method put) a) (set_reservation (bytes_eq p.method put) b) (set_alike (bytes_eq p.method put))) refl
  at_account_alike config p (Some route) = refl

  on_alike : (config : Config) (salt : ℕ) (port : Port) (p : Parts) → decision_on config salt port p a ≡ decision_on config salt port p b
  unfolding account_decision environment_decision
  on_alike config salt port.Account p = at_account_alike config p (route_in account_rows (uri_path p.uri))
  on_alike config salt (port.Environment e) p = at_environment_alike config salt e p (route_in environment_rows (uri_path p.uri))
  on_alike config salt (port.Handled number) p = refl

  -- two bodies that are too long are decided alike
  pub alike : (side : Served) (p : Parts) → decision side p a ≡ decision side p b
  alike side p = on_alike side.config side.salt side.port p

-- what is decided of one of them is what is decided of each
pub as_alike : {E : Type 0} (result : Result Decision E) (side : Served) (p : Parts) (a : List ℕ)
    → IfOk result (λ d. d ≡ decision side p a)
    → IfOk result (λ d. longest_body < length a → (other : List ℕ) → longest_body < length other → d ≡ decision side p other)
as_alike (Ok d) side p a h = λ la other lo. h ∙ alike a other la lo side p
as_alike (Err e) side p a h = tt

-- so what is decided of a body is what is decided on it
pub as_on : {E : Type 0} (result : Result Decision E) (side : Served) (p : Parts) (a : List ℕ)
    → IfOk result (λ d. d ≡ decision side p a)
    → IfOk result (λ d. longest_body < length a → (other : List ℕ) → longest_body < length other → d ≡ decision side p other)
    → IfOk result (IsOn (λ body d. d ≡ decision side p body) a)
as_on (Ok d) side p a h g = (h, g)
as_on (Err e) side p a h g = tt

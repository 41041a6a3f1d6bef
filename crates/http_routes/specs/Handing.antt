-- Which requests may be handed over to a handler, by their heads alone.
use Rattle.std.specs.Prelude.{Bool, true, false, ◌&&◌, ◌||◌, not, Option, Some, None}
use Rattle.handler_desk.specs.Asked.{is_of_handler}
use Rattle.http.specs.Uri.{uri_path}
use Rattle.http.specs.declared.request.Parts.{Parts}
use Rattle.arn_ids.specs.declared.config.Config.{Config}
use Rattle.http_routes.specs.Decisions.{Served}
use Rattle.http_routes.specs.Heads.{is_synchronous, asks_for_tail}
use Rattle.http_routes.specs.Methods.{is_among}
use Rattle.http_routes.specs.Names.{invoked}
use Rattle.http_routes.specs.Paths.{name_of, qualifier_of}
use Rattle.http_routes.specs.Routes.{account_rows, route_in, account_methods}
use Rattle.http_routes.specs.declared.names.Target.{Target}
use Rattle.http_routes.specs.declared.names.Target.TheVariants.{Malformed, Unknown, Function}
use Rattle.http_routes.specs.declared.routes.AccountRoute.{AccountRoute}
use Rattle.http_routes.specs.declared.routes.AccountRoute.TheVariants as account
use Rattle.service_port.specs.declared.port.Port.{Port}
use Rattle.service_port.specs.declared.port.Port.TheVariants.{Account, Environment, Handled}

-- Whether an Invoke of this target is one that the account's port does not answer with an invocation, though its name is
-- well formed: that of a function or a version that the configuration does not know; or one whose caller does not wait
-- for the invocation, or asks for the tail of its log (Lambda API, Invoke: InvocationType, LogType).
abbrev pub hands_over_target : Parts → Target → Bool
hands_over_target p Malformed = false
hands_over_target p Unknown = true
hands_over_target p (Function f qualified) = not (is_synchronous p) || asks_for_tail p

-- Whether a request on a route of the account may be handed over: one that no route has, unless it is a handler's own;
-- and some Invokes.
abbrev pub hands_over_at : Config → Parts → Option AccountRoute → Bool
hands_over_at config p None = not (is_of_handler (uri_path p.uri))
hands_over_at config p (Some account.Invoke) =
    is_among (account_methods account.Invoke) p.method
    && hands_over_target p (invoked config (name_of p) (qualifier_of p))
hands_over_at config p (Some account.Concurrency) = false
hands_over_at config p (Some account.ReadConcurrency) = false
hands_over_at config p (Some account.Stop) = false
hands_over_at config p (Some account.Spindown) = false
hands_over_at config p (Some account.Stats) = false
hands_over_at config p (Some account.History) = false
hands_over_at config p (Some account.Trace) = false
hands_over_at config p (Some account.Environments) = false
hands_over_at config p (Some account.Version) = false
hands_over_at config p (Some account.Clock) = false
hands_over_at config p (Some account.AdvanceClock) = false
hands_over_at config p (Some account.PauseClock) = false
hands_over_at config p (Some account.ResumeClock) = false

-- Whether a request on the account's port may be handed over.
unfoldable pub account_hands_over : Config → Parts → Bool
account_hands_over config p = hands_over_at config p (route_in account_rows (uri_path p.uri))

-- Whether a request on a port may be handed over. At an environment's port none may, at one of handlers each.
abbrev pub hands_over_on : Config → Port → Parts → Bool
hands_over_on config Account p = account_hands_over config p
hands_over_on config (Environment e) p = false
hands_over_on config (Handled number) p = true

abbrev pub hands_over : Served → Parts → Bool
hands_over side p = hands_over_on side.config side.port p

-- Whether a request on a port is a handler's own: by which it gets a request or answers one. Only the account's port has
-- such routes.
abbrev pub is_of_handler_on : Port → Parts → Bool
is_of_handler_on Account p = is_of_handler (uri_path p.uri)
is_of_handler_on (Environment e) p = false
is_of_handler_on (Handled number) p = false

abbrev pub is_own : Served → Parts → Bool
is_own side p = is_of_handler_on side.port p

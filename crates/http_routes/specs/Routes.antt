-- The routes of the two kinds of ports: the table of each, the methods of each, and the one that a path matches.
use Rattle.std.specs.Prelude.{ℕ, List, [], ◌∷◌, ◌++◌, codes, Option, Result, Ok, Err, option_map}
use Rattle.matchit.specs.Rows.{RowsOf}
use Rattle.matchit.specs.Router.{RouteOf, route_from}
use Rattle.matchit.specs.Order.{placed}
use Rattle.matchit.specs.Route.{Scan, parse_route}
use Rattle.matchit.specs.Seek.{first}
use Rattle.matchit.specs.declared.error.InsertError.{InsertError}
use Rattle.http_routes.specs.Methods.{Method, get, post, put, delete}
use Rattle.http_routes.specs.declared.routes.EnvironmentRoute.{EnvironmentRoute}
use Rattle.http_routes.specs.declared.routes.EnvironmentRoute.TheVariants as environment
use Rattle.http_routes.specs.declared.routes.AccountRoute.{AccountRoute}
use Rattle.http_routes.specs.declared.routes.AccountRoute.TheVariants as account

-- A table: the text of each route, with the route.
abbrev pub Table : Type 0 → Type 0
Table R = List (List ℕ × R)

-- The Runtime API (2018-06-01).
unfoldable pub runtime_table : Table EnvironmentRoute
runtime_table =
    (codes "/2018-06-01/runtime/invocation/next", environment.Next)
    ∷ (codes "/2018-06-01/runtime/invocation/{id}/response", environment.Response)
    ∷ (codes "/2018-06-01/runtime/invocation/{id}/error", environment.Failure)
    ∷ (codes "/2018-06-01/runtime/init/error", environment.InitFailure)
    ∷ []

-- The Extensions API (2020-01-01).
unfoldable pub extension_table : Table EnvironmentRoute
extension_table =
    (codes "/2020-01-01/extension/register", environment.Register)
    ∷ (codes "/2020-01-01/extension/event/next", environment.ExtNext)
    ∷ (codes "/2020-01-01/extension/init/error", environment.ExtInitFailure)
    ∷ (codes "/2020-01-01/extension/exit/error", environment.ExtExitFailure)
    ∷ []

-- The Lambda API (Invoke; PutFunctionConcurrency and DeleteFunctionConcurrency; GetFunctionConcurrency).
unfoldable pub lambda_table : Table AccountRoute
lambda_table =
    (codes "/2015-03-31/functions/{name}/invocations", account.Invoke)
    ∷ (codes "/2017-10-31/functions/{name}/concurrency", account.Concurrency)
    ∷ (codes "/2019-09-30/functions/{name}/concurrency", account.ReadConcurrency)
    ∷ []

-- What this service adds for its operator, under `/_local`: what stops something,
unfoldable pub stop_table : Table AccountRoute
stop_table =
    (codes "/_local/stop", account.Stop)
    ∷ (codes "/_local/env/{n}/spindown", account.Spindown)
    ∷ []

-- what shows something without a call,
unfoldable pub view_table : Table AccountRoute
view_table =
    (codes "/_local/stats", account.Stats)
    ∷ (codes "/_local/history", account.History)
    ∷ (codes "/_local/trace", account.Trace)
    ∷ (codes "/_local/environments", account.Environments)
    ∷ (codes "/_local/version", account.Version)
    ∷ []

-- and what is about the clock.
unfoldable pub clock_table : Table AccountRoute
clock_table =
    (codes "/_local/clock", account.Clock)
    ∷ (codes "/_local/clock/advance", account.AdvanceClock)
    ∷ (codes "/_local/clock/pause", account.PauseClock)
    ∷ (codes "/_local/clock/resume", account.ResumeClock)
    ∷ []

-- The table of an environment's port, and that of the account's.
unfoldable pub environment_table : Table EnvironmentRoute
environment_table = runtime_table ++ extension_table

unfoldable pub account_table : Table AccountRoute
account_table = lambda_table ++ (stop_table ++ (view_table ++ clock_table))

-- The methods of an environment's route, in the order in which the field `Allow` lists them.
abbrev pub environment_methods : EnvironmentRoute → List Method
environment_methods environment.Next = get ∷ []
environment_methods environment.Response = post ∷ []
environment_methods environment.Failure = post ∷ []
environment_methods environment.InitFailure = post ∷ []
environment_methods environment.Register = post ∷ []
environment_methods environment.ExtNext = get ∷ []
environment_methods environment.ExtInitFailure = post ∷ []
environment_methods environment.ExtExitFailure = post ∷ []

-- The methods of a route of the account.
abbrev pub account_methods : AccountRoute → List Method
account_methods account.Invoke = post ∷ []
account_methods account.Concurrency = delete ∷ put ∷ []
account_methods account.ReadConcurrency = get ∷ []
account_methods account.Stop = post ∷ []
account_methods account.Spindown = post ∷ []
account_methods account.Stats = get ∷ []
account_methods account.History = get ∷ []
account_methods account.Trace = get ∷ []
account_methods account.Environments = get ∷ []
account_methods account.Version = get ∷ []
account_methods account.Clock = get ∷ []
account_methods account.AdvanceClock = post ∷ []
account_methods account.PauseClock = post ∷ []
account_methods account.ResumeClock = post ∷ []

-- The rows of a router.
abbrev pub RowsFor : Type 0 → Type 0
RowsFor R = RowsOf (RouteOf R)

-- These rows and a route whose text was parsed; the same rows if its text is faulty.
abbrev pub with_read : {R : Type 0} → Result Scan InsertError → R → RowsFor R → RowsFor R
with_read (Ok s) route rows = placed (s.pattern, route_from s route) rows
with_read (Err e) route rows = rows

-- These rows and one more route.
unfoldable pub with_route : {R : Type 0} → List ℕ → R → RowsFor R → RowsFor R
with_route text route rows = with_read (parse_route text) route rows

-- These rows and the routes of a table, of which the first is the first that is added.
unfoldable pub with_table : {R : Type 0} → Table R → RowsFor R → RowsFor R
with_table [] rows = rows
with_table (row ∷ table) rows = with_table table (with_route row.0 row.1 rows)

-- The rows of an environment's port, and those of the account's.
unfoldable pub environment_rows : RowsFor EnvironmentRoute
environment_rows = with_table environment_table []

unfoldable pub account_rows : RowsFor AccountRoute
account_rows = with_table account_table []

-- The route that a path matches.
abbrev pub route_in : {R : Type 0} → RowsFor R → List ℕ → Option R
route_in rows path = option_map (λ r. r.value) (first rows path)

-- A path that each route matches.
abbrev pub environment_path : EnvironmentRoute → List ℕ
environment_path environment.Next = codes "/2018-06-01/runtime/invocation/next"
environment_path environment.Response = codes "/2018-06-01/runtime/invocation/1/response"
environment_path environment.Failure = codes "/2018-06-01/runtime/invocation/1/error"
environment_path environment.InitFailure = codes "/2018-06-01/runtime/init/error"
environment_path environment.Register = codes "/2020-01-01/extension/register"
environment_path environment.ExtNext = codes "/2020-01-01/extension/event/next"
environment_path environment.ExtInitFailure = codes "/2020-01-01/extension/init/error"
environment_path environment.ExtExitFailure = codes "/2020-01-01/extension/exit/error"

abbrev pub account_path : AccountRoute → List ℕ
account_path account.Invoke = codes "/2015-03-31/functions/f/invocations"
account_path account.Concurrency = codes "/2017-10-31/functions/f/concurrency"
account_path account.ReadConcurrency = codes "/2019-09-30/functions/f/concurrency"
account_path account.Stop = codes "/_local/stop"
account_path account.Spindown = codes "/_local/env/1/spindown"
account_path account.Stats = codes "/_local/stats"
account_path account.History = codes "/_local/history"
account_path account.Trace = codes "/_local/trace"
account_path account.Environments = codes "/_local/environments"
account_path account.Version = codes "/_local/version"
account_path account.Clock = codes "/_local/clock"
account_path account.AdvanceClock = codes "/_local/clock/advance"
account_path account.PauseClock = codes "/_local/clock/pause"
account_path account.ResumeClock = codes "/_local/clock/resume"

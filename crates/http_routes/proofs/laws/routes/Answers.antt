use Rattle.std.proofs.Common.{◌≡◌, Some, refl}
use Rattle.matchit.proofs.OnLiterals.{matchit_on_literals}
use Rattle.http_routes.specs.Routes.{with_route, with_table, route_in}
use Rattle.http_routes.specs.Routes.{runtime_table, extension_table, environment_table, environment_rows, environment_path}
use Rattle.http_routes.specs.Routes.{lambda_table, stop_table, view_table, clock_table, account_table, account_rows, account_path}
use Rattle.http_routes.specs.declared.routes.EnvironmentRoute.{EnvironmentRoute}
use Rattle.http_routes.specs.declared.routes.EnvironmentRoute.TheVariants as environment
use Rattle.http_routes.specs.declared.routes.AccountRoute.{AccountRoute}
use Rattle.http_routes.specs.declared.routes.AccountRoute.TheVariants as account
use Rattle.http_routes.proofs.laws.routes.Goals as goal

-- Each line that has a variable for the route is checked for each of the other routes.

environment-found : (route : EnvironmentRoute) → route_in environment_rows (environment_path route) ≡ Some route
unfolding matchit_on_literals environment_rows environment_table runtime_table extension_table with_table with_route
environment-found environment.Next = refl
environment-found route = refl

account-found : (route : AccountRoute) → route_in account_rows (account_path route) ≡ Some route
unfolding matchit_on_literals account_rows account_table lambda_table stop_table view_table clock_table with_table with_route
account-found account.Invoke = refl
account-found route = refl

pub returns-clause-environment_routes : goal.returns-clause-environment_routes
returns-clause-environment_routes c = environment-found

pub returns-clause-account_routes : goal.returns-clause-account_routes
returns-clause-account_routes c = account-found

pub returns-clause-environment_rows : goal.returns-clause-environment_rows
unfolding matchit_on_literals environment_rows environment_table runtime_table extension_table with_table with_route
returns-clause-environment_rows c = refl

pub returns-clause-account_rows : goal.returns-clause-account_rows
unfolding matchit_on_literals account_rows account_table lambda_table stop_table view_table clock_table with_table with_route
returns-clause-account_rows c = refl

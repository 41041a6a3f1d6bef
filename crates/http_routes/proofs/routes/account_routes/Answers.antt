use Rattle.std.proofs.Common.{refl}
use Rattle.http_routes.specs.Routes.{with_table, lambda_table, stop_table, view_table, clock_table, account_table, account_rows}
use Rattle.http_routes.proofs.routes.account_routes.Goals as goal

pub returns : goal.returns
unfolding with_table lambda_table stop_table view_table clock_table account_table account_rows
returns c =
    rw (c.in_ok-add_clock.ensures, c.in_ok-add_views.ensures, c.in_ok-add_stops.ensures, c.in_ok-add_lambda.ensures, c.new-router.ensures) refl

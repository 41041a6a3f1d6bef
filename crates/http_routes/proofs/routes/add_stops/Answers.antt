use Rattle.http_routes.specs.Routes.{with_table, stop_table}
use Rattle.http_routes.proofs.routes.add_stops.Goals as goal

pub returns : goal.returns
unfolding with_table stop_table
returns c = rw (c.in_ok-add.ensures) at c.add-2.ensures

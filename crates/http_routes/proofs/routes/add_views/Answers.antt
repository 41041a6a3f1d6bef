use Rattle.http_routes.specs.Routes.{with_table, view_table}
use Rattle.http_routes.proofs.routes.add_views.Goals as goal

pub returns : goal.returns
unfolding with_table view_table
returns c = rw (c.in_ok-add-4.ensures, c.in_ok-add-3.ensures, c.in_ok-add-2.ensures, c.in_ok-add.ensures) at c.add-5.ensures

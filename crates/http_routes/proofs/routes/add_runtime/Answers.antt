use Rattle.http_routes.specs.Routes.{with_table, runtime_table}
use Rattle.http_routes.proofs.routes.add_runtime.Goals as goal

pub returns : goal.returns
unfolding with_table runtime_table
returns c = rw (c.in_ok-add-3.ensures, c.in_ok-add-2.ensures, c.in_ok-add.ensures) at c.add-4.ensures

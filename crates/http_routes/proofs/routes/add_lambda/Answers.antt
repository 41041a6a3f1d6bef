use Rattle.http_routes.specs.Routes.{with_table, lambda_table}
use Rattle.http_routes.proofs.routes.add_lambda.Goals as goal

pub returns : goal.returns
unfolding with_table lambda_table
returns c = rw (c.in_ok-add-2.ensures, c.in_ok-add.ensures) at c.add-3.ensures

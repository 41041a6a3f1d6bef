use Rattle.http_routes.specs.Routes.{with_route}
use Rattle.http_routes.proofs.RouteLemmas.{inserted}
use Rattle.http_routes.proofs.routes.add.Goals as goal

pub returns : goal.returns
unfolding with_route
returns g c = inserted _ _ _ _ _ c.insert.ensures

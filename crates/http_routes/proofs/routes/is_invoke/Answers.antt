use Rattle.http_routes.proofs.ParamRoutes.{invoke_route, no_slashes}
use Rattle.http_routes.proofs.routes.is_invoke.Goals as goal

pub returns-in-Some : goal.returns-in-Some
returns-in-Some c = λ _.
    let part = c.in-Some.ensures in
    rw part.1 (invoke_route c.in-Some.field-0.0 c.in-Some.field-0.1.now part.0 (no_slashes _ _ part.2))

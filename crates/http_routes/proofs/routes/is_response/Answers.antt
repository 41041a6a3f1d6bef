use Rattle.http_routes.proofs.ParamRoutes.{response_route, no_slashes, other_byte}
use Rattle.http_routes.proofs.routes.is_response.Goals as goal

pub returns-in-Some : goal.returns-in-Some
returns-in-Some c = λ differs.
    let part = c.in-Some.ensures in
    rw part.1 (response_route c.in-Some.first c.in-Some.field-0-1.now part.0 (other_byte c.in-Some.first differs) (no_slashes _ _ part.2))

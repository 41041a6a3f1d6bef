use Rattle.std.proofs.Common.{◌≡◌, ◌++◌, ap, sym, ◌∙◌}
use Rattle.http_routes.proofs.path.path_part_behind.Goals as goal

pub returns-in-Some : goal.returns-in-Some
returns-in-Some c =
    let stripped = c.in-Some.ensures.cases in
    let path : c.args.path.now ≡ c.args.front.now ++ c.in-Some.rest.now = stripped.1.1 ∙ ap (λ l. c.args.front.now ++ l) (sym stripped.2) in
    rw (path, c.requires c.in-Some.rest.now) c.path_part.ensures

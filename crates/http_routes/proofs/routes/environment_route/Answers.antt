use Rattle.std.proofs.Common.{codes, refl, sym}
use Rattle.std.proofs.lemmas.Slice.Eq.{bytes_eq-Decides}
use Rattle.matchit.proofs.OnLiterals.{matchit_on_literals}
use Rattle.http_routes.specs.Routes.{with_route, with_table, runtime_table, extension_table, environment_table, environment_rows}
use Rattle.http_routes.proofs.routes.environment_route.Goals as goal

pub returns-then-eq : goal.returns-then-eq
unfolding matchit_on_literals environment_rows environment_table runtime_table extension_table with_table with_route
returns-then-eq c =
    rw ((bytes_eq-Decides c.args.path.now (codes "/2018-06-01/runtime/invocation/next")).0 (sym c.if-eq.ensures)) refl

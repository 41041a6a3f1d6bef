use Rattle.std.proofs.Common.{refl}
use Rattle.http_routes.specs.Routes.{with_table, runtime_table, extension_table, environment_table, environment_rows}
use Rattle.http_routes.proofs.routes.environment_routes.Goals as goal

pub returns : goal.returns
unfolding with_table runtime_table extension_table environment_table environment_rows
returns c = rw (c.in_ok-add_extensions.ensures, c.in_ok-add_runtime.ensures, c.new-router.ensures) refl

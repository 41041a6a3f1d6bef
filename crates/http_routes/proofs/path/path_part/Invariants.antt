use Rattle.std.proofs.Common.{◌≡◌, ◌-◌}
use denote.Text.{Utf8}
use denote.Shadow.{shadow}
use Rattle.http_routes.specs.Paths.{path_part}
use Rattle.http_routes.proofs.path.path_part.Given as goal

abbrev pub invariant-loop : goal.invariant-loop
invariant-loop l = shadow (Utf8 l.rest) × (path_part (l.n - l.counter) l.rest ≡ path_part l.n l.fn.path)

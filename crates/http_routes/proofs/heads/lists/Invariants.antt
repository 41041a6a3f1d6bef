use Rattle.std.proofs.Common.{◌≡◌, length, bytes_eq}
use Rattle.std.specs.List.{list_any}
use Rattle.http_routes.specs.Heads.{parts, trimmed}
use Rattle.http_routes.specs.Views.{parts_left}
use Rattle.http_routes.proofs.heads.lists.Given as goal

abbrev pub invariant-loop-rest : goal.invariant-loop-rest
invariant-loop-rest l =
    list_any (λ part. bytes_eq (trimmed part) l.fn.feature) (parts_left l.rest) ≡ list_any (λ part. bytes_eq (trimmed part) l.fn.feature) (parts l.fn.bytes)

abbrev pub decreases-loop-rest : goal.decreases-loop-rest
decreases-loop-rest l = length (parts_left l.rest)

use Rattle.std.proofs.Common.{◌≡◌}
use Rattle.form_urlencoded.specs.Form.{raw_pairs}
use Rattle.form_urlencoded.specs.Parse.{raw_pairs_left}
use Rattle.http_routes.specs.Paths.{first_named}
use Rattle.http_routes.proofs.path.first_named.Given as goal

abbrev pub invariant-loop-other : goal.invariant-loop-other
invariant-loop-other l =
    (goal.iterator-loop-other).can_next l.pairs × (goal.iterator-loop-other).is_finite l.pairs
    × (first_named l.fn.name (raw_pairs_left l.pairs) ≡ first_named l.fn.name (raw_pairs l.fn.query))

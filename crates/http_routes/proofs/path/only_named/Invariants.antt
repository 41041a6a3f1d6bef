use Rattle.std.proofs.Common.{◌≡◌, option_map}
use Rattle.std.specs.Cow.{cow_str_bytes}
use Rattle.form_urlencoded.specs.Form.{raw_pairs}
use Rattle.form_urlencoded.specs.Parse.{raw_pairs_left}
use Rattle.http_routes.specs.Paths.{all_named, only}
use Rattle.http_routes.specs.Views.{value_before}
use Rattle.http_routes.proofs.path.only_named.Given as goal

abbrev pub invariant-loop-other : goal.invariant-loop-other
invariant-loop-other l =
    (goal.iterator-loop-other).can_next l.pairs × (goal.iterator-loop-other).is_finite l.pairs
    × (only (value_before (option_map cow_str_bytes l.found) (all_named l.fn.name (raw_pairs_left l.pairs))) ≡ only (all_named l.fn.name (raw_pairs l.fn.query)))

use Rattle.std.proofs.Common.{◌≡◌, length}
use Rattle.std.specs.List.{list_any}
use Rattle.std.specs.Str.{str_eq_ignore_ascii_case}
use Rattle.request_guard.specs.Names.{lists}
use Rattle.request_guard.specs.Views.{pieces_left}
use Rattle.request_guard.proofs.names.lists.Given as goal

abbrev pub invariant-loop-rest : goal.invariant-loop-rest
invariant-loop-rest l = list_any (λ part. str_eq_ignore_ascii_case part l.fn.name) (pieces_left l.rest) ≡ lists l.fn.listed l.fn.name

abbrev pub decreases-loop-rest : goal.decreases-loop-rest
decreases-loop-rest l = length (pieces_left l.rest)

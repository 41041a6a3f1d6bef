use Rattle.std.proofs.Common.{◌≡◌, ◌==◌, length}
use Rattle.std.specs.List.{list_all, slice_split}
use Rattle.request_guard.specs.Hosts.{is_listed}
use Rattle.request_guard.specs.Views.{pieces_left}
use Rattle.request_guard.proofs.hosts.are_names.Given as goal

abbrev pub invariant-loop-rest : goal.invariant-loop-rest
invariant-loop-rest l = list_all is_listed (pieces_left l.rest) ≡ list_all is_listed (slice_split (λ b. b == 44) l.fn.text)

abbrev pub decreases-loop-rest : goal.decreases-loop-rest
decreases-loop-rest l = length (pieces_left l.rest)

use Rattle.std.proofs.Common.{◌≡◌, ◌==◌, [], length}
use Rattle.std.specs.List.{slice_split}
use Rattle.service_port.specs.Handled.{with_all}
use Rattle.service_port.specs.Views.{pieces_left}
use Rattle.service_port.proofs.handled.ports_in.Given as goal

abbrev pub invariant-loop-rest : goal.invariant-loop-rest
invariant-loop-rest l = with_all l.numbers.items (pieces_left l.rest) ≡ with_all [] (slice_split (λ b. b == 44) l.fn.text)

abbrev pub decreases-loop-rest : goal.decreases-loop-rest
decreases-loop-rest l = length (pieces_left l.rest)

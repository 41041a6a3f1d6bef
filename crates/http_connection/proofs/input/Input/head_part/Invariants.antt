use Rattle.std.proofs.Common.{length, ◌-◌, ◌≤◌}
use Rattle.http_connection.proofs.input.Input.head_part.Given as goal

abbrev pub invariant-loop-part : goal.invariant-loop-part
invariant-loop-part l = l.part ≤ length l.bytes

abbrev pub decreases-loop-part : goal.decreases-loop-part
decreases-loop-part l = length l.bytes - l.part

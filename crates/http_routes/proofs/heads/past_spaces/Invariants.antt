use Rattle.std.proofs.Common.{◌≡◌, length}
use Rattle.http_routes.specs.Heads.{past_spaces}
use Rattle.http_routes.proofs.heads.past_spaces.Given as goal

abbrev pub invariant-loop-first : goal.invariant-loop-first
invariant-loop-first l = past_spaces l.rest ≡ past_spaces l.fn.bytes

abbrev pub decreases-loop-first : goal.decreases-loop-first
decreases-loop-first l = length l.rest

use Rattle.std.proofs.Common.{◌≡◌, length, reverse}
use Rattle.http_routes.specs.Heads.{past_spaces}
use Rattle.http_routes.proofs.heads.before_spaces.Given as goal

abbrev pub invariant-loop-last : goal.invariant-loop-last
invariant-loop-last l = past_spaces (reverse l.rest) ≡ past_spaces (reverse l.fn.bytes)

abbrev pub decreases-loop-last : goal.decreases-loop-last
decreases-loop-last l = length l.rest

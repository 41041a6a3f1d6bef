use Rattle.std.proofs.Common.{◌≡◌, ℕ, ◌*◌, ◌<◌, false}
use Rattle.placement.specs.Sets.{has_at}
use Rattle.placement.proofs.env_set.EnvSet.lowest.Given as goal

abbrev pub invariant-loop-index : goal.invariant-loop-index
invariant-loop-index l = (i : ℕ) → i < l.index * 64 → has_at l.self i ≡ false

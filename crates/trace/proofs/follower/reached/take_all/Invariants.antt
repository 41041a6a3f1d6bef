use Rattle.std.proofs.Common.{◌≡◌, ◌++◌, map, take, drop}
use Rattle.trace.specs.Sites.{moved_by}
use Rattle.trace.proofs.follower.reached.take_all.Given as goal

abbrev pub invariant-loop-index : goal.invariant-loop-index
invariant-loop-index l = l.sites ≡ map (moved_by l.arrival) (take l.index l.initial.sites) ++ drop l.index l.initial.sites

use Rattle.std.proofs.Common.{◌≡◌, ◌++◌, map, take, drop}
use Rattle.trace.specs.Sites.{counted_in}
use Rattle.trace.proofs.follower.reached.count_all.Given as goal

abbrev pub invariant-loop-index : goal.invariant-loop-index
invariant-loop-index l = l.sites ≡ map (counted_in l.call) (take l.index l.initial.sites) ++ drop l.index l.initial.sites

use Rattle.std.proofs.Common.{◌≡◌, take, ◌≤◌, count_by}
use Rattle.extension_set.specs.Names.{lacks}
use Rattle.extension_set.proofs.set.ExtensionSet.unregistered.Given as goal

abbrev pub invariant-loop-name : goal.invariant-loop-name
invariant-loop-name l = (l.count ≡ count_by (lacks l.self) (take l.name-index l.names)) × (l.count ≤ l.name-index)

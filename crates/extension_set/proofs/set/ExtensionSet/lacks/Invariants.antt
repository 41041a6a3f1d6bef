use Rattle.std.proofs.Common.{◌≡◌, take, reverse}
use Rattle.extension_set.specs.Names.{lacks}
use Rattle.extension_set.proofs.set.ExtensionSet.lacks.Given as goal

abbrev pub invariant-loop-member : goal.invariant-loop-member
invariant-loop-member l = l.missing ≡ lacks (reverse (take l.member-index l.member-items)) l.name

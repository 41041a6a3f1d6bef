use Rattle.std.proofs.Common.{◌≡◌, take, reverse}
use Rattle.std.specs.List.{find}
use Rattle.call_model.specs.Generation.{has_count}
use Rattle.extension_set.specs.Registering.{owes_end}
use Rattle.extension_set.proofs.set.ExtensionSet.owes_end.Given as goal

abbrev pub invariant-loop-member : goal.invariant-loop-member
invariant-loop-member l = l.owes ≡ owes_end (find (has_count l.count) (reverse (take l.member-index l.member-items)))

use Rattle.std.proofs.Common.{◌≡◌, take, reverse, ◌≤◌, []}
use Rattle.call_model.specs.Generation.{missing}
use Rattle.extension_set.proofs.set.ExtensionSet.silent.Given as goal

abbrev pub invariant-loop-member : goal.invariant-loop-member
invariant-loop-member l = (l.silent ≡ missing (reverse (take l.member-index l.member-items)) []) × (l.silent ≤ l.member-index)

use Rattle.std.proofs.Common.{◌≡◌, take, reverse, length, ◌≤◌}
use Rattle.call_model.specs.Generation.{awaited}
use Rattle.extension_set.proofs.set.ExtensionSet.waiting.Given as goal

abbrev pub invariant-loop-member : goal.invariant-loop-member
invariant-loop-member l = (l.waiting ≡ length (awaited (reverse (take l.member-index l.member-items)))) × (l.waiting ≤ l.member-index)

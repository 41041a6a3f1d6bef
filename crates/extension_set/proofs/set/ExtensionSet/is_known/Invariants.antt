use Rattle.std.proofs.Common.{◌≡◌, take, reverse}
use Rattle.std.specs.List.{list_any}
use Rattle.call_model.specs.Generation.{has_count}
use Rattle.extension_set.proofs.set.ExtensionSet.is_known.Given as goal

abbrev pub invariant-loop-member : goal.invariant-loop-member
invariant-loop-member l = l.found ≡ list_any (has_count l.count) (reverse (take l.member-index l.member-items))

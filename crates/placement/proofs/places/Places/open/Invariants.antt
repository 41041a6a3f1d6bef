use Rattle.std.proofs.Common.{◌≡◌, ◌+◌, length, map}
use Rattle.arn_ids.specs.Environments.{count_from, function_of}
use Rattle.placement.specs.declared.places.Place.{Place}
use Rattle.placement.specs.declared.class.Class.TheVariants.{StartingFree}
use Rattle.placement.specs.Sets.{Follows}
use Rattle.placement.proofs.places.Places.open.Given as goal

abbrev pub invariant-loop-index : goal.invariant-loop-index
invariant-loop-index l =
    (l.places.items ≡ map {B = Place} (λ e. record { function = function_of l.config e; class = StartingFree }) (count_from 1 l.index))
    × (length l.free.items ≡ length l.config.functions + 1)
    × Follows l.free.items l.places.items

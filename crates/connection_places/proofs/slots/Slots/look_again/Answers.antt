use Rattle.std.proofs.Common.{◌∙◌}
use Rattle.std.proofs.Math.Seq.{map-set_same}
use Rattle.connection_places.specs.Places.{standing}
use Rattle.connection_places.proofs.slots.Slots.look_again.Goals as goal

pub loop-slot-preserved : goal.loop-slot-preserved
loop-slot-preserved g c =
    map-set_same standing c.loop-slot.slot-items c.loop-slot.slot-index c.look_again.new.self c.slot-item.result c.look_again.ensures ∙ c.loop-slot.invariant

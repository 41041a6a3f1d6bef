use Rattle.std.proofs.Common.{◌∙◌}
use Rattle.std.proofs.Math.Seq.{map-set_same}
use Rattle.connection_places.specs.Places.{standing}
use Rattle.connection_places.proofs.slots.Slots.end_the_idle.Goals as goal

pub loop-slot-preserved : goal.loop-slot-preserved
loop-slot-preserved g c =
    map-set_same standing c.loop-slot.slot-items c.loop-slot.slot-index c.end_if_idle.new.self c.slot-item.result c.end_if_idle.ensures ∙ c.loop-slot.invariant

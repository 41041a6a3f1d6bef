use Rattle.std.proofs.lemmas.List.{length-map}
use Rattle.connection_places.specs.Places.{standing}
use Rattle.connection_places.proofs.slots.Slots.has_room.Goals as goal

pub returns : goal.returns
returns g c = rw (c.len.ensures, c.self.inside.slots.ok.0, ← c.self.view_is, length-map c.self.inside.slots.items standing)

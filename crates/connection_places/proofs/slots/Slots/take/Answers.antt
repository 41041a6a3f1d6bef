use Rattle.std.proofs.Common.{◌≡◌, ◌<◌, ◌∙◌, Some, length, map, sym}
use Rattle.connection_places.specs.Places.{next_free, standing, taken}
use Rattle.connection_places.proofs.Standings.{becomes, below_seen}
use Rattle.connection_places.proofs.slots.Slots.take.Goals as goal

pub returns-clause-taken : goal.returns-clause-taken
returns-clause-taken g c =
    let found : next_free (map standing c.self.inside.slots.items) ≡ Some c.in_ok-at.at =
    rw (← c.as_slice.ensures.value) (sym c.next_free.ensures ∙ c.in_ok-at.was) in
    let within : c.in_ok-at.at < length c.self.inside.slots.items = below_seen c.self.inside.slots.items c.in_ok-at.at found in
    becomes taken c.self.inside.most c.self.inside.slots.items c.in_ok-at.at c.take.new.self c.index_mut.result.now c.args.self.now within c.take.ensures c.index_mut.ensures.value c.self.view_is

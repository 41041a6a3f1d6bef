use Rattle.std.proofs.Common.{◌∙◌}
use Rattle.connection_places.proofs.Standings.{same}
use Rattle.connection_places.proofs.slots.Slots.ask_for_room.Goals as goal

pub returns-then-at-len : goal.returns-then-at-len
returns-then-at-len g c =
    same c.self-2.inside.most c.self-2.inside.slots.items c.in-Some.at c.ask_for_room.new.self c.index_mut.result.now c.args.self.now c.ask_for_room.ensures c.index_mut.ensures.value (c.self-2.view_is ∙ c.look_again.ensures)

use Rattle.std.proofs.Common.{◌<◌, length, arith}
use Rattle.connection_places.specs.Places.{given_back}
use Rattle.connection_places.proofs.Standings.{becomes}
use Rattle.connection_places.proofs.slots.Slots.give_back.Goals as goal

pub returns-then-at-len : goal.returns-then-at-len
returns-then-at-len g c =
    let within : c.args.at < length c.self.inside.slots.items = omega (arith, c.if-at-len.true, c.len.ensures, c.self.inside.slots.ok.0) in
    becomes given_back c.self.inside.most c.self.inside.slots.items c.args.at c.give_back.new.self c.index_mut.result.now c.args.self.now within c.give_back.ensures c.index_mut.ensures.value c.self.view_is

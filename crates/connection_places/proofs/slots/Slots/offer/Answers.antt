use Rattle.std.proofs.Common.{◌≡◌, ◌<◌, length, arith, map, slice_set}
use Rattle.std.proofs.lemmas.Result.{IfOk-weaker, IfErr-weaker}
use Rattle.connection_places.specs.Places.{Becomes, standing, unstaffed}
use Rattle.connection_places.proofs.Standings.{becomes, same}
use Rattle.connection_places.proofs.slots.Slots.offer.Goals as goal

pub returns-then-at-len-clause-given : goal.returns-then-at-len-clause-given
returns-then-at-len-clause-given g c =
    IfOk-weaker _ _ _
    (λ _ is. same c.self.inside.most c.self.inside.slots.items c.args.at c.offer.new.self c.index_mut.result.now c.args.self.now is c.index_mut.ensures.value c.self.view_is)
    c.offer.ensures.given

pub returns-then-at-len-clause-back : goal.returns-then-at-len-clause-back
returns-then-at-len-clause-back g c =
    let within : c.args.at < length c.self.inside.slots.items = omega (arith, c.if-at-len.true, c.len.ensures, c.self.inside.slots.ok.0) in
    IfErr-weaker _ _
    (λ back. (back ≡ c.args.visit)
    × Becomes unstaffed c.args.at c.args.self.now (record { most = c.self.inside.most; places = map standing (slice_set c.self.inside.slots.items c.args.at c.offer.new.self) }))
    (λ _ is. (is.0, becomes unstaffed c.self.inside.most c.self.inside.slots.items c.args.at c.offer.new.self c.index_mut.result.now c.args.self.now within is.1 c.index_mut.ensures.value c.self.view_is))
    c.offer.ensures.back

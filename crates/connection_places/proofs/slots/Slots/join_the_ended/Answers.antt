use Rattle.std.proofs.Common.{◌≡◌, ◌<◌, arith, length, map, subst, sym}
use Rattle.std.proofs.lemmas.List.{with_items_is}
use Rattle.connection_places.specs.Places.{EachEither, SomeBecome, standing, unstaffed}
use Rattle.connection_places.proofs.Changes.{each_before, each_seen, once_unstaffed, some_seen}
use Rattle.connection_places.proofs.slots.Slots.join_the_ended.Goals as goal

pub loop-slot-init : goal.loop-slot-init
loop-slot-init g c = each_before unstaffed (map standing c.deref_mut-slot-items.result.now)

pub loop-slot-preserved : goal.loop-slot-preserved
loop-slot-preserved g c =
    let within : c.loop-slot.slot-index < length c.loop-slot.slot-items = omega (arith, c.loop-slot-test.true, c.loop-slot.auto.slot-items) in
    each_seen unstaffed once_unstaffed c.loop-slot.slot-index c.deref_mut-slot-items.result.now c.loop-slot.slot-items c.join_if_ended.new.self c.slot-item.result within c.join_if_ended.ensures c.loop-slot.invariant

pub returns : goal.returns
returns g c =
    let long : length c.loop-slot.slot-items ≡ c.self.inside.slots.len = omega (arith, c.loop-slot.auto.slot-items, c.deref_mut-slot-items.ensures.len) in
    subst (λ slots. SomeBecome unstaffed c.args.self.now (record { most = c.self.inside.most; places = map standing slots }))
    (sym (with_items_is c.self.inside.slots c.loop-slot.slot-items long))
    (some_seen unstaffed c.self.inside.most c.self.inside.slots.items c.loop-slot.slot-items c.args.self.now c.self.view_is
    (subst (λ slots. EachEither unstaffed (map standing slots) (map standing c.loop-slot.slot-items)) c.deref_mut-slot-items.ensures.value c.loop-slot.invariant))

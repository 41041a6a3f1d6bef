use Rattle.std.proofs.Common.{◌≡◌, ◌≤◌, ◌<◌, ◌∙◌, ap, arith, length, map}
use Rattle.std.proofs.lemmas.List.{length-map, with_items_is}
use Rattle.connection_places.specs.Places.{Places, standing, unstaffed}
use Rattle.connection_places.proofs.Changes.{upto_all, upto_seen}
use Rattle.connection_places.proofs.slots.Slots.join_all.Goals as goal

pub loop-slot-preserved : goal.loop-slot-preserved
loop-slot-preserved g c =
    let within : c.loop-slot.slot-index < length c.loop-slot.slot-items = omega (arith, c.loop-slot-test.true, c.loop-slot.auto.slot-items) in
    upto_seen unstaffed c.loop-slot.slot-index c.deref_mut-slot-items.result.now c.loop-slot.slot-items c.join.new.self c.slot-item.result c.loop-slot-test.true within c.join.ensures c.loop-slot.invariant

pub returns : goal.returns
returns g c =
    let long : length c.loop-slot.slot-items ≡ c.self.inside.slots.len = omega (arith, c.loop-slot.auto.slot-items, c.deref_mut-slot-items.ensures.len) in
    let all : length (map standing c.deref_mut-slot-items.result.now) ≤ c.loop-slot.slot-index =
    omega (arith, length-map c.deref_mut-slot-items.result.now standing, c.loop-slot-test.false) in
    ap (λ ps. record { most = c.self.inside.most; places = ps })
    (ap (map standing) (with_items_is c.self.inside.slots c.loop-slot.slot-items long)
    ∙ upto_all unstaffed c.loop-slot.slot-index (map standing c.deref_mut-slot-items.result.now) (map standing c.loop-slot.slot-items) all c.loop-slot.invariant
    ∙ ap (λ slots. map unstaffed (map standing slots)) c.deref_mut-slot-items.ensures.value)
    ∙ ap (λ (p : Places). record { most = p.most; places = map unstaffed p.places }) c.self.view_is

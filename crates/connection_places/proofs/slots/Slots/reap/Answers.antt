use Rattle.std.proofs.Common.{refl, subst, sym}
use Rattle.connection_places.specs.Places.{Places, SomeBecome, added, closed}
use Rattle.connection_places.proofs.Changes.{each_before, each_becomes, once_closed}
use Rattle.connection_places.proofs.slots.Slots.reap.Goals as goal

pub loop-init : goal.loop-init
loop-init g c = (refl, each_before closed c.args.self.now.places)

pub loop-preserved : goal.loop-preserved
loop-preserved g c =
    subst (λ (p : Places). SomeBecome closed c.args.self.now p) (sym (c.see_out.ensures added))
    (c.loop.invariant.0, each_becomes closed once_closed c.args.self.now.places c.loop.self.places c.in-Some.at added c.loop.invariant.1)

use Rattle.std.proofs.Common.{arith, add-one}
use Rattle.std.proofs.lemmas.List.{length-take}
use Rattle.extension_set.proofs.PutInPlace.{carry_past, carry_on, carry_end}
use Rattle.call_types.specs.declared.answer.Answer.TheVariants.{Delivered}
use Rattle.extension_set.proofs.moves.Moves.put.Goals as goal
use Rattle.extension_set.proofs.moves.Moves.put.Goals.{then-carried-self, else-carried-self}

pub loop-place-preserved : goal.loop-place-preserved
loop-place-preserved c = elim c.if-carried-self.branch [
  | then-carried-self w ↦ rw (w.carried-is, w.self-inside-is, add-one c.loop-place.place) (carry_on c.loop-place.place _ _ _ c.loop-place.carried (0, Delivered 0 0) c.self.inside.pairs c.loop-place.self-inside.pairs c.loop-place.invariant (omega (arith, c.loop-place.invariant.same_count, c.loop-place-test.true)) (omega (arith, c.loop-place-test.true, c.loop-place.invariant.fits)) w.if-carried-self.true)
  | else-carried-self w ↦ rw (w.carried-is, w.self-inside-is, add-one c.loop-place.place) (carry_past c.loop-place.place _ _ _ c.loop-place.carried (0, Delivered 0 0) c.self.inside.pairs c.loop-place.self-inside.pairs c.loop-place.invariant (omega (arith, c.loop-place.invariant.same_count, c.loop-place-test.true)) (omega (arith, c.loop-place-test.true, c.loop-place.invariant.fits)) w.if-carried-self.false)
]

pub returns : goal.returns
returns c =
    let few = rw (← c.self.view_is) at c.requires in
    let last = carry_end c.loop-place.place _ _ _ c.loop-place.carried c.self.inside.pairs c.loop-place.self-inside.pairs c.loop-place.invariant (omega arith)
    (omega (arith, few, length-take c.self.inside.count c.self.inside.pairs)) in
    rw (add-one, ← c.self.view_is, ← c.loop-place.invariant.same_count) last

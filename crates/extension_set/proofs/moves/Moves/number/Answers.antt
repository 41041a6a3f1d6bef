use Rattle.std.proofs.Common.{arith, refl, add-one}
use Rattle.extension_set.proofs.NumberedInPlace.{number_more}
use Rattle.call_types.specs.declared.answer.Answer.TheVariants.{Delivered}
use Rattle.extension_set.proofs.moves.Moves.number.Goals as goal

pub loop-place-preserved : goal.loop-place-preserved
loop-place-preserved c =
    rw (c.events_in_answer-last.ensures, c.with_number.ensures, add-one c.loop-place.place, add-one c.loop-place.last)
    (number_more c.loop-place.place _ _ _ c.loop-place.last (0, Delivered 0 0) c.self.inside.pairs c.loop-place.self-inside.pairs c.loop-place.invariant (omega (arith, c.loop-place.invariant.same_count, c.loop-place-test.true)) (omega (arith, c.loop-place-test.true, c.loop-place.invariant.fits)) _ refl)

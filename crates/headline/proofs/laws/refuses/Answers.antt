use Rattle.std.proofs.Common.{◌≡◌, ◌≤◌, ◌⊎◌, [], inl, inr, refl, arith, true≢false, sym}
use Rattle.call_model.specs.Answers.{answers, first_answers, own_first, first_answer, second_answer, answer_to}
use Rattle.call_model.specs.Generation.{members}
use Rattle.call_model.specs.Life.{seen, after, lived, life}
use Rattle.call_model.specs.Limits.{in_flight, place, reservation, verdict}
use Rattle.call_model.specs.Next.{IsLegal, due}
use Rattle.call_model.specs.Stand.{role}
use Rattle.call_model.specs.Table.{own_answer, closes, kept, to_waiting}
use Rattle.call_model.specs.Sample.{one}
use Rattle.headline.specs.Headline.{Waits, Answered, IsWithinLimits}
use Rattle.headline.specs.Refused.{admitted, answered_twice, one_waits, shut, two_wait}
use Rattle.headline.proofs.Holding.{holds}
use Rattle.headline.proofs.laws.refuses.Goals as goal

no_fate : Waits one answered_twice 0 1 ⊎ Answered one answered_twice 0 → ⊥
no_fate (inl w) = true≢false (sym w.waits)
no_fate (inr a) = let twice : 2 ≡ 1 = a.once in omega (arith, twice)

passed : IsWithinLimits shut [] admitted 1 → ⊥
unfolding in_flight reservation
passed w = let more : 1 ≤ 0 = w.reserved 0 refl in omega (arith, more)

-- the history in which one waits is legal
waits_legal : IsLegal one one_waits
unfolding due answers first_answers first_answer second_answer answer_to own_first role own_answer closes kept
    to_waiting members seen after lived life verdict in_flight reservation place
waits_legal = (tt, record { later = omega arith; timely = refl; answers = refl; place = refl })

no_two : Waits one two_wait 1 1 ⊎ Answered one two_wait 1 → ⊥
no_two (inl w) = let same : 0 ≡ 1 = w.alone 0 refl refl in omega (arith, same)
no_two (inr a) = true≢false a.over

pub returns-clause-waits : goal.returns-clause-waits
returns-clause-waits c = let whole = holds one one_waits waits_legal in (whole, whole.fates 0 1 refl)

pub returns-clause-alone : goal.returns-clause-alone
returns-clause-alone c = λ fates. no_two fates.fate

pub returns-clause-twice : goal.returns-clause-twice
returns-clause-twice c = λ fates. no_fate fates.fate

pub returns-clause-past : goal.returns-clause-past
returns-clause-past c = passed

pub returns-clause-counts : goal.returns-clause-counts
returns-clause-counts c = λ config h told headline. headline.counts

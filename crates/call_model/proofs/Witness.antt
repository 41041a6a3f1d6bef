-- Histories that show what the laws need and that they are not empty.
use Rattle.std.proofs.Common.{◌≡◌, List, [], ◌∷◌, Some, None, refl, arith}
use Rattle.call_types.specs.declared.answer.Throttle.TheVariants.{Environments as ByEnvironments}
use Rattle.call_types.specs.declared.call.Call.TheVariants.{Reserve, RuntimeNext, Response}
use Rattle.call_types.specs.declared.call.Entry.{Entry}
use Rattle.arn_ids.specs.declared.config.Config.{Config}
use Rattle.call_model.specs.Next.{next, added, due, IsLegal}
use Rattle.call_model.specs.Answers.{answers, first_answers, own_first, first_answer, second_answer, answer_to}
use Rattle.call_model.specs.Life.{seen, after, lived, life}
use Rattle.call_model.specs.Stand.{role}
use Rattle.call_model.specs.Table.{own_answer, closes, kept, to_waiting}
use Rattle.call_model.specs.Generation.{members}
use Rattle.call_model.specs.Limits.{verdict, Refuses, in_flight, reservation, place, unreserved_in_flight, remainder}
use Rattle.call_model.specs.Laws.{deliveries, times, charged_in}
use Rattle.call_model.specs.Isolation.{IsUnnamed}
use Rattle.call_model.specs.Sample.{function, account, one, reserved_two, invoke, run}

-- a configuration with a reservation above its environments: without its premise never_crowded is false
crowded : Config
crowded = account 1000 100 ((function 3 (Some 1) [] 0) ∷ [])

crowded_is_local : (verdict crowded [] 1 ≡ Refuses ByEnvironments) × (reservation crowded [] 1 ≡ Some 1)
unfolding verdict reservation place in_flight life crowded
crowded_is_local = (refl, refl)

-- the first call is legal
first_call : List Entry
unfolding run next added due answers first_answers first_answer second_answer answer_to own_first role own_answer closes
    kept to_waiting members seen after lived life verdict in_flight reservation place
first_call = run one [] ((500, RuntimeNext 1) ∷ (1000, invoke 1) ∷ (1200, Response 1 1 []) ∷ [])

first_call_legal : IsLegal one first_call
unfolding first_call run next added due answers first_answers first_answer second_answer answer_to own_first role
    own_answer closes kept to_waiting members seen after lived life verdict in_flight reservation place
first_call_legal =
    (((tt, record { later = omega arith; timely = refl; answers = refl; place = refl }), record { later = omega arith; timely = refl; answers = refl; place = refl }), record { later = omega arith; timely = refl; answers = refl; place = refl })

first_call_counts : (deliveries first_call 1 ≡ 1) × (times first_call 1 ≡ 1) × (charged_in one first_call 1 ≡ 1)
unfolding first_call run next added due answers first_answers first_answer second_answer answer_to own_first role
    own_answer closes kept to_waiting members seen after lived life verdict in_flight reservation place
first_call_counts = (refl, refl, refl)

-- it has no Reserve
first_call_unnamed : IsUnnamed 1 first_call
unfolding first_call run next added due answers first_answers first_answer second_answer answer_to own_first role
    own_answer closes kept to_waiting members seen after lived life verdict in_flight reservation place
first_call_unnamed = (((tt, refl), refl), refl)

-- a lowered reservation: without re_reserved h ≡ false always_reserved is false
lowered : List Entry
unfolding run next added due answers first_answers first_answer second_answer answer_to own_first role own_answer closes
    kept to_waiting members seen after lived life verdict in_flight reservation place
lowered = run reserved_two [] ((1, RuntimeNext 1) ∷ (2, RuntimeNext 2) ∷ (3, invoke 1) ∷ (4, invoke 1) ∷ (5, Reserve 1 (Some 1)) ∷ [])

lowered_is_over : (in_flight reserved_two lowered 1 ≡ 2) × (reservation reserved_two lowered 1 ≡ Some 1)
unfolding lowered run next added due answers first_answers first_answer second_answer answer_to own_first role
    own_answer closes kept to_waiting members seen after lived life verdict in_flight reservation place
lowered_is_over = (refl, refl)

-- a new reservation of another function: without it always_unreserved is false
small : Config
small = account 2 0 ((function 3 None [] 2) ∷ (function 3 None [] 1) ∷ [])

taken_away : List Entry
unfolding run next added due answers first_answers first_answer second_answer answer_to own_first role own_answer closes
    kept to_waiting members seen after lived life verdict in_flight reservation place small
taken_away = run small [] ((1, RuntimeNext 1) ∷ (2, RuntimeNext 2) ∷ (3, invoke 1) ∷ (4, invoke 1) ∷ (5, Reserve 2 (Some 1)) ∷ [])

taken_is_over : (unreserved_in_flight small taken_away ≡ 2) × (remainder small taken_away ≡ 1)
unfolding taken_away run next added due answers first_answers first_answer second_answer answer_to own_first role
    own_answer closes kept to_waiting members seen after lived life verdict in_flight reservation place small
taken_is_over = (refl, refl)

-- Worked histories of isolation: what a function's own history shows, and how isolation fails without its premises.
use Rattle.std.specs.Prelude.{◌≡◌, ℕ, List, [], ◌∷◌, Some, None, refl}
use Rattle.call_types.specs.declared.call.Call.{Call}
use Rattle.call_types.specs.declared.call.Call.TheVariants.{RuntimeNext, Tick, Stop, Reserve}
use Rattle.call_types.specs.declared.answer.Answer.{Answer}
use Rattle.call_types.specs.declared.answer.Answer.TheVariants.{Delivered, TimedOut, Output, Accepted, Done, Refused}
use Rattle.call_types.specs.declared.answer.Rejection.TheVariants.{Container}
use Rattle.call_types.specs.declared.answer.Throttle.TheVariants.{Function as ByFunction, Account as ByAccount}
use Rattle.arn_ids.specs.declared.config.Config.{Config}
use Rattle.arn_ids.specs.declared.config.Function.{Function}
use Rattle.call_model.specs.Next.{next, added, due}
use Rattle.call_model.specs.Answers.{answers, first_answers, own_first, first_answer, second_answer, answer_to}
use Rattle.call_model.specs.Life.{seen, after, lived, life}
use Rattle.call_model.specs.Stand.{role}
use Rattle.call_model.specs.Table.{own_answer, closes, kept, to_waiting}
use Rattle.call_model.specs.Generation.{members}
use Rattle.call_model.specs.Limits.{verdict, Verdict, Admits, Refuses, in_flight, reservation, place}
use Rattle.call_model.specs.Own.{own}
use Rattle.call_model.specs.Sample.{function, account, plain, reserved_one, invoke, response, run, lines, outcome}

-- An account with two functions of one environment each: the first is unreserved and has a timeout of 1 s, the second
-- has a reservation of 1.
abbrev neighbours : Config
neighbours = account 1000 100 (function 1 None [] 1 ∷ function 3 (Some 1) [] 1 ∷ [])

-- The answers in the own history of function f, each as (entry, ticket, answer).
unfoldable pub outcome_alone : Config → List (ℕ × Call) → ℕ → List (ℕ × ℕ × Answer)
unfolding own run next added due answers first_answers first_answer second_answer answer_to own_first role
    own_answer closes kept to_waiting members seen after lived life verdict in_flight reservation place
outcome_alone config calls f = lines (own config (run config [] calls) f)

-- The whole history: the first function is invoked and times out, and the second is invoked and responds.
own_history_of_the_account : outcome neighbours
    ((0, RuntimeNext 1) ∷ (0, RuntimeNext 2) ∷ (0, invoke 1) ∷ (1000, invoke 2) ∷ (1100, response 2 1) ∷ [])
    ≡ ((2, 0, Delivered 2 1000) ∷ (3, 2, TimedOut) ∷ (4, 1, Delivered 4 4000) ∷ (5, 4, Output 5)
    ∷ (5, 5, Accepted) ∷ [])
unfolding outcome
own_history_of_the_account = refl

-- The own history of the second function: it has a Tick for each call of the first function, and for its timeout.
own_history : outcome_alone neighbours
    ((0, RuntimeNext 1) ∷ (0, RuntimeNext 2) ∷ (0, invoke 1) ∷ (1000, invoke 2) ∷ (1100, response 2 1) ∷ []) 2
    ≡ ((0, 0, Done) ∷ (2, 2, Done) ∷ (3, 3, Done) ∷ (4, 1, Delivered 4 4000) ∷ (5, 4, Output 5) ∷ (5, 5, Accepted) ∷ [])
unfolding outcome_alone
own_history = refl

-- The calls of that own history, made alone, give the same answers.
own_history_replayed : outcome neighbours
    ((0, Tick) ∷ (0, RuntimeNext 2) ∷ (0, Tick) ∷ (1000, Tick) ∷ (1000, invoke 2) ∷ (1100, response 2 1) ∷ [])
    ≡ ((0, 0, Done) ∷ (2, 2, Done) ∷ (3, 3, Done) ∷ (4, 1, Delivered 4 4000) ∷ (5, 4, Output 5) ∷ (5, 5, Accepted) ∷ [])
unfolding outcome
own_history_replayed = refl

-- A Stop concerns every function, so it is in the own history and answers the function's own Nexts.
own_history_has_the_stop : outcome_alone neighbours ((0, RuntimeNext 1) ∷ (0, RuntimeNext 2) ∷ (10, Stop) ∷ []) 2
    ≡ ((0, 0, Done) ∷ (2, 1, Refused Container) ∷ (2, 2, Accepted) ∷ [])
unfolding outcome_alone
own_history_has_the_stop = refl

-- The environments that are due at a moment after a list of calls.
unfoldable pub due_after : Config → List (ℕ × Call) → ℕ → List ℕ
unfolding own run next added due answers first_answers first_answer second_answer answer_to own_first role
    own_answer closes kept to_waiting members seen after lived life verdict in_flight reservation place
due_after config calls now = due config (run config [] calls) now

-- The environments that are due at a moment in the own history of function f.
unfoldable pub due_alone : Config → List (ℕ × Call) → ℕ → ℕ → List ℕ
unfolding own run next added due answers first_answers first_answer second_answer answer_to own_first role
    own_answer closes kept to_waiting members seen after lived life verdict in_flight reservation place
due_alone config calls f now = due config (own config (run config [] calls) f) now

-- The verdict on the next Invoke of function f after a list of calls.
unfoldable pub verdict_after : Config → List (ℕ × Call) → ℕ → Verdict
unfolding own run next added due answers first_answers first_answer second_answer answer_to own_first role
    own_answer closes kept to_waiting members seen after lived life verdict in_flight reservation place
verdict_after config calls f = verdict config (run config [] calls) f

-- The verdict on the next Invoke of function f in its own history.
unfoldable pub verdict_alone : Config → List (ℕ × Call) → ℕ → Verdict
unfolding own run next added due answers first_answers first_answer second_answer answer_to own_first role
    own_answer closes kept to_waiting members seen after lived life verdict in_flight reservation place
verdict_alone config calls f = verdict config (own config (run config [] calls) f) f

-- A function with a reservation of 1 for its one environment, which waits for the extension a.
abbrev slow : Function
slow = function 3 (Some 1) ((97 ∷ []) ∷ []) 1

-- An account with two such functions.
abbrev two_slow : Config
two_slow = account 1000 100 (slow ∷ slow ∷ [])

-- Both environments are due at 10,000. The first belongs to another function, so its expiry is a Tick in the own
-- history of the second function.
tick_due : due_after two_slow ((0, RuntimeNext 1) ∷ (0, RuntimeNext 2) ∷ []) 10000 ≡ 1 ∷ 2 ∷ []
unfolding due_after
tick_due = refl

-- At that Tick the second environment is due: this is why `IsLegalSave` allows it.
tick_due_alone : due_alone two_slow ((0, RuntimeNext 1) ∷ (0, RuntimeNext 2) ∷ []) 2 10000 ≡ 2 ∷ []
unfolding due_alone
tick_due_alone = refl

-- An account with two unreserved functions and a limit of 1: one invocation may be in flight.
abbrev two_plain : Config
two_plain = account 1 0 (plain ∷ plain ∷ [])

-- An unreserved function is not isolated: it is throttled because of another function's invocation.
unreserved_together : verdict_after two_plain ((0, RuntimeNext 1) ∷ (0, RuntimeNext 2) ∷ (1, invoke 1) ∷ []) 2
    ≡ Refuses ByAccount
unfolding verdict_after
unreserved_together = refl

-- In its own history it is admitted.
unreserved_alone : verdict_alone two_plain ((0, RuntimeNext 1) ∷ (0, RuntimeNext 2) ∷ (1, invoke 1) ∷ []) 2 ≡ Admits 2
unfolding verdict_alone
unreserved_alone = refl

-- A function that a Reserve names is not isolated: the Reserve changes its limit, but is a Tick in its own history.
reserve_together : verdict_after reserved_one ((0, RuntimeNext 1) ∷ (1, Reserve 1 (Some 0)) ∷ []) 1 ≡ Refuses ByFunction
unfolding verdict_after
reserve_together = refl

-- In its own history it is admitted.
reserve_alone : verdict_alone reserved_one ((0, RuntimeNext 1) ∷ (1, Reserve 1 (Some 0)) ∷ []) 1 ≡ Admits 1
unfolding verdict_alone
reserve_alone = refl

-- Worked histories of runtimes, callers and their polls. Each line of an outcome is (entry, ticket, answer).
use Rattle.std.specs.Prelude.{◌≡◌, true, false, [], ◌∷◌, refl}
use Rattle.call_types.specs.declared.call.Call.TheVariants.{RuntimeNext, ResponseTooLarge, ExtNext, Tick, Withdraw}
use Rattle.call_types.specs.declared.call.Call.TheVariants.{Spindown, Stop}
use Rattle.call_types.specs.declared.answer.Answer.TheVariants.{Delivered, Ending, Registered, Accepted, Done, Output}
use Rattle.call_types.specs.declared.answer.Answer.TheVariants.{TimedOut, OutputTooLarge, Stopped, Withdrawn, Refused}
use Rattle.call_types.specs.declared.answer.Rejection.TheVariants.{State, Replaced, BadId, TooLarge, Container, NotIdle}
use Rattle.call_types.specs.declared.answer.Reason.TheVariants.{Spindown as SpunDown}
use Rattle.call_model.specs.Sample.{name_a, one, two, invoke, registers, response, outcome}

first_call : outcome one
    ((500, RuntimeNext 1) ∷ (1000, invoke 1) ∷ (1200, response 1 1) ∷ [])
    ≡ ((1, 0, Delivered 1 4000) ∷ (2, 1, Output 2) ∷ (2, 2, Accepted) ∷ [])
unfolding outcome
first_call = refl

empty_payload : outcome one
    ((1000, invoke 1) ∷ (2500, RuntimeNext 1) ∷ [])
    ≡ ((1, 1, Delivered 0 5500) ∷ [])
unfolding outcome
empty_payload = refl

-- Reports that name an earlier invocation, no invocation, or one that was never made are refused.
stale_identifiers : outcome one
    ((0, RuntimeNext 1) ∷ (0, invoke 1) ∷ (3000, RuntimeNext 1) ∷ (3100, invoke 1) ∷ (3200, response 1 1) ∷
    (3200, response 1 0) ∷ (3200, response 1 281474976710655) ∷ (3300, response 1 2) ∷ [])
    ≡ ((1, 0, Delivered 1 3000) ∷ (2, 1, TimedOut) ∷ (4, 3, Delivered 4 6100) ∷ (5, 5, Refused BadId) ∷
    (6, 6, Refused BadId) ∷ (7, 7, Refused BadId) ∷ (8, 4, Output 8) ∷ (8, 8, Accepted) ∷ [])
unfolding outcome
stale_identifiers = refl

replaced_poll : outcome one
    ((0, RuntimeNext 1) ∷ (1, RuntimeNext 1) ∷ (2, invoke 1) ∷ [])
    ≡ ((1, 0, Refused Replaced) ∷ (2, 1, Delivered 2 3002) ∷ [])
unfolding outcome
replaced_poll = refl

-- A Withdraw takes back only a pending Next: the second one names an Invoke, and changes nothing.
withdrawn_poll : outcome one
    ((0, RuntimeNext 1) ∷ (5, Withdraw 0) ∷ (10, invoke 1) ∷ (20, RuntimeNext 1) ∷ (30, Withdraw 2) ∷
    (40, response 1 1) ∷ [])
    ≡ ((1, 0, Withdrawn) ∷ (1, 1, Done) ∷ (3, 3, Delivered 2 3020) ∷ (4, 4, Done) ∷ (5, 2, Output 5) ∷
    (5, 5, Accepted) ∷ [])
unfolding outcome
withdrawn_poll = refl

spindown_and_too_large : outcome one
    ((0, Spindown 1) ∷ (1, RuntimeNext 1) ∷ (2, Spindown 1) ∷ (3, RuntimeNext 1) ∷ (4, invoke 1) ∷
    (5, ResponseTooLarge 1 1) ∷ [])
    ≡ ((0, 0, Refused NotIdle) ∷ (2, 1, Refused Container) ∷ (2, 2, Accepted) ∷ (4, 3, Delivered 4 3004) ∷
    (5, 4, OutputTooLarge) ∷ (5, 5, Refused TooLarge) ∷ [])
unfolding outcome
spindown_and_too_large = refl

stop_closes_everything : outcome two
    ((0, registers 1 name_a false true) ∷ (0, ExtNext 1 1) ∷ (0, RuntimeNext 1) ∷ (0, invoke 1) ∷
    (10, RuntimeNext 2) ∷ (20, Stop) ∷ (30, invoke 1) ∷ (40, RuntimeNext 2) ∷ (50, response 1 1) ∷
    (2020, Tick) ∷ (2030, RuntimeNext 1) ∷ [])
    ≡ ((0, 0, Registered 1) ∷ (3, 2, Delivered 3 3000) ∷ (5, 1, Ending SpunDown 2020 1) ∷ (5, 3, Stopped) ∷
    (5, 4, Refused Container) ∷ (5, 5, Accepted) ∷ (6, 6, Stopped) ∷ (7, 7, Refused Container) ∷
    (8, 8, Refused State) ∷ (10, 10, Done) ∷ (11, 11, Refused Container) ∷ [])
unfolding outcome
stop_closes_everything = refl

-- Worked histories of deadlines, limits, reservations and the full journal. Each line of an outcome is (entry, ticket,
-- answer).
use Rattle.std.specs.Prelude.{◌≡◌, true, false, [], ◌∷◌, Some, None, refl}
use Rattle.call_types.specs.declared.call.Call.TheVariants.{ResponseTooLarge, Failure, RuntimeNext, Tick, Stop, Reserve}
use Rattle.call_types.specs.declared.answer.Answer.TheVariants.{Delivered, Accepted, Done, Output, TimedOut}
use Rattle.call_types.specs.declared.answer.Answer.TheVariants.{InitTimedOut, Throttled, Stopped, Refused, Reserved}
use Rattle.call_types.specs.declared.answer.Answer.TheVariants.{Unreserved}
use Rattle.call_types.specs.declared.answer.Rejection.TheVariants.{State, BadReservation}
use Rattle.call_types.specs.declared.answer.Throttle.TheVariants.{Function as ByFunction, Account as ByAccount}
use Rattle.call_types.specs.declared.answer.Throttle.TheVariants.{Environments as ByEnvironments}
use Rattle.arn_ids.specs.declared.config.Config.{Config}
use Rattle.call_model.specs.Sample.{function, account, plain, one, two, reserved_two, three, invoke, response, outcome}
use Rattle.call_model.specs.Sample.{refusals, stats_after, calls_after}

-- An account with three functions, whose timeouts are 5, 2 and 2 s.
abbrev pub timeouts : Config
timeouts = account 1000 100 (function 5 None [] 1 ∷ function 2 None [] 1 ∷ function 2 None [] 1 ∷ [])

-- An account with one function, which has one environment and a reservation of 0.
abbrev pub reserved_none : Config
reserved_none = account 1000 100 (function 3 (Some 0) [] 1 ∷ [])

-- An account with a limit of 1: one invocation may be in flight.
abbrev pub narrow : Config
narrow = account 1 0 (plain ∷ [])

-- The environment expires at its deadline, before the calls of that moment: the response is refused, and the Next
-- parks.
timeout_then_late_response : outcome one
    ((500, RuntimeNext 1) ∷ (1000, invoke 1) ∷ (4000, response 1 1) ∷ (4000, RuntimeNext 1) ∷ [])
    ≡ ((1, 0, Delivered 1 4000) ∷ (2, 1, TimedOut) ∷ (3, 3, Refused State) ∷ [])
unfolding outcome
timeout_then_late_response = refl

-- Two environments are due at 2,000, and the lower-numbered one expires first; the one that is due at 5,000 expires
-- last. A moment that goes back counts as the last one.
due_order : outcome timeouts
    ((0, RuntimeNext 1) ∷ (0, RuntimeNext 2) ∷ (0, RuntimeNext 3) ∷ (0, invoke 1) ∷ (0, invoke 3) ∷
    (0, invoke 2) ∷ (9000, Tick) ∷ (8000, RuntimeNext 2) ∷ (8000, invoke 2) ∷ [])
    ≡ ((3, 0, Delivered 3 5000) ∷ (4, 2, Delivered 4 2000) ∷ (5, 1, Delivered 5 2000) ∷ (6, 5, TimedOut) ∷
    (7, 4, TimedOut) ∷ (8, 3, TimedOut) ∷ (9, 9, Done) ∷ (11, 10, Delivered 11 11000) ∷ [])
unfolding outcome
due_order = refl

older_moment : outcome one
    ((0, RuntimeNext 1) ∷ (10, invoke 1) ∷ (5000, Tick) ∷ (4000, RuntimeNext 1) ∷ (4000, invoke 1) ∷ [])
    ≡ ((1, 0, Delivered 1 3010) ∷ (2, 1, TimedOut) ∷ (3, 3, Done) ∷ (5, 4, Delivered 5 8000) ∷ [])
unfolding outcome
older_moment = refl

init_timeout : outcome one
    ((0, invoke 1) ∷ (0, invoke 1) ∷ (10000, Tick) ∷ [])
    ≡ ((1, 1, Throttled ByEnvironments) ∷ (2, 0, InitTimedOut) ∷ (3, 3, Done) ∷ [])
unfolding outcome
init_timeout = refl

reserved_zero : outcome reserved_none
    ((0, RuntimeNext 1) ∷ (10, invoke 1) ∷ [])
    ≡ ((1, 1, Throttled ByFunction) ∷ [])
unfolding outcome
reserved_zero = refl

-- After a Stop no limit is checked.
stopped_before_throttled : outcome reserved_none
    ((0, Stop) ∷ (10, invoke 1) ∷ [])
    ≡ ((0, 0, Accepted) ∷ (1, 1, Stopped) ∷ [])
unfolding outcome
stopped_before_throttled = refl

account_limit_reached : outcome narrow
    ((0, invoke 1) ∷ (0, invoke 1) ∷ [])
    ≡ ((1, 1, Throttled ByAccount) ∷ [])
unfolding outcome
account_limit_reached = refl

unreserved_remainder : outcome three
    ((0, RuntimeNext 1) ∷ (0, invoke 1) ∷ (0, invoke 2) ∷ (0, invoke 3) ∷ (10, response 1 1) ∷
    (20, invoke 2) ∷ (30, RuntimeNext 1) ∷ (40, invoke 2) ∷ (50, RuntimeNext 2) ∷ [])
    ≡ ((1, 0, Delivered 1 3000) ∷ (2, 2, Throttled ByAccount) ∷ (4, 1, Output 4) ∷ (4, 4, Accepted) ∷
    (5, 5, Throttled ByAccount) ∷ (8, 8, Delivered 7 3050) ∷ [])
unfolding outcome
unreserved_remainder = refl

lowered_reservation : outcome reserved_two
    ((0, RuntimeNext 1) ∷ (0, RuntimeNext 2) ∷ (0, invoke 1) ∷ (0, invoke 1) ∷ (10, Reserve 1 (Some 1)) ∷
    (20, response 1 1) ∷ (30, RuntimeNext 1) ∷ (40, invoke 1) ∷ (50, response 2 2) ∷ (60, RuntimeNext 2) ∷
    (70, invoke 1) ∷ [])
    ≡ ((2, 0, Delivered 2 3000) ∷ (3, 1, Delivered 3 3000) ∷ (4, 4, Reserved 1) ∷ (5, 2, Output 5) ∷
    (5, 5, Accepted) ∷ (7, 7, Throttled ByFunction) ∷ (8, 3, Output 8) ∷ (8, 8, Accepted) ∷
    (10, 6, Delivered 10 3070) ∷ [])
unfolding outcome
lowered_reservation = refl

reservation_answers : outcome three
    ((0, Reserve 3 (Some 3)) ∷ (0, Reserve 1 (Some 1)) ∷ (0, Reserve 3 (Some 1)) ∷ (0, Reserve 1 (Some 1)) ∷
    (0, Reserve 3 None) ∷ (0, invoke 2) ∷ (0, invoke 3) ∷ (0, invoke 3) ∷ (0, Stop) ∷
    (0, Reserve 1 (Some 0)) ∷ [])
    ≡ ((0, 0, Refused BadReservation) ∷ (1, 1, Refused BadReservation) ∷ (2, 2, Reserved 1) ∷
    (3, 3, Reserved 1) ∷ (4, 4, Unreserved) ∷ (7, 7, Throttled ByAccount) ∷ (8, 5, Stopped) ∷
    (8, 6, Stopped) ∷ (8, 8, Accepted) ∷ (9, 9, Stopped) ∷ [])
unfolding outcome
reservation_answers = refl

-- The journal holds four entries: there is room for one Tick and for two Stops after it, but not for a second Tick or a
-- third Stop.
full_journal : refusals one 4
    ((0, Tick) ∷ (0, Tick) ∷ (0, Stop) ∷ (0, Stop) ∷ (0, Stop) ∷ [])
    ≡ false ∷ true ∷ false ∷ false ∷ true ∷ []
unfolding refusals
full_journal = refl

-- The journal holds eight entries: there is no room for the Tick, but there is room for the first Stop after it, with
-- the two expiries before that Stop.
full_journal_then_stop : refusals two 8
    ((0, RuntimeNext 1) ∷ (0, invoke 1) ∷ (0, invoke 1) ∷ (3000, Tick) ∷ (20000, Stop) ∷ (20000, Stop) ∷ [])
    ≡ false ∷ false ∷ false ∷ true ∷ false ∷ true ∷ []
unfolding refusals
full_journal_then_stop = refl

-- The same history, without the calls that were refused.
stop_after_full_journal : outcome two
    ((0, RuntimeNext 1) ∷ (0, invoke 1) ∷ (0, invoke 1) ∷ (20000, Stop) ∷ [])
    ≡ ((1, 0, Delivered 1 3000) ∷ (3, 1, TimedOut) ∷ (4, 2, InitTimedOut) ∷ (5, 5, Accepted) ∷ [])
unfolding outcome
stop_after_full_journal = refl

-- After the first call the runtime has not asked again, so the invocation is still in flight.
counts_after_first_call : stats_after one ((500, RuntimeNext 1) ∷ (1000, invoke 1) ∷ (1200, response 1 1) ∷ [])
    ≡ record { entries = 3; admitted = 1; throttled = 0; failed = 0; in_flight = 1 }
unfolding stats_after
counts_after_first_call = refl

-- After a Stop nothing is in flight, and the invocations that it ended do not count as failed.
counts_after_stop : stats_after two
    ((0, RuntimeNext 1) ∷ (0, invoke 1) ∷ (0, invoke 1) ∷ (0, invoke 1) ∷ (20, Stop) ∷ (30, invoke 1) ∷ [])
    ≡ record { entries = 6; admitted = 2; throttled = 1; failed = 0; in_flight = 0 }
unfolding stats_after
counts_after_stop = refl

-- A timeout, an Init timeout, an output that is too large and an error count as failed.
counts_of_failures : stats_after two
    ((0, RuntimeNext 1) ∷ (0, invoke 1) ∷ (0, invoke 1) ∷ (10000, RuntimeNext 1) ∷ (10000, invoke 1)
    ∷ (10010, ResponseTooLarge 1 3) ∷ (10020, RuntimeNext 1) ∷ (10030, invoke 1) ∷ (10040, Failure 1 4 []) ∷ [])
    ≡ record { entries = 11; admitted = 4; throttled = 0; failed = 4; in_flight = 1 }
unfolding stats_after
counts_of_failures = refl

-- A call and the expiry before it are two entries, but one call.
expiries_are_no_calls : calls_after one ((0, RuntimeNext 1) ∷ (0, invoke 1) ∷ (3000, Tick) ∷ []) ≡ 3
unfolding calls_after
expiries_are_no_calls = refl

-- Histories that a plausible mistake in the definitions would answer otherwise, written from the table of phases. Each
-- is named for what the mistake would break. Each line of an outcome is (entry, ticket, answer).
use Rattle.std.specs.Prelude.{◌≡◌, true, false, [], ◌∷◌, Some, None, refl}
use Rattle.call_types.specs.declared.call.Call.TheVariants.{RuntimeNext, ResponseTooLarge, Failure, InitFailure}
use Rattle.call_types.specs.declared.call.Call.TheVariants.{ExtNext, ExtInitFailure, ExtExitFailure, Tick, Withdraw}
use Rattle.call_types.specs.declared.call.Call.TheVariants.{Spindown, Stop, Reserve}
use Rattle.call_types.specs.declared.answer.Answer.TheVariants.{Delivered, Told, Ending, Registered, Accepted, Done}
use Rattle.call_types.specs.declared.answer.Answer.TheVariants.{Output, Error, TimedOut, InitTimedOut, Throttled}
use Rattle.call_types.specs.declared.answer.Answer.TheVariants.{Stopped, Withdrawn, Refused, Unreserved}
use Rattle.call_types.specs.declared.answer.Rejection.TheVariants.{State, Replaced, BadId, Unknown, Container}
use Rattle.call_types.specs.declared.answer.Rejection.TheVariants.{NameInUse, NotIdle, BadReservation}
use Rattle.call_types.specs.declared.answer.Throttle.TheVariants.{Function as ByFunction}
use Rattle.call_types.specs.declared.answer.Throttle.TheVariants.{Environments as ByEnvironments}
use Rattle.call_types.specs.declared.answer.Reason.TheVariants.{Timeout, Failure as Failed, Spindown as SpunDown}
use Rattle.call_types.specs.declared.answer.Phase.TheVariants.{Closing}
use Rattle.call_model.specs.Sample.{name_a, name_b, one, two, reserved_two, invoke, registers, response, outcome}
use Rattle.call_model.specs.Sample.{phase_after, requests_after, reservation_after}

-- Extensions and the shutdown of their environment

-- An INVOKE event does not notify an extension of the shutdown: it is notified when it asks in Closing.
event_is_no_shutdown_notice : outcome one
    ((0, registers 1 name_a true true) ∷ (0, ExtNext 1 1) ∷ (0, RuntimeNext 1) ∷ (10, invoke 1) ∷
    (3010, Tick) ∷ (3020, ExtNext 1 1) ∷ [])
    ≡ ((0, 0, Registered 1) ∷ (3, 1, Told 3 3010 1) ∷ (3, 2, Delivered 3 3010) ∷ (4, 3, TimedOut) ∷
    (5, 5, Done) ∷ (6, 6, Ending Timeout 5010 2) ∷ [])
unfolding outcome
event_is_no_shutdown_notice = refl

-- An extension whose report was refused is still notified of the shutdown.
refused_report_is_no_exit : outcome one
    ((0, registers 1 name_a false true) ∷ (0, ExtNext 1 1) ∷ (0, RuntimeNext 1) ∷
    (10, ExtInitFailure 1 1 []) ∷ (20, Spindown 1) ∷ [])
    ≡ ((0, 0, Registered 1) ∷ (3, 3, Refused State) ∷ (4, 1, Ending SpunDown 2020 1) ∷
    (4, 2, Refused Container) ∷ (4, 4, Accepted) ∷ [])
unfolding outcome
refused_report_is_no_exit = refl

-- Of two extensions, the first exits in Closing and is not notified of the shutdown; the second is notified, asks again
-- and so ends the Closing.
exited_extension_hears_nothing : outcome one
    ((0, registers 1 name_a false true) ∷ (0, registers 1 name_b false true) ∷ (10, InitFailure 1 []) ∷
    (20, ExtExitFailure 1 1 []) ∷ (30, ExtNext 1 1) ∷ (40, ExtNext 1 2) ∷ (50, ExtNext 1 2) ∷
    (60, RuntimeNext 1) ∷ (70, invoke 1) ∷ [])
    ≡ ((0, 0, Registered 1) ∷ (1, 1, Registered 2) ∷ (2, 2, Accepted) ∷ (3, 3, Accepted) ∷
    (4, 4, Refused Container) ∷ (5, 5, Ending Failed 2010 1) ∷ (6, 6, Refused Container) ∷
    (8, 7, Delivered 8 3070) ∷ [])
unfolding outcome
exited_extension_hears_nothing = refl

-- An extension that is registered for INVOKE alone is not notified of the shutdown, and the Closing ends in the same
-- entry.
invoke_extension_hears_no_end : outcome one
    ((0, registers 1 name_a true false) ∷ (0, ExtNext 1 1) ∷ (0, RuntimeNext 1) ∷ (10, Spindown 1) ∷
    (20, ExtNext 1 1) ∷ [])
    ≡ ((0, 0, Registered 1) ∷ (3, 1, Refused Container) ∷ (3, 2, Refused Container) ∷ (3, 3, Accepted) ∷
    (4, 4, Refused Unknown) ∷ [])
unfolding outcome
invoke_extension_hears_no_end = refl

-- Such an extension is not notified when it asks in Closing either.
invoke_extension_hears_no_end_in_closing : outcome one
    ((0, registers 1 name_a true false) ∷ (0, registers 1 name_b false true) ∷ (10, InitFailure 1 []) ∷
    (20, ExtNext 1 1) ∷ (30, ExtNext 1 2) ∷ [])
    ≡ ((0, 0, Registered 1) ∷ (1, 1, Registered 2) ∷ (2, 2, Accepted) ∷ (3, 3, Refused Container) ∷
    (4, 4, Ending Failed 2010 1) ∷ [])
unfolding outcome
invoke_extension_hears_no_end_in_closing = refl

-- An extension that reports its own exit is not notified of the shutdown, and the Closing does not wait for it.
reporter_hears_no_end : outcome one
    ((0, registers 1 name_a false true) ∷ (0, ExtNext 1 1) ∷ (0, RuntimeNext 1) ∷
    (10, ExtExitFailure 1 1 []) ∷ (20, ExtNext 1 1) ∷ [])
    ≡ ((0, 0, Registered 1) ∷ (3, 1, Refused Container) ∷ (3, 2, Refused Container) ∷ (3, 3, Accepted) ∷
    (4, 4, Refused Unknown) ∷ [])
unfolding outcome
reporter_hears_no_end = refl

-- The same holds for an extension that reports an Init error.
init_error_is_an_exit : outcome one
    ((0, registers 1 name_a false true) ∷ (0, ExtNext 1 1) ∷ (10, ExtInitFailure 1 1 []) ∷ (20, ExtNext 1 1) ∷ [])
    ≡ ((0, 0, Registered 1) ∷ (2, 1, Refused Container) ∷ (2, 2, Accepted) ∷ (3, 3, Refused Unknown) ∷ [])
unfolding outcome
init_error_is_an_exit = refl

-- If the only extension that a Closing waits for exits, the Closing ends.
exit_ends_a_closing : outcome one
    ((0, registers 1 name_a false true) ∷ (10, InitFailure 1 []) ∷ (20, ExtExitFailure 1 1 []) ∷
    (30, ExtNext 1 1) ∷ (40, RuntimeNext 1) ∷ (50, invoke 1) ∷ [])
    ≡ ((0, 0, Registered 1) ∷ (1, 1, Accepted) ∷ (2, 2, Accepted) ∷ (3, 3, Refused Unknown) ∷
    (5, 4, Delivered 5 3050) ∷ [])
unfolding outcome
exit_ends_a_closing = refl

init_error_in_idle_closes_nothing : outcome one
    ((0, registers 1 name_a true false) ∷ (0, ExtNext 1 1) ∷ (0, RuntimeNext 1) ∷
    (10, ExtInitFailure 1 1 []) ∷ (20, invoke 1) ∷ [])
    ≡ ((0, 0, Registered 1) ∷ (3, 3, Refused State) ∷ (4, 1, Told 4 3020 1) ∷ (4, 2, Delivered 4 3020) ∷ [])
unfolding outcome
init_error_in_idle_closes_nothing = refl

-- Polls

replaced_extension_poll : outcome one
    ((0, registers 1 name_a true false) ∷ (0, ExtNext 1 1) ∷ (5, ExtNext 1 1) ∷ (10, RuntimeNext 1) ∷
    (20, invoke 1) ∷ [])
    ≡ ((0, 0, Registered 1) ∷ (2, 1, Refused Replaced) ∷ (4, 2, Told 4 3020 1) ∷ (4, 3, Delivered 4 3020) ∷ [])
unfolding outcome
replaced_extension_poll = refl

-- After an extension's Next was taken back, the environment is ready only when the extension has asked again.
withdrawn_extension_poll : outcome one
    ((0, registers 1 name_a true false) ∷ (0, ExtNext 1 1) ∷ (5, Withdraw 1) ∷ (10, RuntimeNext 1) ∷
    (20, invoke 1) ∷ (30, ExtNext 1 1) ∷ [])
    ≡ ((0, 0, Registered 1) ∷ (2, 1, Withdrawn) ∷ (2, 2, Done) ∷ (5, 3, Delivered 4 3030) ∷
    (5, 5, Told 4 3030 1) ∷ [])
unfolding outcome
withdrawn_extension_poll = refl

-- If an extension's Next is taken back, the runtime's stays parked, and delivers after the extension has asked again.
withdraw_leaves_other_polls : outcome one
    ((0, registers 1 name_a true false) ∷ (0, ExtNext 1 1) ∷ (0, RuntimeNext 1) ∷ (10, Withdraw 1) ∷
    (20, ExtNext 1 1) ∷ (30, invoke 1) ∷ [])
    ≡ ((0, 0, Registered 1) ∷ (3, 1, Withdrawn) ∷ (3, 3, Done) ∷ (5, 2, Delivered 5 3030) ∷
    (5, 4, Told 5 3030 1) ∷ [])
unfolding outcome
withdraw_leaves_other_polls = refl

next_while_invocation_is_open : outcome one
    ((0, RuntimeNext 1) ∷ (0, invoke 1) ∷ (10, RuntimeNext 1) ∷ (20, response 1 1) ∷ (30, RuntimeNext 1) ∷
    (40, invoke 1) ∷ [])
    ≡ ((1, 0, Delivered 1 3000) ∷ (2, 2, Refused State) ∷ (3, 1, Output 3) ∷ (3, 3, Accepted) ∷
    (5, 4, Delivered 5 3040) ∷ [])
unfolding outcome
next_while_invocation_is_open = refl

-- The Init clock

-- The Withdraw leaves the environment in Starting without a deadline. The refused registration sets none; the binding
-- at 30 starts the clock.
refused_registration_starts_no_clock : outcome one
    ((0, registers 1 name_a true false) ∷ (0, ExtNext 1 1) ∷ (0, RuntimeNext 1) ∷ (10, Withdraw 2) ∷
    (20, registers 1 name_a true false) ∷ (30, invoke 1) ∷ (10020, Tick) ∷ (10030, Tick) ∷ [])
    ≡ ((0, 0, Registered 1) ∷ (3, 2, Withdrawn) ∷ (3, 3, Done) ∷ (4, 4, Refused NameInUse) ∷ (6, 6, Done) ∷
    (7, 1, Refused Container) ∷ (7, 5, InitTimedOut) ∷ (8, 8, Done) ∷ [])
unfolding outcome
refused_registration_starts_no_clock = refl

unknown_extension_starts_no_clock : outcome one
    ((0, ExtNext 1 7) ∷ (10000, Tick) ∷ (10010, invoke 1) ∷ (20009, Tick) ∷ (20010, Tick) ∷ [])
    ≡ ((0, 0, Refused Unknown) ∷ (1, 1, Done) ∷ (3, 3, Done) ∷ (4, 2, InitTimedOut) ∷ (5, 5, Done) ∷ [])
unfolding outcome
unknown_extension_starts_no_clock = refl

later_next_moves_no_deadline : outcome one
    ((0, registers 1 name_a true false) ∷ (5000, RuntimeNext 1) ∷ (6000, invoke 1) ∷ (10000, Tick) ∷ [])
    ≡ ((0, 0, Registered 1) ∷ (3, 1, Refused Container) ∷ (3, 2, InitTimedOut) ∷ (4, 4, Done) ∷ [])
unfolding outcome
later_next_moves_no_deadline = refl

-- The Withdraw leaves the environment in Starting without a deadline; the extension's Next at 20 starts the clock.
extension_poll_starts_the_clock : outcome one
    ((0, registers 1 name_a true false) ∷ (0, ExtNext 1 1) ∷ (0, RuntimeNext 1) ∷ (10, Withdraw 2) ∷
    (20, ExtNext 1 1) ∷ (10020, Tick) ∷ [])
    ≡ ((0, 0, Registered 1) ∷ (3, 2, Withdrawn) ∷ (3, 3, Done) ∷ (4, 1, Refused Replaced) ∷
    (5, 4, Refused Container) ∷ (6, 6, Done) ∷ [])
unfolding outcome
extension_poll_starts_the_clock = refl

-- An expiry has the moment of the call that finds it due, and the 2 s of the Closing begin at that moment.
expiry_has_the_moment_of_its_call : outcome one
    ((0, registers 1 name_a false true) ∷ (0, ExtNext 1 1) ∷ (0, RuntimeNext 1) ∷ (10, invoke 1) ∷ (5000, Tick) ∷ [])
    ≡ ((0, 0, Registered 1) ∷ (3, 2, Delivered 3 3010) ∷ (4, 1, Ending Timeout 7000 1) ∷ (4, 3, TimedOut) ∷
    (5, 5, Done) ∷ [])
unfolding outcome
expiry_has_the_moment_of_its_call = refl

-- The Closing ends at 2,010 with an invocation bound, which then waits up to 10 s for its Init.
bound_generation_has_a_deadline : outcome one
    ((0, registers 1 name_a false true) ∷ (10, InitFailure 1 []) ∷ (20, invoke 1) ∷ (2010, Tick) ∷
    (12009, Tick) ∷ (12010, Tick) ∷ [])
    ≡ ((0, 0, Registered 1) ∷ (1, 1, Accepted) ∷ (4, 4, Done) ∷ (5, 5, Done) ∷ (6, 2, InitTimedOut) ∷
    (7, 7, Done) ∷ [])
unfolding outcome
bound_generation_has_a_deadline = refl

-- An invocation that waited for the Init is served after its delivery, and the environment is then free for the next
-- one.
bound_invocation_is_served : outcome one
    ((0, registers 1 name_a true false) ∷ (0, RuntimeNext 1) ∷ (10, invoke 1) ∷ (20, ExtNext 1 1) ∷
    (30, response 1 1) ∷ (40, RuntimeNext 1) ∷ (50, ExtNext 1 1) ∷ (60, invoke 1) ∷ [])
    ≡ ((0, 0, Registered 1) ∷ (3, 1, Delivered 2 3020) ∷ (3, 3, Told 2 3020 1) ∷ (4, 2, Output 4) ∷
    (4, 4, Accepted) ∷ (7, 5, Delivered 7 3060) ∷ (7, 6, Told 7 3060 2) ∷ [])
unfolding outcome
bound_invocation_is_served = refl

-- Stop

-- After a Stop, a Closing keeps its reason and its end, and has no invocation bound any more.
stop_unbinds_a_closing : phase_after one
    ((0, registers 1 name_a false true) ∷ (10, InitFailure 1 []) ∷ (20, invoke 1) ∷ (30, Stop) ∷ [])
    1 ≡ Closing Failed 2010 None
unfolding phase_after
stop_unbinds_a_closing = refl

stop_answers_a_bound_invocation : outcome one
    ((0, registers 1 name_a false true) ∷ (10, InitFailure 1 []) ∷ (20, invoke 1) ∷ (30, Stop) ∷ [])
    ≡ ((0, 0, Registered 1) ∷ (1, 1, Accepted) ∷ (3, 2, Stopped) ∷ (3, 3, Accepted) ∷ [])
unfolding outcome
stop_answers_a_bound_invocation = refl

second_stop_closes_nothing : outcome one
    ((0, registers 1 name_a false true) ∷ (20, Stop) ∷ (1000, Stop) ∷ (1100, ExtNext 1 1) ∷ (2020, Tick) ∷
    (2030, RuntimeNext 1) ∷ [])
    ≡ ((0, 0, Registered 1) ∷ (1, 1, Accepted) ∷ (2, 2, Accepted) ∷ (3, 3, Ending SpunDown 2020 1) ∷
    (5, 5, Done) ∷ (6, 6, Refused Container) ∷ [])
unfolding outcome
second_stop_closes_nothing = refl

-- Places and counts

-- The first environment is Closing and the second is Starting: the second gets the invocation.
starting_before_closing : outcome two
    ((0, registers 1 name_a false true) ∷ (10, InitFailure 1 []) ∷ (20, invoke 1) ∷ (30, RuntimeNext 2) ∷ [])
    ≡ ((0, 0, Registered 1) ∷ (1, 1, Accepted) ∷ (3, 3, Delivered 2 3030) ∷ [])
unfolding outcome
starting_before_closing = refl

-- A Closing environment with an invocation bound does not get a second one.
closing_binds_once : outcome one
    ((0, registers 1 name_a false true) ∷ (10, InitFailure 1 []) ∷ (20, invoke 1) ∷ (30, invoke 1) ∷ [])
    ≡ ((0, 0, Registered 1) ∷ (1, 1, Accepted) ∷ (3, 3, Throttled ByEnvironments) ∷ [])
unfolding outcome
closing_binds_once = refl

events_are_counted_by_environment : outcome two
    ((0, registers 1 name_a true false) ∷ (0, registers 2 name_b true false) ∷ (0, ExtNext 1 1) ∷
    (0, ExtNext 2 1) ∷ (0, RuntimeNext 1) ∷ (0, RuntimeNext 2) ∷ (10, invoke 1) ∷ (20, invoke 1) ∷ [])
    ≡ ((0, 0, Registered 1) ∷ (1, 1, Registered 1) ∷ (6, 2, Told 6 3010 1) ∷ (6, 4, Delivered 6 3010) ∷
    (7, 3, Told 7 3020 1) ∷ (7, 5, Delivered 7 3020) ∷ [])
unfolding outcome
events_are_counted_by_environment = refl

events_are_counted_over_generations : outcome one
    ((0, registers 1 name_a true false) ∷ (0, ExtNext 1 1) ∷ (0, RuntimeNext 1) ∷ (10, invoke 1) ∷
    (20, ExtExitFailure 1 1 []) ∷ (30, registers 1 name_a true false) ∷ (30, ExtNext 1 2) ∷
    (30, RuntimeNext 1) ∷ (40, invoke 1) ∷ [])
    ≡ ((0, 0, Registered 1) ∷ (3, 1, Told 3 3010 1) ∷ (3, 2, Delivered 3 3010) ∷ (4, 3, Error 4) ∷
    (4, 4, Accepted) ∷ (5, 5, Registered 2) ∷ (8, 6, Told 8 3040 2) ∷ (8, 7, Delivered 8 3040) ∷ [])
unfolding outcome
events_are_counted_over_generations = refl

extensions_are_counted_over_generations : outcome one
    ((0, registers 1 name_a true false) ∷ (10, InitFailure 1 []) ∷ (20, registers 1 name_a true false) ∷
    (30, ExtNext 1 1) ∷ [])
    ≡ ((0, 0, Registered 1) ∷ (1, 1, Accepted) ∷ (2, 2, Registered 2) ∷ (3, 3, Refused Unknown) ∷ [])
unfolding outcome
extensions_are_counted_over_generations = refl

-- A notice of the shutdown is an event: two in one entry are numbered by their tickets, and the next generation counts
-- on.
endings_are_events : outcome one
    ((0, registers 1 name_a false true) ∷ (0, registers 1 name_b false true) ∷ (0, ExtNext 1 2) ∷
    (0, ExtNext 1 1) ∷ (0, RuntimeNext 1) ∷ (10, Spindown 1) ∷ (20, ExtNext 1 1) ∷ (20, ExtNext 1 2) ∷
    (30, registers 1 name_a true false) ∷ (30, ExtNext 1 3) ∷ (30, RuntimeNext 1) ∷ (40, invoke 1) ∷ [])
    ≡ ((0, 0, Registered 1) ∷ (1, 1, Registered 2) ∷ (5, 2, Ending SpunDown 2010 1) ∷
    (5, 3, Ending SpunDown 2010 2) ∷ (5, 4, Refused Container) ∷ (5, 5, Accepted) ∷
    (6, 6, Refused Container) ∷ (7, 7, Refused Container) ∷ (8, 8, Registered 3) ∷ (11, 9, Told 11 3040 3) ∷
    (11, 10, Delivered 11 3040) ∷ [])
unfolding outcome
endings_are_events = refl

-- The Invoke that is delivered second is the third of the function, because the throttled one counts.
throttled_invokes_are_counted : outcome one
    ((0, RuntimeNext 1) ∷ (0, invoke 1) ∷ (5, invoke 1) ∷ (10, response 1 1) ∷ (20, RuntimeNext 1) ∷
    (30, invoke 1) ∷ (40, response 1 2) ∷ (50, response 1 3) ∷ [])
    ≡ ((1, 0, Delivered 1 3000) ∷ (2, 2, Throttled ByEnvironments) ∷ (3, 1, Output 3) ∷ (3, 3, Accepted) ∷
    (5, 4, Delivered 5 3030) ∷ (6, 6, Refused BadId) ∷ (7, 5, Output 7) ∷ (7, 7, Accepted) ∷ [])
unfolding outcome
throttled_invokes_are_counted = refl

-- The Invoke with ticket 3 is the third of the function, because those after a Stop count.
stopped_invokes_are_counted : requests_after one
    ((0, invoke 1) ∷ (10, Stop) ∷ (20, invoke 1) ∷ (30, invoke 1) ∷ [])
    1 3 ≡ 3
unfolding requests_after
stopped_invokes_are_counted = refl

-- The function has two environments, both reserved. A reservation of 3 is refused and changes nothing; after the
-- removal of its reservation the function is unreserved.
refused_reservation_changes_nothing : outcome reserved_two
    ((0, Reserve 1 (Some 3)) ∷ (0, RuntimeNext 1) ∷ (0, RuntimeNext 2) ∷ (0, invoke 1) ∷ (0, invoke 1) ∷
    (0, invoke 1) ∷ (10, Reserve 1 None) ∷ (20, invoke 1) ∷ [])
    ≡ ((0, 0, Refused BadReservation) ∷ (3, 1, Delivered 3 3000) ∷ (4, 2, Delivered 4 3000) ∷
    (5, 5, Throttled ByFunction) ∷ (6, 6, Unreserved) ∷ (7, 7, Throttled ByEnvironments) ∷ [])
unfolding outcome
refused_reservation_changes_nothing = refl

reservation_after_stop_changes_nothing : reservation_after reserved_two
    ((0, Reserve 1 (Some 1)) ∷ (0, Stop) ∷ (0, Reserve 1 None) ∷ (0, Reserve 1 (Some 2)) ∷ [])
    1 ≡ Some 1
unfolding reservation_after
reservation_after_stop_changes_nothing = refl

-- After a Stop nothing else is checked.
reservation_is_stopped_first : outcome reserved_two
    ((0, Stop) ∷ (0, Reserve 1 (Some 3)) ∷ [])
    ≡ ((0, 0, Accepted) ∷ (1, 1, Stopped) ∷ [])
unfolding outcome
reservation_is_stopped_first = refl

-- Busy with its invocation answered

answered_invocation_takes_no_report : outcome one
    ((0, registers 1 name_a true false) ∷ (0, ExtNext 1 1) ∷ (0, RuntimeNext 1) ∷ (10, invoke 1) ∷
    (20, response 1 1) ∷ (30, response 1 1) ∷ (40, Failure 1 1 []) ∷ (50, ResponseTooLarge 1 1) ∷ [])
    ≡ ((0, 0, Registered 1) ∷ (3, 1, Told 3 3010 1) ∷ (3, 2, Delivered 3 3010) ∷ (4, 3, Output 4) ∷
    (4, 4, Accepted) ∷ (5, 5, Refused State) ∷ (6, 6, Refused State) ∷ (7, 7, Refused State) ∷ [])
unfolding outcome
answered_invocation_takes_no_report = refl

-- The extension never asks again, so the invocation's time runs out although it was answered.
answered_invocation_expires : outcome one
    ((0, registers 1 name_a true false) ∷ (0, ExtNext 1 1) ∷ (0, RuntimeNext 1) ∷ (10, invoke 1) ∷
    (20, response 1 1) ∷ (50, RuntimeNext 1) ∷ (3010, Tick) ∷ (3020, ExtNext 1 1) ∷ [])
    ≡ ((0, 0, Registered 1) ∷ (3, 1, Told 3 3010 1) ∷ (3, 2, Delivered 3 3010) ∷ (4, 3, Output 4) ∷
    (4, 4, Accepted) ∷ (6, 5, Refused Container) ∷ (7, 7, Done) ∷ (8, 8, Refused Unknown) ∷ [])
unfolding outcome
answered_invocation_expires = refl

answered_invocation_is_not_idle : outcome one
    ((0, registers 1 name_a true false) ∷ (0, ExtNext 1 1) ∷ (0, RuntimeNext 1) ∷ (10, invoke 1) ∷
    (20, response 1 1) ∷ (30, Spindown 1) ∷ (40, RuntimeNext 1) ∷ (50, ExtNext 1 1) ∷ (60, invoke 1) ∷ [])
    ≡ ((0, 0, Registered 1) ∷ (3, 1, Told 3 3010 1) ∷ (3, 2, Delivered 3 3010) ∷ (4, 3, Output 4) ∷
    (4, 4, Accepted) ∷ (5, 5, Refused NotIdle) ∷ (8, 6, Delivered 8 3060) ∷ (8, 7, Told 8 3060 2) ∷ [])
unfolding outcome
answered_invocation_is_not_idle = refl

-- Off

container_before_unknown : outcome one
    ((0, Stop) ∷ (10, ExtNext 1 1) ∷ (20, ExtExitFailure 1 1 []) ∷ (30, ExtInitFailure 1 1 []) ∷ [])
    ≡ ((0, 0, Accepted) ∷ (1, 1, Refused Container) ∷ (2, 2, Refused Container) ∷ (3, 3, Refused Container) ∷
    [])
unfolding outcome
container_before_unknown = refl

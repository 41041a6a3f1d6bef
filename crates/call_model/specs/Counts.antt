-- What is counted over a history, and when the journal is full.
use Rattle.std.specs.Prelude.{ℕ, ◌+◌, ◌*◌, Bool, true, false, not, if◌then◌else◌, nat_lt, List, length, count_by}
use Rattle.std.specs.Prelude.{is_some, sum_by}
use Rattle.call_types.specs.declared.call.Call.{Call}
use Rattle.call_types.specs.declared.call.Entry.{Entry}
use Rattle.call_types.specs.declared.answer.Answer.{Answer}
use Rattle.call_types.specs.declared.answer.Answer.TheVariants.{Throttled, Error, TimedOut, InitTimedOut}
use Rattle.call_types.specs.declared.answer.Answer.TheVariants.{OutputTooLarge}
use Rattle.call_types.specs.declared.stats.Stats.{Stats}
use Rattle.arn_ids.specs.declared.config.Config.{Config}
use Rattle.arn_ids.specs.Environments.{function_numbers, environments}
use Rattle.call_model.specs.History.{is_expiry, is_stop}
use Rattle.call_model.specs.Limits.{in_flight}

-- The number of calls: all entries but the expiries, which are not calls.
abbrev pub calls : List Entry → ℕ
calls h = count_by (λ entry. not (is_expiry entry.call)) h

-- The number of admitted invocations: the entries with a place.
abbrev pub admitted : List Entry → ℕ
admitted h = count_by (λ entry. is_some entry.place) h

-- The number of answers in a history that pass a test.
abbrev pub answers_that : (Answer → Bool) → List Entry → ℕ
answers_that passes h = sum_by (λ entry. count_by (λ a. passes a.1) entry.answers) h

-- Whether an answer throttles an Invoke.
abbrev pub is_throttle : Answer → Bool
is_throttle (Throttled reason) = true
is_throttle _ = false

-- The number of throttled Invokes: those that were answered with status 429. (Invoke: TooManyRequestsException)
abbrev pub throttled : List Entry → ℕ
throttled h = answers_that is_throttle h

-- Whether an answer says that an invocation failed: an error, a timeout of the invocation or of its Init, or an output
-- that is too large.
abbrev pub is_failure : Answer → Bool
is_failure (Error source) = true
is_failure TimedOut = true
is_failure InitTimedOut = true
is_failure OutputTooLarge = true
is_failure _ = false

-- The number of failed invocations: those that were answered with a function error. (Invoke: X-Amz-Function-Error)
abbrev pub failed : List Entry → ℕ
failed h = answers_that is_failure h

-- The number of invocations that are in flight, over all functions.
abbrev pub all_in_flight : Config → List Entry → ℕ
all_in_flight config h = sum_by (λ f. in_flight config h f) (function_numbers config)

-- The counts that an account shows.
abbrev pub stats : Config → List Entry → Stats
stats config h = record {
  entries = length h;
  admitted = admitted h;
  throttled = throttled h;
  failed = failed h;
  in_flight = all_in_flight config h;
}

-- The largest number of entries that a call may add: one for each environment, which expires, and one for the call
-- itself.
abbrev pub most_added : Config → ℕ
most_added config = length (environments config) + 1

-- Whether a journal of at most max entries is full for a call. A Stop needs room for the entries of one step, any other
-- call for those of two, so that a Stop finds room when no other call does.
abbrev pub full : Config → ℕ → List Entry → Call → Bool
full config max h call = nat_lt max (length h + (if is_stop call then most_added config else 2 * most_added config))

-- The configurations and the calls of the worked histories, and what is read off a run.
use Rattle.std.specs.Prelude.{ℕ, Bool, false, if◌then◌else◌, List, [], ◌∷◌, ◌++◌, length, map, Option, Some, None}
use Rattle.call_types.specs.declared.call.Call.{Call}
use Rattle.call_types.specs.declared.call.Call.TheVariants.{Invoke, Response, Register}
use Rattle.call_types.specs.declared.answer.Answer.{Answer}
use Rattle.call_types.specs.declared.answer.Phase.{Phase}
use Rattle.call_types.specs.declared.call.Entry.{Entry}
use Rattle.arn_ids.specs.declared.config.Config.{Config}
use Rattle.arn_ids.specs.declared.config.Function.{Function}
use Rattle.arn_ids.specs.declared.config.Slot.{Slot}
use Rattle.arn_ids.specs.Environments.{count_from}
use Rattle.call_model.specs.History.{requests, upto}
use Rattle.call_model.specs.Next.{next, added, due}
use Rattle.call_model.specs.Answers.{answers, first_answers, own_first, first_answer, second_answer, answer_to}
use Rattle.call_model.specs.Life.{seen, after, lived, life, phase as phase_of}
use Rattle.call_model.specs.Stand.{role}
use Rattle.call_model.specs.Table.{own_answer, closes, kept, to_waiting}
use Rattle.call_model.specs.Generation.{members}
use Rattle.call_model.specs.Limits.{verdict, in_flight, reservation, place}
use Rattle.call_model.specs.Counts.{full, stats, calls as calls_of}
use Rattle.call_types.specs.declared.stats.Stats.{Stats}

-- n environments, on the ports from 9001 on.
abbrev pub ports_of : ℕ → List Slot
ports_of n = map (λ p. record { port = p }) (count_from 9001 n)

-- A function with this timeout in seconds, reservation, names of the extensions that it expects, and number of
-- environments.
abbrev pub function : ℕ → Option ℕ → List (List ℕ) → ℕ → Function
function timeout reserved expected environments = record {
  name = [];
  handler = [];
  timeout_s = timeout;
  reserved = reserved;
  extensions = expected;
  slots = ports_of environments;
}

-- An account with this limit, these functions, and the least part of the limit that has to stay unreserved.
abbrev pub account : ℕ → ℕ → List Function → Config
account limit least functions = record {
  home = record { account = []; region = [] };
  account_limit = limit;
  least_remainder = least;
  invoke_port = 9000;
  functions = functions;
}

-- An unreserved function with a timeout of 3 s and one environment.
abbrev pub plain : Function
plain = function 3 None [] 1

-- An account with one such function.
abbrev pub one : Config
one = account 1000 100 (plain ∷ [])

-- An account with one unreserved function, which has two environments.
abbrev pub two : Config
two = account 1000 100 (function 3 None [] 2 ∷ [])

-- An account with one function, which has two environments and a reservation of 1.
abbrev pub reserved_one : Config
reserved_one = account 1000 100 (function 3 (Some 1) [] 2 ∷ [])

-- An account with one function, which has two environments and a reservation of 2.
abbrev pub reserved_two : Config
reserved_two = account 1000 100 (function 3 (Some 2) [] 2 ∷ [])

-- An account with a limit of 3 and three functions: two are unreserved, and one has a reservation of 2.
abbrev pub three : Config
three = account 3 1 (plain ∷ plain ∷ function 3 (Some 2) [] 2 ∷ [])

-- The name a.
abbrev pub name_a : List ℕ
name_a = 97 ∷ []

-- The name b.
abbrev pub name_b : List ℕ
name_b = 98 ∷ []

-- An Invoke of function f with an empty payload.
abbrev pub invoke : ℕ → Call
invoke f = Invoke f false None []

-- An empty Response at environment e to the request whose identifier has the count id.
abbrev pub response : ℕ → ℕ → Call
response e id = Response e id []

-- A Register at environment e: whether the extension registers for INVOKE, and whether it does for SHUTDOWN.
abbrev pub registers : ℕ → List ℕ → Bool → Bool → Call
registers e name invoke shutdown = Register e name invoke shutdown false

-- A run: the history after a list of calls, which are made one after the other, each at its moment.
unfoldable pub run : Config → List Entry → List (ℕ × Call) → List Entry
run config h [] = h
run config h (c ∷ calls) = run config (next config h c.0 c.1) calls

-- The answers of a history in the order in which they were given, each as (entry, ticket, answer).
abbrev pub lines : List Entry → List (ℕ × ℕ × Answer)
lines [] = []
lines (entry ∷ h) = lines h ++ map (λ a. (length h, a.0, a.1)) entry.answers

-- The answers that a list of calls gives, each call with its moment. Each answer is shown as (entry, ticket, answer).
unfoldable pub outcome : Config → List (ℕ × Call) → List (ℕ × ℕ × Answer)
unfolding run next added due answers first_answers first_answer second_answer answer_to own_first role
    own_answer closes kept to_waiting members seen after lived life verdict in_flight reservation place
outcome config calls = lines (run config [] calls)

-- The phase of environment e after a list of calls.
unfoldable pub phase_after : Config → List (ℕ × Call) → ℕ → Phase
unfolding run next added due answers first_answers first_answer second_answer answer_to own_first role
    own_answer closes kept to_waiting members seen after lived life verdict in_flight reservation place
phase_after config calls e = phase_of config (run config [] calls) e

-- The count in the request identifier of the Invoke of function f with ticket t, after a list of calls.
unfoldable pub requests_after : Config → List (ℕ × Call) → ℕ → ℕ → ℕ
unfolding run next added due answers first_answers first_answer second_answer answer_to own_first role
    own_answer closes kept to_waiting members seen after lived life verdict in_flight reservation place
requests_after config calls f t = requests (upto (run config [] calls) t) f

-- The reservation of function f after a list of calls.
unfoldable pub reservation_after : Config → List (ℕ × Call) → ℕ → Option ℕ
unfolding run next added due answers first_answers first_answer second_answer answer_to own_first role
    own_answer closes kept to_waiting members seen after lived life verdict in_flight reservation place
reservation_after config calls f = reservation config (run config [] calls) f

-- The counts of the account after a list of calls.
unfoldable pub stats_after : Config → List (ℕ × Call) → Stats
unfolding run next added due answers first_answers first_answer second_answer answer_to own_first role
    own_answer closes kept to_waiting members seen after lived life verdict in_flight reservation place
stats_after config calls = stats config (run config [] calls)

-- The number of entries that are calls, after a list of calls.
unfoldable pub calls_after : Config → List (ℕ × Call) → ℕ
unfolding run next added due answers first_answers first_answer second_answer answer_to own_first role
    own_answer closes kept to_waiting members seen after lived life verdict in_flight reservation place
calls_after config calls = calls_of (run config [] calls)

-- Whether the journal, with room for `max` entries, is full for each call in turn. A call for which it is full is left
-- out of the history.
abbrev pub refused_by : Config → ℕ → List Entry → List (ℕ × Call) → List Bool
refused_by config max h [] = []
refused_by config max h (c ∷ calls) =
    full config max h c.1 ∷ refused_by config max (if full config max h c.1 then h else next config h c.0 c.1) calls

-- The same, from the empty history on.
unfoldable pub refusals : Config → ℕ → List (ℕ × Call) → List Bool
unfolding run next added due answers first_answers first_answer second_answer answer_to own_first role
    own_answer closes kept to_waiting members seen after lived life verdict in_flight reservation place
refusals config max calls = refused_by config max [] calls

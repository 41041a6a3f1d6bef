-- The lines of a script, and the call of each line.
use Rattle.std.specs.Prelude.{ℕ, Bool, true, false, ◌&&◌, ◌==◌, if◌then◌else◌, List, [], ◌∷◌, codes}
use Rattle.std.specs.Prelude.{bytes_eq, Option, Some, None, option_map, option_and_then}
use Rattle.std.specs.List.{slice_split}
use Rattle.arn_ids.specs.Environments.{number_named}
use Rattle.arn_ids.specs.declared.config.Config.{Config}
use Rattle.call_types.specs.declared.call.Call.{Call}
use Rattle.call_types.specs.declared.call.Call.TheVariants.{Invoke, RuntimeNext, Response, ResponseTooLarge, Failure}
use Rattle.call_types.specs.declared.call.Call.TheVariants.{InitFailure, Register, ExtNext, ExtInitFailure}
use Rattle.call_types.specs.declared.call.Call.TheVariants.{ExtExitFailure, Tick, Withdraw, Spindown, Stop, Reserve}
use Rattle.arn_ids.specs.Numbers.{number_in, env_in}
use Rattle.arn_ids.specs.Limits.{greatest_moment, greatest_count, greatest_ticket, greatest_reservation}
use Rattle.script.specs.TextFields.{body_in, name_in, trace_in}

infixl 10 ◌>>=◌
abbrev pub ◌>>=◌ : {A B : Type 0} → Option A → (A → Option B) → Option B
o >>= f = option_and_then f o

-- The fields of a line, which are separated by single spaces.
abbrev pub fields : List ℕ → List (List ℕ)
fields line = slice_split (λ b. b == 32) line

-- The one field of a line; `None` if it has none or more than one. The next three definitions do the same for two,
-- three and four fields.
abbrev pub one_field : List (List ℕ) → Option (List ℕ)
one_field [] = None
one_field (a ∷ []) = Some a
one_field (a ∷ b ∷ more) = None

abbrev pub two_fields : List (List ℕ) → Option (List ℕ × List ℕ)
two_fields [] = None
two_fields (a ∷ more) = option_map (λ b. (a, b)) (one_field more)

abbrev pub three_fields : List (List ℕ) → Option (List ℕ × List ℕ × List ℕ)
three_fields [] = None
three_fields (a ∷ more) = option_map (λ b. (a, b.0, b.1)) (two_fields more)

abbrev pub four_fields : List (List ℕ) → Option (List ℕ × List ℕ × List ℕ × List ℕ)
four_fields [] = None
four_fields (a ∷ more) = option_map (λ b. (a, b.0, b.1, b.2)) (three_fields more)

-- The call, if no fields follow it.
abbrev pub alone : Call → List (List ℕ) → Option Call
alone call [] = Some call
alone call (a ∷ more) = None

-- The count in an identifier, at most 2^48 - 1.
abbrev pub count_in : List ℕ → Option ℕ
count_in = number_in greatest_count

-- Whether a flag is set: its word means that it is, a dash that it is not, and any other field is malformed.
abbrev pub flag_in : List ℕ → List ℕ → Option Bool
flag_in set field = if bytes_eq field set then Some true else if bytes_eq field (codes "-") then Some false else None

-- The events that an extension registers for, INVOKE first and SHUTDOWN second, each set or not (Extensions API:
-- Register).
abbrev pub events_in : List ℕ → Option (Bool × Bool)
events_in field =
    if bytes_eq field (codes "i") then Some (true, false) else
    if bytes_eq field (codes "s") then Some (false, true) else
    if bytes_eq field (codes "is") then Some (true, true) else
    if bytes_eq field (codes "-") then Some (false, false) else None

-- The number of a reservation, or a dash, which removes the reservation.
abbrev pub reservation_in : List ℕ → Option (Option ℕ)
reservation_in field =
    if bytes_eq field (codes "-") then Some None else option_map Some (number_in greatest_reservation field)

-- Reads the arguments of `invoke F Q T =BODY`.
unfoldable pub invoke_in : Config → List (List ℕ) → Option Call
invoke_in config line = do
  four ← four_fields line
  function ← number_named config four.0
  qualified ← flag_in (codes "q") four.1
  trace ← trace_in four.2
  body ← body_in four.3
  Some (Invoke function qualified trace body)

-- Reads `E`: the number of an environment.
unfoldable pub lone_env_in : Config → List (List ℕ) → Option ℕ
lone_env_in config line = do
  field ← one_field line
  env_in config field

-- Reads `E N`: an environment and a count.
unfoldable pub env_and_count_in : Config → List (List ℕ) → Option (ℕ × ℕ)
env_and_count_in config line = do
  two ← two_fields line
  env ← env_in config two.0
  count ← count_in two.1
  Some (env, count)

-- Reads `E N =BODY`: an environment, a count and the bytes of a report.
unfoldable pub report_in : Config → List (List ℕ) → Option (ℕ × ℕ × List ℕ)
report_in config line = do
  three ← three_fields line
  env ← env_in config three.0
  count ← count_in three.1
  body ← body_in three.2
  Some (env, count, body)

-- Reads the arguments of `init-failure E =BODY`.
unfoldable pub init_failure_in : Config → List (List ℕ) → Option Call
init_failure_in config line = do
  two ← two_fields line
  env ← env_in config two.0
  body ← body_in two.1
  Some (InitFailure env body)

-- Reads the arguments of `register E =NAME V A`.
unfoldable pub register_in : Config → List (List ℕ) → Option Call
register_in config line = do
  four ← four_fields line
  env ← env_in config four.0
  name ← name_in four.1
  events ← events_in four.2
  account ← flag_in (codes "a") four.3
  Some (Register env name events.0 events.1 account)

-- Reads the argument of `withdraw T`.
unfoldable pub withdraw_in : List (List ℕ) → Option Call
withdraw_in line = do
  field ← one_field line
  ticket ← number_in greatest_ticket field
  Some (Withdraw ticket)

-- Reads the arguments of `reserve F N` and `reserve F -`.
unfoldable pub reserve_in : Config → List (List ℕ) → Option Call
reserve_in config line = do
  two ← two_fields line
  function ← number_named config two.0
  count ← reservation_in two.1
  Some (Reserve function count)

-- The call of an extension with this word and these arguments.
unfoldable pub extension_call_in : Config → List ℕ → List (List ℕ) → Option Call
extension_call_in config word line =
    if bytes_eq word (codes "register") then register_in config line else
    if bytes_eq word (codes "ext-next") then option_map (λ two. ExtNext two.0 two.1) (env_and_count_in config line) else
    if bytes_eq word (codes "ext-init-failure")
    then option_map (λ report. ExtInitFailure report.0 report.1 report.2) (report_in config line) else
    if bytes_eq word (codes "ext-exit-failure")
    then option_map (λ report. ExtExitFailure report.0 report.1 report.2) (report_in config line) else None

-- The call of a runtime with this word and these arguments, or else that of an extension.
unfoldable pub runtime_call_in : Config → List ℕ → List (List ℕ) → Option Call
runtime_call_in config word line =
    if bytes_eq word (codes "next") then option_map (λ env. RuntimeNext env) (lone_env_in config line) else
    if bytes_eq word (codes "response")
    then option_map (λ report. Response report.0 report.1 report.2) (report_in config line) else
    if bytes_eq word (codes "response-too-large")
    then option_map (λ two. ResponseTooLarge two.0 two.1) (env_and_count_in config line) else
    if bytes_eq word (codes "failure")
    then option_map (λ report. Failure report.0 report.1 report.2) (report_in config line) else
    if bytes_eq word (codes "init-failure") then init_failure_in config line else extension_call_in config word line

-- The call with this word and these arguments: of a caller, an operator or the clock, or else of an environment. A
-- `reserve` is read only if `reserves` is set, as the script's form decides.
unfoldable pub call_by_word : Bool → Config → List ℕ → List (List ℕ) → Option Call
call_by_word reserves config word line =
    if bytes_eq word (codes "invoke") then invoke_in config line else
    if bytes_eq word (codes "tick") then alone Tick line else
    if bytes_eq word (codes "stop") then alone Stop line else
    if bytes_eq word (codes "spindown") then option_map (λ env. Spindown env) (lone_env_in config line) else
    if bytes_eq word (codes "withdraw") then withdraw_in line else
    if bytes_eq word (codes "reserve") && reserves then reserve_in config line else runtime_call_in config word line

-- The moment and the call of a line that is split into fields: a moment, a word, and the word's arguments.
abbrev pub timed_call_in : Bool → Config → List (List ℕ) → Option (ℕ × Call)
timed_call_in reserves config [] = None
timed_call_in reserves config (moment ∷ []) = None
timed_call_in reserves config (moment ∷ word ∷ line) = do
  m ← number_in greatest_moment moment
  call ← call_by_word reserves config word line
  Some (m, call)

-- The moment and the call of a line without its line ending; `reserves` says whether it may be a `reserve`.
unfoldable pub call_in : Bool → Config → List ℕ → Option (ℕ × Call)
call_in reserves config line = timed_call_in reserves config (fields line)

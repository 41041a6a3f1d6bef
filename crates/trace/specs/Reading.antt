-- Reading the call of an entry back from the tokens of its object: the trace loses none of a history's calls.
use Rattle.std.specs.Prelude.{ℕ, Bool, if◌then◌else◌, List, [], ◌∷◌, drop, codes, bytes_eq, Option, Some, None, option_map, option_and_then}
use Rattle.std.specs.Result.{result_ok}
use Rattle.std.specs.Str.Parse.{digits_value}
use Rattle.arn_ids.specs.Environments.{number_named}
use Rattle.arn_ids.specs.declared.config.Config.{Config}
use Rattle.base64.specs.Engines.{standard}
use Rattle.base64.specs.GeneralPurpose.{decode_of}
use Rattle.call_types.specs.Within.{IsEnv, IsWithin}
use Rattle.call_types.specs.declared.call.Call.{Call}
use Rattle.call_types.specs.declared.call.Call.TheVariants.{Invoke, RuntimeNext, Response, ResponseTooLarge, Failure}
use Rattle.call_types.specs.declared.call.Call.TheVariants.{InitFailure, Register, ExtNext, ExtInitFailure}
use Rattle.call_types.specs.declared.call.Call.TheVariants.{ExtExitFailure, Tick, Withdraw, Spindown, Stop}
use Rattle.call_types.specs.declared.call.Call.TheVariants.{Expire, Reserve}
use Rattle.json.specs.Lex.{tokens}
use Rattle.json.specs.Token.{Token, end_object, end_array, key, string, number, boolean}
use Rattle.script.specs.CallText.{call_text}
use Rattle.script.specs.Lines.{◌>>=◌}

-- The first token, if there is one.
abbrev pub first_token : List Token → Option Token
first_token [] = None
first_token (t ∷ ts) = Some t

-- The value of the first member with a name, given the tokens of an object that has no other objects or lists, from its
-- first member on; `None` if it has no such member.
unfoldable pub member : List ℕ → List Token → Option Token
member name [] = None
member name (end_object ∷ ts) = None
member name (key k ∷ ts) = if bytes_eq k name then first_token ts else member name ts
member name (t ∷ ts) = member name ts

-- The tokens after the first end of an object.
unfoldable pub after_object : List Token → List Token
after_object [] = []
after_object (end_object ∷ ts) = ts
after_object (t ∷ ts) = after_object ts

-- The tokens after the first end of a list.
unfoldable pub after_list : List Token → List Token
after_list [] = []
after_list (end_array ∷ ts) = ts
after_list (t ∷ ts) = after_list ts

-- The text of a value that is a string.
abbrev pub text_in : Option Token → Option (List ℕ)
text_in (Some (string text)) = Some text
text_in _ = None

-- The number of a value that is a whole number.
abbrev pub number_in : Option Token → Option ℕ
number_in (Some (number digits)) = Some (digits_value 10 digits)
number_in _ = None

-- The value of a flag.
abbrev pub flag_in : Option Token → Option Bool
flag_in (Some (boolean set)) = Some set
flag_in _ = None

-- The text of a member that need not be there.
abbrev pub trace_in : Option Token → Option (Option (List ℕ))
trace_in None = Some None
trace_in (Some value) = option_map Some (text_in (Some value))

-- The number of a member that need not be there.
abbrev pub count_in : Option Token → Option (Option ℕ)
count_in None = Some None
count_in (Some value) = option_map Some (number_in (Some value))

-- The bytes of a member `body`, or else those that a member `bodyBase64` encodes.
abbrev pub bytes_in : Option Token → Option Token → Option (List ℕ)
bytes_in None coded = option_and_then (λ text. result_ok (decode_of standard text)) (text_in coded)
bytes_in (Some value) coded = text_in (Some value)

-- The bytes of an object's body.
unfoldable pub body_in : List Token → Option (List ℕ)
body_in ts = bytes_in (member (codes "body") ts) (member (codes "bodyBase64") ts)

-- The environment that a call's object names.
abbrev pub environment_in : List Token → Option ℕ
environment_in ts = number_in (member (codes "environment") ts)

-- The number of the function that a call's object names.
abbrev pub function_in : Config → List Token → Option ℕ
function_in config ts = option_and_then (number_named config) (text_in (member (codes "function") ts))

-- Reads the object of an Invoke.
unfoldable pub invoke_in : Config → List Token → Option Call
invoke_in config ts = do
  function ← function_in config ts
  qualified ← flag_in (member (codes "qualified") ts)
  trace ← trace_in (member (codes "trace") ts)
  body ← body_in ts
  Some (Invoke function qualified trace body)

-- Reads an environment, and the count under a name.
unfoldable pub counted_in : List ℕ → List Token → Option (ℕ × ℕ)
counted_in named ts = do
  env ← environment_in ts
  count ← number_in (member named ts)
  Some (env, count)

-- Reads an environment, the count under a name, and the bytes of a report.
unfoldable pub report_in : List ℕ → List Token → Option (ℕ × ℕ × List ℕ)
report_in named ts = do
  two ← counted_in named ts
  body ← body_in ts
  Some (two.0, two.1, body)

-- Reads the object of an Init error.
unfoldable pub init_failure_in : List Token → Option Call
init_failure_in ts = do
  env ← environment_in ts
  body ← body_in ts
  Some (InitFailure env body)

-- Reads the object of a Register.
unfoldable pub register_in : List Token → Option Call
register_in ts = do
  env ← environment_in ts
  name ← text_in (member (codes "name") ts)
  invoke ← flag_in (member (codes "invoke") ts)
  shutdown ← flag_in (member (codes "shutdown") ts)
  account ← flag_in (member (codes "account") ts)
  Some (Register env name invoke shutdown account)

-- Reads the object of a Reserve.
unfoldable pub reserve_in : Config → List Token → Option Call
reserve_in config ts = do
  function ← function_in config ts
  count ← count_in (member (codes "count") ts)
  Some (Reserve function count)

-- The call of a kind that an extension makes.
unfoldable pub extension_call_in : List ℕ → List Token → Option Call
extension_call_in kind ts =
    if bytes_eq kind (codes "register") then register_in ts else
    if bytes_eq kind (codes "ext-next")
    then option_map (λ two. ExtNext two.0 two.1) (counted_in (codes "extension") ts) else
    if bytes_eq kind (codes "ext-init-failure")
    then option_map (λ report. ExtInitFailure report.0 report.1 report.2) (report_in (codes "extension") ts) else
    if bytes_eq kind (codes "ext-exit-failure")
    then option_map (λ report. ExtExitFailure report.0 report.1 report.2) (report_in (codes "extension") ts) else None

-- The call of a kind that a runtime makes, or else an extension.
unfoldable pub runtime_call_in : List ℕ → List Token → Option Call
runtime_call_in kind ts =
    if bytes_eq kind (codes "next") then option_map (λ env. RuntimeNext env) (environment_in ts) else
    if bytes_eq kind (codes "response")
    then option_map (λ report. Response report.0 report.1 report.2) (report_in (codes "id") ts) else
    if bytes_eq kind (codes "response-too-large")
    then option_map (λ two. ResponseTooLarge two.0 two.1) (counted_in (codes "id") ts) else
    if bytes_eq kind (codes "failure")
    then option_map (λ report. Failure report.0 report.1 report.2) (report_in (codes "id") ts) else
    if bytes_eq kind (codes "init-failure") then init_failure_in ts else extension_call_in kind ts

-- The call of a kind: of a caller, an operator or the clock, or else of an environment.
unfoldable pub call_by_kind : Config → List ℕ → List Token → Option Call
call_by_kind config kind ts =
    if bytes_eq kind (codes "invoke") then invoke_in config ts else
    if bytes_eq kind (codes "tick") then Some Tick else
    if bytes_eq kind (codes "stop") then Some Stop else
    if bytes_eq kind (codes "spindown") then option_map (λ env. Spindown env) (environment_in ts) else
    if bytes_eq kind (codes "expire") then option_map (λ env. Expire env) (environment_in ts) else
    if bytes_eq kind (codes "withdraw")
    then option_map (λ ticket. Withdraw ticket) (number_in (member (codes "ticket") ts)) else
    if bytes_eq kind (codes "reserve") then reserve_in config ts else runtime_call_in kind ts

-- The call whose object has these tokens, from its first member on.
unfoldable pub call_in : Config → List Token → Option Call
call_in config ts = do
  kind ← text_in (member (codes "kind") ts)
  call_by_kind config kind ts

-- The moment and the call of the entry whose object has these tokens: the call's object comes after the list of answers,
-- and the moment after the call.
unfoldable pub entry_in : Config → List Token → Option (ℕ × Call)
entry_in config ts = do
  call ← call_in config (drop 2 (after_list ts))
  moment ← number_in (member (codes "moment") (after_object (after_list ts)))
  Some (moment, call)

-- The line of the call in a history's text, written again from the text of an entry's object.
abbrev pub line_in : Config → List ℕ → Option (List ℕ)
line_in config text = option_map (λ timed. call_text config timed.0 timed.1) (entry_in config (tokens text))

-- A call that an entry can have: one that a client, an operator or the clock can make, or an expiry at an environment.
abbrev pub IsTold : Config → Call → Type 0
IsTold config (Expire e) = IsEnv config e
IsTold config call = IsWithin config call

-- The invocation, the environment and the extension that a reply names, as text.
use Rattle.std.specs.Prelude.{ℕ, Bool, false, if◌then◌else◌, List, Option, Some, None, unwrap_or}
use Rattle.arn_ids.specs.Environments.{function_of, function_at}
use Rattle.arn_ids.specs.Grammar.{arn}
use Rattle.arn_ids.specs.declared.config.Config.{Config}
use Rattle.arn_ids.specs.declared.config.Function.{Function}
use Rattle.arn_ids.specs.declared.identifiers.IdKind.{IdKind}
use Rattle.arn_ids.specs.declared.identifiers.IdKind.TheVariants.{Request}
use Rattle.call_types.specs.declared.call.Call.{Call}
use Rattle.call_types.specs.declared.call.Call.TheVariants.{Invoke, Register}
use Rattle.call_types.specs.Calls.{env_of, invoked}
use Rattle.arn_ids.specs.Identifiers.{id_word}
use Rattle.lambda_wire.specs.Headers.{no_trace}

-- The number of the function that an Invoke names; 0 for every other call.
abbrev pub function_number : Call → ℕ
function_number call = unwrap_or (invoked call) 0

-- The request identifier of an Invoke, from its count at its function (Runtime API: Lambda-Runtime-Aws-Request-Id).
abbrev pub request_text : ℕ → Call → ℕ → List ℕ
request_text salt call count = id_word salt Request (function_number call) count

-- The number of the environment that a call names; 0 if it names none.
abbrev pub env_at : Call → ℕ
env_at call = unwrap_or (env_of call) 0

-- The identifier of an event or an extension of the environment that a call names.
abbrev pub env_text : ℕ → IdKind → Call → ℕ → List ℕ
env_text salt kind call count = id_word salt kind (env_at call) count

-- The configuration of the function that a call invokes.
abbrev pub invoked_function : Config → Call → Function
invoked_function config call = function_at config (function_number call)

-- The configuration of the function of the environment that a call names.
abbrev pub env_function : Config → Call → Function
env_function config call = function_at config (function_of config (env_at call))

-- Whether an Invoke names the version $LATEST.
abbrev pub is_qualified : Call → Bool
is_qualified (Invoke f qualified trace body) = qualified
is_qualified _ = false

-- The ARN of the function that an Invoke names (Runtime API: Lambda-Runtime-Invoked-Function-Arn).
abbrev pub arn_text : Config → Call → List ℕ
arn_text config call = arn config.home (invoked_function config call).name (is_qualified call)

-- The trace of an Invoke; a fixed one if the call has none (Runtime API: Lambda-Runtime-Trace-Id).
abbrev pub trace_text : Call → List ℕ
trace_text (Invoke f qualified trace body) = unwrap_or trace no_trace
trace_text _ = no_trace

-- Whether an extension asked for the account's number (Extensions API, Register: feature accountId).
abbrev pub wants_account : Call → Bool
wants_account (Register e name invoke shutdown account) = account
wants_account _ = false

-- The account's number, if the extension asked for it.
abbrev pub account_text : Config → Call → Option (List ℕ)
account_text config call = if wants_account call then Some config.home.account else None

-- The bodies of replies: compact JSON, the keys in the order of their bytes.
use Rattle.std.specs.Prelude.{ℕ, List, [], ◌++◌, codes, decimal, Option, Some, None}
use Rattle.json.specs.Print.{quoted}
use Rattle.lambda_wire.specs.declared.body_writer.InvokeFault.{InvokeFault}
use Rattle.lambda_wire.specs.declared.body_writer.InvokeFault.TheVariants.{User, NotFound, Service}

-- The body of a refusal on an environment's port (Runtime API and Extensions API: ErrorResponse).
unfoldable pub fault_text : List ℕ → List ℕ → List ℕ
fault_text message kind =
    codes "{\"errorMessage\":" ++ quoted message ++ codes ",\"errorType\":" ++ quoted kind ++ codes "}"

-- The body for a refused Invoke (Lambda API, Invoke: Errors).
unfoldable pub invoke_fault_text : InvokeFault → List ℕ → List ℕ
invoke_fault_text User message = codes "{\"Type\":\"User\",\"message\":" ++ quoted message ++ codes "}"
invoke_fault_text NotFound message = codes "{\"Message\":" ++ quoted message ++ codes ",\"Type\":\"User\"}"
invoke_fault_text Service message = codes "{\"Message\":" ++ quoted message ++ codes ",\"Type\":\"Service\"}"

-- The body for a throttled Invoke (Lambda API, Invoke: TooManyRequestsException).
unfoldable pub throttle_text : List ℕ → List ℕ
throttle_text reason =
    codes "{\"Reason\":" ++ quoted reason ++ codes ",\"Type\":\"User\",\"message\":\"Rate Exceeded.\"}"

-- The body for an accepted request.
unfoldable pub status_text : List ℕ
status_text = codes "{\"status\":\"OK\"}"

-- The member with the account's number, if an extension asked for it.
abbrev pub account_member : Option (List ℕ) → List ℕ
account_member None = []
account_member (Some account) = codes "\"accountId\":" ++ quoted account ++ codes ","

-- The body for an extension that is registered (Extensions API, Register).
unfoldable pub registered_text : Option (List ℕ) → List ℕ → List ℕ → List ℕ
registered_text account function handler = codes "{" ++ account_member account ++ codes "\"functionName\":"
    ++ quoted function
    ++ codes ",\"functionVersion\":\"$LATEST\",\"handler\":" ++ quoted handler ++ codes "}"

-- The body that notifies an extension of an invocation (Extensions API, INVOKE event).
unfoldable pub invoke_event_text : ℕ → List ℕ → List ℕ → List ℕ → List ℕ
invoke_event_text deadline arn request trace = codes "{\"deadlineMs\":" ++ decimal deadline
    ++ codes ",\"eventType\":\"INVOKE\",\"invokedFunctionArn\":" ++ quoted arn
    ++ codes ",\"requestId\":" ++ quoted request
    ++ codes ",\"tracing\":{\"type\":\"X-Amzn-Trace-Id\",\"value\":" ++ quoted trace ++ codes "}}"

-- The body that notifies an extension of the end of its environment (Extensions API, SHUTDOWN event).
unfoldable pub shutdown_event_text : ℕ → List ℕ → List ℕ
shutdown_event_text deadline reason = codes "{\"deadlineMs\":" ++ decimal deadline
    ++ codes ",\"eventType\":\"SHUTDOWN\",\"shutdownReason\":" ++ quoted reason ++ codes "}"

-- The body with a function's reservation (Lambda API, GetFunctionConcurrency).
unfoldable pub reservation_text : Option ℕ → List ℕ
reservation_text None = codes "{}"
reservation_text (Some count) = codes "{\"ReservedConcurrentExecutions\":" ++ decimal count ++ codes "}"

-- The bodies of replies as JSON values, from which the writers make the texts.
use Rattle.std.specs.Prelude.{ℕ, List, codes, Option, Some, None}
use Rattle.serde_json.specs.Data.{Data, number, unsigned, string, object, Members, no_members, member}
use Rattle.lambda_wire.specs.declared.body_writer.InvokeFault.{InvokeFault}
use Rattle.lambda_wire.specs.declared.body_writer.InvokeFault.TheVariants.{User, NotFound, Service}

-- The value for a refusal on an environment's port.
abbrev pub fault_data : List ℕ → List ℕ → Data
fault_data message kind = object
    (member (codes "errorMessage") (string message)
    (member (codes "errorType") (string kind) no_members))

-- The value for a refused Invoke.
abbrev pub invoke_fault_data : InvokeFault → List ℕ → Data
invoke_fault_data User message = object
    (member (codes "Type") (string (codes "User"))
    (member (codes "message") (string message) no_members))
invoke_fault_data NotFound message = object
    (member (codes "Message") (string message)
    (member (codes "Type") (string (codes "User")) no_members))
invoke_fault_data Service message = object
    (member (codes "Message") (string message)
    (member (codes "Type") (string (codes "Service")) no_members))

-- The value for a throttled Invoke.
abbrev pub throttle_data : List ℕ → Data
throttle_data reason = object
    (member (codes "Reason") (string reason)
    (member (codes "Type") (string (codes "User"))
    (member (codes "message") (string (codes "Rate Exceeded.")) no_members)))

-- The members with the account's number before them, if an extension asked for it.
abbrev pub with_account : Option (List ℕ) → Members → Members
with_account None ms = ms
with_account (Some account) ms = member (codes "accountId") (string account) ms

-- The value for a registration.
abbrev pub registered_data : Option (List ℕ) → List ℕ → List ℕ → Data
registered_data account function handler = object
    (with_account account
    (member (codes "functionName") (string function)
    (member (codes "functionVersion") (string (codes "$LATEST"))
    (member (codes "handler") (string handler) no_members))))

-- The value of the member with an invocation's trace.
abbrev pub tracing_data : List ℕ → Data
tracing_data trace = object
    (member (codes "type") (string (codes "X-Amzn-Trace-Id"))
    (member (codes "value") (string trace) no_members))

-- The value for an invocation that began. The deadline is in milliseconds.
abbrev pub invoke_event_data : ℕ → List ℕ → List ℕ → List ℕ → Data
invoke_event_data deadline arn request trace = object
    (member (codes "deadlineMs") (number (unsigned deadline))
    (member (codes "eventType") (string (codes "INVOKE"))
    (member (codes "invokedFunctionArn") (string arn)
    (member (codes "requestId") (string request)
    (member (codes "tracing") (tracing_data trace) no_members)))))

-- The value for an environment that ends. The deadline is in milliseconds.
abbrev pub shutdown_event_data : ℕ → List ℕ → Data
shutdown_event_data deadline reason = object
    (member (codes "deadlineMs") (number (unsigned deadline))
    (member (codes "eventType") (string (codes "SHUTDOWN"))
    (member (codes "shutdownReason") (string reason) no_members)))

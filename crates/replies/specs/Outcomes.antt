-- The replies to callers and operators: outcomes of invocations, and accepted requests.
use Rattle.std.specs.Prelude.{ℕ, Bool, true, List, [], ◌++◌, codes, decimal, Option, Some, None}
use Rattle.lambda_wire.specs.Bodies.{fault_text, throttle_text, invoke_fault_text, status_text, reservation_text}
use Rattle.lambda_wire.specs.Headers.{json_headers, invoke_headers, error_headers}
use Rattle.lambda_wire.specs.declared.body_writer.InvokeFault.TheVariants.{Service}
use Rattle.lambda_wire.specs.declared.reply.Reply.{Reply}
use Rattle.arn_ids.specs.declared.config.Config.{Config}
use Rattle.call_types.specs.declared.call.Call.{Call}
use Rattle.call_types.specs.declared.call.Call.TheVariants.{Invoke}
use Rattle.call_types.specs.declared.answer.Throttle.{Throttle}
use Rattle.call_model.specs.Isolation.{Gist}
use Rattle.call_types.specs.Calls.{body_of}
use Rattle.call_types.specs.Words.{throttle_word}
use Rattle.replies.specs.Words.{request_text, invoked_function}

-- The reply to an Invoke whose invocation ran: the bytes that its runtime reported, marked if they report a failure
-- (Lambda API, Invoke: Response Elements).
unfoldable pub outcome : ℕ → Gist → Bool → Reply
outcome salt gist failed = record {
  status = 200;
  headers = invoke_headers (request_text salt gist.call gist.count) failed;
  body = body_of gist.source;
}

-- The reply to an Invoke whose invocation failed without a report: a message that names it, and an error type.
unfoldable pub failure : ℕ → Gist → List ℕ → List ℕ → Reply
failure salt gist message kind = record {
  status = 200;
  headers = invoke_headers (request_text salt gist.call gist.count) true;
  body = fault_text (request_text salt gist.call gist.count ++ message) kind;
}

-- The reply to an Invoke that took longer than its function's timeout. The message states the timeout in seconds.
abbrev pub timed_out : Config → ℕ → Gist → Reply
timed_out config salt gist =
    failure salt gist
    (codes " Task timed out after " ++ decimal (invoked_function config gist.call).timeout_s ++ codes " seconds")
    (codes "Function.Timeout")

-- The reply to an Invoke that waited for an Init longer than 10 seconds.
abbrev pub init_timed_out : ℕ → Gist → Reply
init_timed_out salt gist = failure salt gist (codes " Init timed out after 10 seconds") (codes "Init.Timeout")

-- The reply to an Invoke whose output was larger than 6,291,456 bytes.
abbrev pub output_too_large : ℕ → Gist → Reply
output_too_large salt gist =
    failure salt gist (codes " Response exceeds 6291456 bytes") (codes "Function.ResponseSizeTooLarge")

-- The reply to an Invoke that is not admitted (Lambda API, Invoke: TooManyRequestsException).
unfoldable pub throttled : ℕ → Gist → Throttle → Reply
throttled salt gist reason = record {
  status = 429;
  headers = error_headers (Some (request_text salt gist.call gist.count)) (codes "TooManyRequestsException");
  body = throttle_text (throttle_word reason);
}

-- The request identifier of an Invoke; `None` for every other call.
abbrev pub request_named : ℕ → Call → ℕ → Option (List ℕ)
request_named salt (Invoke f qualified trace body) count =
    Some (request_text salt (Invoke f qualified trace body) count)
request_named salt call count = None

-- The reply after the service was stopped; an Invoke gets its request identifier (Lambda API, Invoke:
-- ServiceException).
unfoldable pub stopped : Option (List ℕ) → Reply
stopped request = record {
  status = 500;
  headers = error_headers request (codes "ServiceException");
  body = invoke_fault_text Service (codes "Service is stopped");
}

-- The reply to a request that is accepted or done, with this status.
unfoldable pub done_with : ℕ → Reply
done_with status = record { status = status; headers = json_headers; body = status_text }

-- The reply after a reservation is set (Lambda API, PutFunctionConcurrency).
unfoldable pub reserved : ℕ → Reply
reserved count = record { status = 200; headers = json_headers; body = reservation_text (Some count) }

-- The reply after a reservation is removed: no body, and so no header for one (Lambda API, DeleteFunctionConcurrency).
abbrev pub unreserved : Reply
unreserved = record { status = 204; headers = []; body = [] }

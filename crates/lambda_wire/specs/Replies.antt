-- Whole replies that refuse.
use Rattle.std.specs.Prelude.{ℕ, List, None}
use Rattle.lambda_wire.specs.Bodies.{fault_text, invoke_fault_text}
use Rattle.lambda_wire.specs.Headers.{json_headers, error_headers}
use Rattle.lambda_wire.specs.declared.body_writer.InvokeFault.{InvokeFault}
use Rattle.lambda_wire.specs.declared.reply.Reply.{Reply}

-- A refusal on an environment's port, with its status, its message and its error type.
abbrev pub fault_reply : ℕ → List ℕ → List ℕ → Reply
fault_reply status message kind = record { status = status; headers = json_headers; body = fault_text message kind }

-- A refusal by the Lambda API, before a call, with its status, its error type, the form of its body and its message.
abbrev pub invoke_fault_reply : ℕ → List ℕ → InvokeFault → List ℕ → Reply
invoke_fault_reply status kind form message = record {
  status = status;
  headers = error_headers None kind;
  body = invoke_fault_text form message;
}

-- Answers to requests that never become a call.
use Rattle.std.specs.Prelude.{Bool, true, false, codes}
use Rattle.lambda_wire.specs.Replies.{fault_reply, invoke_fault_reply}
use Rattle.lambda_wire.specs.declared.body_writer.InvokeFault.TheVariants.{User, Service}
use Rattle.lambda_wire.specs.declared.reply.Reply.{Reply}
use Rattle.service_port.specs.declared.port.Port.{Port}
use Rattle.service_port.specs.declared.port.Port.TheVariants.{Account, Environment, Handled}
use Rattle.request_guard.specs.declared.refusal.Refusal.{Refusal}
use Rattle.request_guard.specs.declared.refusal.Refusal.TheVariants.{MalformedHost, FromPage, ForeignHost}
use Rattle.request_guard.specs.declared.refusal.Refusal.TheVariants.{ForeignCoding, BrokenBody, OutOfMemory}

-- Whether a refusal ends the connection after its reply, whatever is left of the request: what is refused by its head
-- may have a body, which nobody reads. (After a broken body, the connection ends by itself.)
abbrev pub closes : Refusal → Bool
closes MalformedHost = true
closes FromPage = true
closes ForeignHost = true
closes ForeignCoding = true
closes BrokenBody = false
closes OutOfMemory = true

-- The reply on a port of the Lambda API.
abbrev pub lambda_reply : Refusal → Reply
lambda_reply MalformedHost = invoke_fault_reply 400 (codes "InvalidParameterValueException") User
    (codes "Host is malformed")
lambda_reply FromPage = invoke_fault_reply 403 (codes "AccessDeniedException") User
    (codes "Web pages may not call this service")
lambda_reply ForeignHost = invoke_fault_reply 403 (codes "AccessDeniedException") User
    (codes "Host is neither local nor in LAMBDA_LOCAL_HOSTS")
lambda_reply ForeignCoding = fault_reply 501 (codes "Transfer coding not supported") (codes "NotImplemented")
lambda_reply BrokenBody = invoke_fault_reply 400 (codes "InvalidRequestContentException") User
    (codes "Body is malformed")
lambda_reply OutOfMemory = invoke_fault_reply 500 (codes "ServiceException") Service (codes "Out of memory")

-- The reply on a port of the Runtime API and the Extensions API.
abbrev pub runtime_reply : Refusal → Reply
runtime_reply MalformedHost = fault_reply 400 (codes "Host is malformed") (codes "InvalidHost")
runtime_reply FromPage = fault_reply 403 (codes "Web pages may not call this service") (codes "AccessDenied")
runtime_reply ForeignHost = fault_reply 403 (codes "Host is neither local nor in LAMBDA_LOCAL_HOSTS")
    (codes "AccessDenied")
runtime_reply ForeignCoding = fault_reply 501 (codes "Transfer coding not supported") (codes "NotImplemented")
runtime_reply BrokenBody = fault_reply 400 (codes "Body is malformed") (codes "InvalidRequestFormat")
runtime_reply OutOfMemory = fault_reply 500 (codes "Out of memory") (codes "OutOfMemory")

-- The reply to a refused request, in the form of its port's API.
abbrev pub refusal_reply : Port → Refusal → Reply
refusal_reply Account = lambda_reply
refusal_reply (Environment e) = runtime_reply
refusal_reply (Handled number) = lambda_reply

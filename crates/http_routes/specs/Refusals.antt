-- Replies that refuse a request before there is a call.
use Rattle.std.specs.Prelude.{ℕ, List, codes, Option, Some, None}
use Rattle.lambda_wire.specs.Headers.{method_headers}
use Rattle.lambda_wire.specs.Replies.{fault_reply, invoke_fault_reply}
use Rattle.lambda_wire.specs.declared.body_writer.InvokeFault.{InvokeFault}
use Rattle.lambda_wire.specs.declared.body_writer.InvokeFault.TheVariants as fault
use Rattle.decisions.specs.declared.decide.Decision.{Decision}
use Rattle.decisions.specs.declared.decide.Decision.TheVariants.{Reply}
use Rattle.http_routes.specs.Methods.{Method, allow_field}
use Rattle.http_routes.specs.declared.refusals.Cause.{Cause}
use Rattle.http_routes.specs.declared.refusals.Cause.TheVariants.{NotFound, WrongTicket, WrongFollow, WrongBodies}
use Rattle.http_routes.specs.declared.refusals.Cause.TheVariants.{WrongMilliseconds, WrongRequest, UnknownExtension}
use Rattle.http_routes.specs.declared.refusals.Cause.TheVariants.{MissingHeader, TooLarge, UnreadableRegistration}
use Rattle.http_routes.specs.declared.refusals.Cause.TheVariants.{WrongEvent, MalformedName, UnknownFunction}
use Rattle.http_routes.specs.declared.refusals.Cause.TheVariants.{WrongInvocationType, PayloadTooLarge}
use Rattle.http_routes.specs.declared.refusals.Cause.TheVariants.{UnreadablePayload, UnreadableReservation, NoHandler}

-- The message for a body that is longer than one may be.
abbrev pub too_long : List ℕ
too_long = codes "Payload exceeds 6291456 bytes"

-- The status, the type and the message of a refusal (Runtime API: InvalidRequestID, 413; Extensions API: 403; Lambda
-- API: InvalidParameterValueException, ResourceNotFoundException, RequestTooLargeException,
-- InvalidRequestContentException).
abbrev pub refusal_words : Cause → ℕ × List ℕ × List ℕ
refusal_words NotFound = (404, codes "NotFound", codes "No such resource")
refusal_words WrongTicket = (400, codes "InvalidTicket", codes "from is not a ticket")
refusal_words WrongFollow = (400, codes "InvalidQuery", codes "follow is not 1")
refusal_words WrongBodies = (400, codes "InvalidQuery", codes "bodies is not none")
refusal_words WrongMilliseconds =
    (400, codes "InvalidMilliseconds", codes "ms is not one number from 1 to 9007199254740991")
refusal_words WrongRequest = (400, codes "InvalidRequestID", codes "Not the open invocation")
refusal_words UnknownExtension = (403, codes "Extension.UnknownIdentifier", codes "Extension is not registered here")
refusal_words MissingHeader = (400, codes "MissingHeader", codes "A required header is missing")
refusal_words TooLarge = (413, codes "RequestEntityTooLarge", too_long)
refusal_words UnreadableRegistration = (400, codes "InvalidRequestFormat", codes "Body is not readable")
refusal_words WrongEvent = (400, codes "InvalidEventType", codes "Event is not INVOKE or SHUTDOWN")
refusal_words MalformedName =
    (400, codes "InvalidParameterValueException", codes "Function name or qualifier is malformed")
refusal_words UnknownFunction = (404, codes "ResourceNotFoundException", codes "Function not found")
refusal_words WrongInvocationType =
    (400, codes "InvalidParameterValueException", codes "Invocation type is not RequestResponse")
refusal_words PayloadTooLarge = (413, codes "RequestTooLargeException", too_long)
refusal_words UnreadablePayload = (400, codes "InvalidRequestContentException", codes "Payload is not JSON")
refusal_words UnreadableReservation = (400, codes "InvalidRequestContentException", codes "Body is not readable")
refusal_words NoHandler = (503, codes "ServiceException", codes "No handler is here")

-- Whose fault a refusal says it is, which only replies of the Lambda API say; `None` for the other APIs and for this
-- service's own routes.
abbrev pub fault_of : Cause → Option InvokeFault
fault_of NotFound = None
fault_of WrongTicket = None
fault_of WrongFollow = None
fault_of WrongBodies = None
fault_of WrongMilliseconds = None
fault_of WrongRequest = None
fault_of UnknownExtension = None
fault_of MissingHeader = None
fault_of TooLarge = None
fault_of UnreadableRegistration = None
fault_of WrongEvent = None
fault_of MalformedName = Some fault.User
fault_of UnknownFunction = Some fault.NotFound
fault_of WrongInvocationType = Some fault.User
fault_of PayloadTooLarge = Some fault.User
fault_of UnreadablePayload = Some fault.User
fault_of UnreadableReservation = Some fault.User
fault_of NoHandler = Some fault.Service

-- The reply, in the form of its API.
abbrev pub reply_of : Option InvokeFault → ℕ × List ℕ × List ℕ → Decision
reply_of None words = Reply (fault_reply words.0 words.2 words.1)
reply_of (Some fault) words = Reply (invoke_fault_reply words.0 words.1 fault words.2)

-- The reply to a refused request.
unfoldable pub refused : Cause → Decision
refused cause = reply_of (fault_of cause) (refusal_words cause)

-- The reply if the route does not have the method. It lists those that the route has (RFC 9110, section 15.5.6).
unfoldable pub wrong_method : List Method → Decision
wrong_method methods = Reply (record (fault_reply 405 (codes "Method not allowed") (codes "MethodNotAllowed"))
    { headers = method_headers (allow_field methods) })

-- The replies to calls that are refused. If the public documents leave a status, a type or a message open, it is this
-- service's own.
use Rattle.std.specs.Prelude.{ℕ, List, codes}
use Rattle.lambda_wire.specs.Replies.{fault_reply, invoke_fault_reply}
use Rattle.lambda_wire.specs.declared.body_writer.InvokeFault.TheVariants.{User}
use Rattle.lambda_wire.specs.declared.reply.Reply.{Reply}
use Rattle.call_types.specs.declared.answer.Rejection.{Rejection}
use Rattle.call_types.specs.declared.answer.Rejection.TheVariants.{State, Replaced, BadId, Unknown, TooLarge, Container}
use Rattle.call_types.specs.declared.answer.Rejection.TheVariants.{NameInUse, TooMany, NotIdle, BadReservation}

-- The status, the error type and the message of a refusal.
abbrev pub refusal_words : Rejection → ℕ × List ℕ × List ℕ
refusal_words State = (403, codes "InvalidStateTransition", codes "Not allowed in the current phase")
refusal_words Replaced = (403, codes "InvalidStateTransition", codes "A newer poll replaced this one")
refusal_words BadId = (400, codes "InvalidRequestID", codes "Not the open invocation")
refusal_words Unknown = (403, codes "Extension.UnknownIdentifier", codes "Extension is not registered here")
refusal_words TooLarge = (413, codes "RequestEntityTooLarge", codes "Payload exceeds 6291456 bytes")
refusal_words Container = (500, codes "ContainerError", codes "Environment is shutting down")
refusal_words NameInUse = (403, codes "Extension.AlreadyRegistered", codes "Extension name is in use")
refusal_words TooMany = (403, codes "Extension.TooManyExtensions", codes "Ten extensions are registered")
refusal_words NotIdle = (409, codes "NotIdle", codes "Environment is not idle")
refusal_words BadReservation = (400, codes "InvalidParameterValueException", codes "Reservation is out of range")

-- The reply that refuses on an environment's port, or by an operator's route (Runtime API and Extensions API:
-- ErrorResponse).
abbrev pub plain_refusal : ℕ × List ℕ × List ℕ → Reply
plain_refusal words = fault_reply words.0 words.2 words.1

-- The reply that refuses a reservation (Lambda API, PutFunctionConcurrency: Errors).
abbrev pub reservation_refusal : ℕ × List ℕ × List ℕ → Reply
reservation_refusal words = invoke_fault_reply words.0 words.1 User words.2

-- The reply to a refused call.
unfoldable pub refused : Rejection → Reply
refused BadReservation = reservation_refusal (refusal_words BadReservation)
refused refusal = plain_refusal (refusal_words refusal)

-- The reply to a poll that was withdrawn.
abbrev pub withdrawn : Reply
withdrawn = fault_reply 403 (codes "The poll was withdrawn") (codes "InvalidStateTransition")

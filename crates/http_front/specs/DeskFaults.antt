-- The replies to requests that have no answer of a handler, and to handlers whose own requests are refused.
use Rattle.std.specs.Prelude.{List, ℕ, Option, Some, None, codes, length, nat_lt, if◌then◌else◌}
use Rattle.arn_ids.specs.Limits.{longest_body}
use Rattle.handler_desk.specs.declared.pipe.PipeFault.{PipeFault}
use Rattle.handler_desk.specs.declared.pipe.PipeFault.TheVariants as pipe
use Rattle.handler_desk.specs.declared.state.NotPut.{NotPut}
use Rattle.handler_desk.specs.declared.state.NotPut.TheVariants as put
use Rattle.handover.specs.declared.answer_fault.AnswerFault.{AnswerFault}
use Rattle.handover.specs.declared.answer_fault.AnswerFault.TheVariants as head
use Rattle.handover.specs.declared.fault.NotTaken.{NotTaken}
use Rattle.handover.specs.declared.fault.NotTaken.TheVariants as taken
use Rattle.http_routes.specs.Refusals.{too_long}
use Rattle.lambda_wire.specs.Replies.{fault_reply, invoke_fault_reply}
use Rattle.lambda_wire.specs.declared.body_writer.InvokeFault.TheVariants.{User, Service}
use Rattle.lambda_wire.specs.declared.reply.Reply.{Reply}
use Rattle.long_poll.specs.declared.body_piece.PieceFault.{PieceFault}
use Rattle.long_poll.specs.declared.body_piece.PieceFault.TheVariants as piece
use Rattle.long_poll.specs.declared.exchange.fault.ExchangeFault.{ExchangeFault}
use Rattle.long_poll.specs.declared.exchange.fault.ExchangeFault.TheVariants as exchange
use Rattle.long_poll.specs.declared.rejections.rejection.Cause.{Cause}
use Rattle.long_poll.specs.declared.rejections.rejection.Cause.TheVariants as cause
use Rattle.http_front.specs.declared.at_desk.flowing.FlowFault.{FlowFault}
use Rattle.http_front.specs.declared.at_desk.flowing.FlowFault.TheVariants as flow
use Rattle.http_front.specs.declared.at_desk.fault.HandedFault.{HandedFault}
use Rattle.http_front.specs.declared.at_desk.fault.HandedFault.TheVariants as handed
use Rattle.http_front.specs.declared.at_desk.fault.HandlerFault.{HandlerFault}
use Rattle.http_front.specs.declared.at_desk.fault.HandlerFault.TheVariants as own

-- Why a request has no answer whose body was not collected. (That of a lost bell never comes.)
abbrev pub of_body : ExchangeFault → HandedFault
of_body exchange.BodyFailed = handed.BodyFailed
of_body exchange.OutOfMemory = handed.OutOfMemory
of_body exchange.BellLost = handed.OutOfMemory

-- Why the log counts a request as rejected that has no answer: because of its body, or not at all.
abbrev pub cause_of : HandedFault → Option Cause
cause_of handed.TooLong = Some cause.TooLong
cause_of handed.BodyFailed = Some cause.BrokenBody
cause_of handed.NoHandler = None
cause_of handed.TooMany = None
cause_of handed.Failed = None
cause_of handed.OutOfMemory = None

-- Why a post is refused whose body was not collected.
abbrev pub of_posted_body : ExchangeFault → HandlerFault
of_posted_body exchange.BodyFailed = own.BodyFailed
of_posted_body exchange.OutOfMemory = own.OutOfMemory
of_posted_body exchange.BellLost = own.OutOfMemory

-- Why a post is refused if the head of its answer cannot be read.
abbrev pub of_head : AnswerFault → HandlerFault
of_head head.NoStatus = own.Unreadable head.NoStatus
of_head head.SeveralStatuses = own.Unreadable head.SeveralStatuses
of_head head.NotAStatus = own.Unreadable head.NotAStatus
of_head head.StatusOutOfRange = own.Unreadable head.StatusOutOfRange
of_head head.NoColon = own.Unreadable head.NoColon
of_head head.BadName = own.Unreadable head.BadName
of_head head.FramingName = own.Unreadable head.FramingName
of_head head.BadValue = own.Unreadable head.BadValue
of_head head.OutOfMemory = own.OutOfMemory

-- Why a post is refused if its body is not passed on to its end.
abbrev pub of_flow : FlowFault → HandlerFault
of_flow flow.Gone = own.NotTaken taken.IsOver
of_flow flow.BodyFailed = own.BodyFailed
of_flow flow.OutOfMemory = own.OutOfMemory

-- Why a body is not passed on whose bytes its requester does not take.
abbrev pub of_pipe : PipeFault → FlowFault
of_pipe pipe.Gone = flow.Gone
of_pipe pipe.OutOfMemory = flow.OutOfMemory

-- Why a body is not passed on of which no further piece comes.
abbrev pub of_piece : PieceFault → FlowFault
of_piece piece.BodyFailed = flow.BodyFailed
of_piece piece.OutOfMemory = flow.OutOfMemory

-- Why a post is refused whose body was collected: that it is too long, or else what is said of the post.
abbrev pub refusal_behind : List ℕ → HandlerFault → HandlerFault
refusal_behind body said = if nat_lt longest_body (length body) then own.TooLong else said

-- Why a request that does not wait has no answer.
abbrev pub of_put : NotPut → HandedFault
of_put put.NoHandler = handed.NoHandler
of_put put.TooMany = handed.TooMany
of_put put.OutOfMemory = handed.OutOfMemory

-- The reply to a request that has no answer of a handler, in the form of the Lambda API.
abbrev pub handed_reply : HandedFault → Reply
handed_reply handed.TooLong = invoke_fault_reply 413 (codes "RequestTooLargeException") User
    too_long
handed_reply handed.BodyFailed = invoke_fault_reply 400 (codes "InvalidRequestContentException") User
    (codes "Body is malformed")
handed_reply handed.NoHandler = invoke_fault_reply 503 (codes "ServiceException") Service
    (codes "No handler is here any more")
handed_reply handed.TooMany = invoke_fault_reply 503 (codes "ServiceException") Service
    (codes "Too many requests wait for a handler")
handed_reply handed.Failed = invoke_fault_reply 502 (codes "ServiceException") Service
    (codes "The handler of the request has failed")
handed_reply handed.OutOfMemory = invoke_fault_reply 500 (codes "ServiceException") Service (codes "Out of memory")

-- The reply to a handler that answers a request which it has not taken, or which is over.
abbrev pub not_taken_reply : NotTaken → Reply
not_taken_reply taken.StillWaits = fault_reply 409 (codes "No handler has taken the request") (codes "RequestNotTaken")
not_taken_reply taken.ByAnother =
    fault_reply 409 (codes "Another handler has taken the request") (codes "RequestOfAnother")
not_taken_reply taken.IsOver = fault_reply 409 (codes "The request is over") (codes "RequestIsOver")
not_taken_reply taken.NotGiven = fault_reply 404 (codes "No request has this identifier") (codes "UnknownRequest")

-- The message for a head of an answer that cannot be read.
abbrev pub unreadable : AnswerFault → List ℕ
unreadable head.NoStatus = codes "Lambda-Local-Status is missing"
unreadable head.SeveralStatuses = codes "Lambda-Local-Status is there more than once"
unreadable head.NotAStatus = codes "Lambda-Local-Status is not a number"
unreadable head.StatusOutOfRange = codes "Lambda-Local-Status is not from 200 to 599"
unreadable head.NoColon = codes "A Lambda-Local-Header has no colon"
unreadable head.BadName = codes "A Lambda-Local-Header names no field"
unreadable head.FramingName = codes "A Lambda-Local-Header names a field that the service sets itself"
unreadable head.BadValue = codes "A Lambda-Local-Header has a value that no field can have"
unreadable head.OutOfMemory = codes "Out of memory"

-- The reply to a handler's own request that is refused.
abbrev pub handler_reply : HandlerFault → Reply
handler_reply own.TooLong = fault_reply 413 too_long (codes "RequestEntityTooLarge")
handler_reply own.BodyFailed = fault_reply 400 (codes "Body is malformed") (codes "InvalidRequestFormat")
handler_reply (own.NotTaken fault) = not_taken_reply fault
handler_reply (own.Unreadable fault) = fault_reply 400 (unreadable fault) (codes "InvalidResponse")
handler_reply own.ServiceEnded = fault_reply 503 (codes "The service has ended") (codes "ServiceEnded")
handler_reply own.OutOfMemory = fault_reply 500 (codes "Out of memory") (codes "OutOfMemory")

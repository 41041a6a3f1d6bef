-- Which requests are handed over to handlers, and the responses to these and to handlers.
use Rattle.std.specs.Prelude.{◌≡◌, ◌++◌, ℕ, Bool, true, false, List, [], ◌∷◌, codes, ◌⊎◌, Option, Some, None, Result, Ok, Err}
use Rattle.handler_desk.specs.Asked.{asked}
use Rattle.handler_desk.specs.declared.asked.Asked.{Asked}
use Rattle.handler_desk.specs.declared.asked.Asked.TheVariants as asks_for
use Rattle.handler_desk.specs.declared.posted.Posted.{Posted}
use Rattle.handover.specs.Heads.{line_of}
use Rattle.handover.specs.declared.request.Request.{Request}
use Rattle.http.specs.Response.{body_of}
use Rattle.http.specs.Uri.{uri_path_and_query}
use Rattle.http.specs.declared.request.Parts.{Parts}
use Rattle.http.specs.declared.response.Response.{Response}
use Rattle.http_body_util.specs.declared.either.Either.{Either}
use Rattle.http_front.specs.Sent.{SentBody, IsPassed}
use Rattle.http_header.specs.FieldValue.{FieldValue}
use Rattle.http_front.specs.DeskFaults.{handed_reply, handler_reply}
use Rattle.http_front.specs.Responses.{HasMap, HasHead, IsWhole, IsResponseOf}
use Rattle.http_front.specs.declared.at_desk.Way.{Way}
use Rattle.http_front.specs.declared.at_desk.Way.TheVariants.{Own, Handed, OfHandler}
use Rattle.http_front.specs.declared.at_desk.fault.HandedFault.{HandedFault}
use Rattle.http_front.specs.declared.at_desk.fault.HandlerFault.{HandlerFault}
use Rattle.http_front.specs.declared.at_desk.response.Done.{Done}
use Rattle.http_front.specs.declared.at_desk.response.Done.TheVariants as done
use Rattle.http_routes.specs.Decisions.{Served}
use Rattle.http_routes.specs.Handing.{hands_over, is_own}
use Rattle.http_uri.specs.Grammar.{or_slash}
use Rattle.lambda_wire.specs.HeaderFields.{fields}
use Rattle.lambda_wire.specs.Headers.{header}
use Rattle.long_poll.specs.Lengths.{declares_too_long}

-- The text of a target, if there is one.
abbrev pub text_of : Option (List ℕ) → List ℕ
text_of None = []
text_of (Some target) = or_slash target

-- The target of a request: its path and its query.
abbrev pub target_of : Parts → List ℕ
target_of p = text_of (uri_path_and_query p.uri)

-- Whether something is asked for.
abbrev pub is_something : Asked → Bool
is_something asks_for.Next = true
is_something (asks_for.Response id) = true
is_something (asks_for.Failure id) = true
is_something asks_for.Nothing = false

-- Whether a handler asks for something with a request of this head.
abbrev pub asks : Parts → Bool
asks p = is_something (asked p)

-- Who may answer a request, as far as its head says it: the desk a handler's own by which something is asked for; a
-- handler one that may be handed over, since whether one is here the head does not say; and the service itself each that
-- is not the first of these.
abbrev pub IsWayOf : Served → Parts → Way → Type 0
IsWayOf served p Own = is_own served p ≡ true → asks p ≡ false
IsWayOf served p Handed = hands_over served p ≡ true
IsWayOf served p OfHandler = (is_own served p ≡ true) × (asks p ≡ true)

-- The response is what a handler posts, and the connection's last or not: it has its status, its fields and no other, and
-- its body is what comes out of the pipe into which that of the post is put.
abbrev pub IsPosted : {H : Type 0} → Bool → Posted → Response (Either SentBody H) → Type 0
IsPosted is_last posted response =
    HasMap is_last posted.head.status (fields posted.head.fields.items) response
    × IsPassed posted.body (body_of response)

-- The response is that to a request that was to be handed over: what a handler has posted, or why there is nothing.
abbrev pub IsHandedResponse : {H : Type 0} → Bool → Result Posted HandedFault → Response (Either SentBody H)
    → Type 0
IsHandedResponse is_last (Ok posted) response = IsPosted is_last posted response
IsHandedResponse is_last (Err fault) response = IsResponseOf is_last (handed_reply fault) response

-- The headers of a request that a handler gets.
abbrev pub octets_headers : List (List ℕ × FieldValue)
octets_headers = header (codes "content-type") (codes "application/octet-stream") ∷ []

-- The response is that to a handler's own request: a request, as the line of its head and its body; that what it posted
-- was given to the requester; or why it is refused.
abbrev pub IsHandlerResponse : {H : Type 0} → Bool → Result Done HandlerFault → Response (Either SentBody H)
    → Type 0
IsHandlerResponse is_last (Ok (done.Request id request)) response =
    HasHead is_last 200 octets_headers response
    × IsWhole (line_of id request.head.items ++ request.body) (body_of response)
IsHandlerResponse is_last (Ok done.Accepted) response = HasMap is_last 202 [] response × IsWhole [] (body_of response)
IsHandlerResponse is_last (Err fault) response = IsResponseOf is_last (handler_reply fault) response

-- Whether a handler has a request now, which it has not answered yet.
abbrev pub has_a_request : Result Done HandlerFault → Bool
has_a_request (Ok (done.Request id request)) = true
has_a_request (Ok done.Accepted) = false
has_a_request (Err fault) = false

-- The response is one to a request that was to be handed over.
abbrev pub IsHandedAnswer : {H : Type 0} → Bool → Response (Either SentBody H) → Type 0
IsHandedAnswer is_last response = (outcome : Result Posted HandedFault) × IsHandedResponse is_last outcome response

-- The response is one to a handler's own request.
abbrev pub IsHandlerAnswer : {H : Type 0} → Bool → Response (Either SentBody H) → Type 0
IsHandlerAnswer is_last response = (outcome : Result Done HandlerFault) × IsHandlerResponse is_last outcome response

-- The response is one that is given at the desk of a port: to a request that may be handed over, or to a handler's own. It
-- is the connection's last if the head declares a body that is too long, which is then left unread.
abbrev pub IsGivenAtDesk : {H : Type 0} → Served → Parts → Response (Either SentBody H) → Type 0
IsGivenAtDesk served head response =
    ((hands_over served head ≡ true) × IsHandedAnswer (declares_too_long head) response)
    ⊎ ((is_own served head ≡ true) × (asks head ≡ true) × IsHandlerAnswer (declares_too_long head) response)

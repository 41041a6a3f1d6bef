-- The response that carries an outcome.
use Rattle.std.specs.Prelude.{◌≡◌, ℕ, Bool, true, false, ◌||◌, List, ◌==◌, if◌then◌else◌, length, codes}
use Rattle.std.specs.Prelude.{Option, Some, None, Result, Ok, Err}
use Rattle.http.specs.Response.{head_of, body_of}
use Rattle.http.specs.declared.response.Response.{Response}
use Rattle.http.specs.declared.version.TheConstants.Version.{HTTP_11}
use Rattle.http_body_util.specs.declared.either.Either.{Either}
use Rattle.http_body_util.specs.declared.either.Either.TheVariants.{Left, Right}
use Rattle.http_body_util.specs.declared.full.Full.{Full}
use Rattle.http_front.specs.Sent.{SentBody}
use Rattle.http_header.specs.FieldValue.{FieldValue, plain_value}
use Rattle.http_header.specs.HeaderMap.{Entries, append}
use Rattle.lambda_wire.specs.HeaderFields.{fields}
use Rattle.lambda_wire.specs.declared.reply.Reply.{Reply as Replied}
use Rattle.long_poll.specs.Views.{history_headers, trace_headers}
use Rattle.long_poll.specs.declared.exchange.fault.ExchangeFault.{ExchangeFault}
use Rattle.long_poll.specs.declared.exchange.fault.ExchangeFault.TheVariants as fault
use Rattle.long_poll.specs.declared.exchange.outcome.Outcome.{Outcome}
use Rattle.long_poll.specs.declared.exchange.outcome.Outcome.TheVariants.{Reply, History, Trace}
use Rattle.request_guard.specs.Refusals.{closes, refusal_reply}
use Rattle.service_port.specs.declared.port.Port.{Port}
use Rattle.request_guard.specs.declared.refusal.Refusal.{Refusal}
use Rattle.request_guard.specs.declared.refusal.Refusal.TheVariants.{BrokenBody, OutOfMemory}

-- These header fields, and if the connection ends after the response, a last one that says so (RFC 9112, section 9.6).
abbrev pub said_closing : Bool → Entries FieldValue → Entries FieldValue
said_closing false map = map
said_closing true map = append map (codes "connection") (plain_value (codes "close"))

-- A response has this status and these header fields, in a map, says whether it is the last, and has no other field.
pub record HasMap {B : Type 0} (is_last : Bool) (status : ℕ) (map : Entries FieldValue) (response : Response B)
    : Type 0 where
  pub status_is : (head_of response).status ≡ status
  pub version_is : (head_of response).version ≡ HTTP_11
  pub headers_are : (head_of response).headers ≡ said_closing is_last map

-- A response has this status and these header fields, says whether it is the last, and has no other field.
abbrev pub HasHead : {B : Type 0} → Bool → ℕ → List (List ℕ × FieldValue) → Response B → Type 0
HasHead is_last status headers = HasMap is_last status (fields headers)

-- A body in one piece, or without a piece if there are no bytes.
abbrev pub whole : List ℕ → Option (List ℕ)
whole bytes = if length bytes == 0 then None else Some bytes

-- A body is these bytes in one piece.
abbrev pub IsWhole : {H : Type 0} → List ℕ → Either SentBody H → Type 0
IsWhole bytes (Left (Left full)) = full.buf ≡ whole bytes
IsWhole bytes (Left (Right passed)) = ⊥
IsWhole bytes (Right body) = ⊥

-- A response is that of a reply, and the connection's last or not: it has its status, its header fields and no other,
-- and its bytes.
abbrev pub IsResponseOf : {H : Type 0} → Bool → Replied → Response (Either SentBody H) → Type 0
IsResponseOf is_last reply response =
    HasHead is_last reply.status reply.headers response × IsWhole reply.body (body_of response)

-- A response is that of an outcome, and the connection's last or not: that of its reply; or, if it is a history,
-- one with status 200 and the headers of a text, which shows the history as its body; a trace is shown as lines of JSON.
abbrev pub IsResponseTo : {H L : Type 0} → Bool → Outcome H L → Response (Either SentBody H) → Type 0
IsResponseTo is_last (Reply reply token) response = IsResponseOf is_last reply response
IsResponseTo is_last (History body) response =
    HasHead is_last 200 history_headers response × (body_of response ≡ Right body)
IsResponseTo is_last (Trace body) response =
    HasHead is_last 200 trace_headers response × (body_of response ≡ Right body)

-- A response is that of a refusal, in the form of its port's API. It is the connection's last if the body is left
-- unread, or if the refusal itself ends the connection.
abbrev pub IsRefusal : {H : Type 0} → Port → Bool → Refusal → Response (Either SentBody H) → Type 0
IsRefusal at is_unread refusal response =
    IsResponseOf (is_unread || closes refusal) (refusal_reply at refusal) response

-- A response is that of an exchange's result, whose body was left unread or not: 400 for a body that failed, 500 if an
-- allocation failed. There is none for a lost bell.
abbrev pub IsAnswerTo : {H L : Type 0} → Port → Bool → Result (Outcome H L) ExchangeFault
    → Response (Either SentBody H) → Type 0
IsAnswerTo at is_unread (Ok outcome) response = IsResponseTo is_unread outcome response
IsAnswerTo at is_unread (Err fault.BodyFailed) response = IsRefusal at is_unread BrokenBody response
IsAnswerTo at is_unread (Err fault.OutOfMemory) response = IsRefusal at is_unread OutOfMemory response
IsAnswerTo at is_unread (Err fault.BellLost) response = ⊥

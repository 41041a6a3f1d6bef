-- The replies that show something of an account.
use Rattle.std.specs.Prelude.{ℕ, Bool, true, false, List, [], ◌∷◌, ◌++◌, codes, decimal, Option}
use Rattle.call_types.specs.declared.stats.Stats.{Stats}
use Rattle.long_poll.specs.declared.exchange.views.TheConstants.{VERSION}
use Rattle.serde_json.specs.Data.{Data, boolean, number, unsigned, string, object, member, no_members}
use Rattle.http_header.specs.FieldValue.{FieldValue}
use Rattle.lambda_wire.specs.Bodies.{reservation_text}
use Rattle.lambda_wire.specs.Headers.{header, json_headers, text_headers}
use Rattle.lambda_wire.specs.Replies.{fault_reply}
use Rattle.lambda_wire.specs.declared.reply.Reply.{Reply}

-- The counts of an account as a JSON value.
abbrev pub stats_data : Stats → Data
stats_data stats = object
    (member (codes "admitted") (number (unsigned stats.admitted))
    (member (codes "entries") (number (unsigned stats.entries))
    (member (codes "failed") (number (unsigned stats.failed))
    (member (codes "inFlight") (number (unsigned stats.in_flight))
    (member (codes "throttled") (number (unsigned stats.throttled)) no_members)))))

-- The counts of an account as JSON, with the keys in the order of their bytes.
unfoldable pub stats_text : Stats → List ℕ
stats_text stats =
    codes "{\"admitted\":" ++ decimal stats.admitted ++ codes ",\"entries\":" ++ decimal stats.entries
    ++ codes ",\"failed\":" ++ decimal stats.failed ++ codes ",\"inFlight\":" ++ decimal stats.in_flight
    ++ codes ",\"throttled\":" ++ decimal stats.throttled ++ codes "}"

-- The reply that shows the counts of an account.
abbrev pub stats_reply : Stats → Reply
stats_reply stats = record { status = 200; headers = json_headers; body = stats_text stats }

-- What a clock shows as a JSON value: its reading, and whether it is running.
abbrev pub clock_data : ℕ → Bool → Data
clock_data now running = object
    (member (codes "now") (number (unsigned now)) (member (codes "running") (boolean running) no_members))

-- Whether a clock is running, as JSON.
abbrev pub running_text : Bool → List ℕ
running_text true = codes "true"
running_text false = codes "false"

-- What a clock shows as JSON.
unfoldable pub clock_text : ℕ → Bool → List ℕ
clock_text now running =
    codes "{\"now\":" ++ decimal now ++ codes ",\"running\":" ++ running_text running ++ codes "}"

-- The reply that shows a clock.
abbrev pub clock_reply : ℕ → Bool → Reply
clock_reply now running = record { status = 200; headers = json_headers; body = clock_text now running }

-- The reply to a request to advance a clock past the greatest moment (this project's own).
abbrev pub past_reply : Reply
past_reply =
    fault_reply 400 (codes "ms would set the clock past 9007199254740991") (codes "InvalidMilliseconds")

-- The version of the service as a JSON value.
abbrev pub version_data : Data
version_data = object (member (codes "version") (string VERSION.now) no_members)

-- The version of the service as JSON.
unfoldable pub version_text : List ℕ
version_text = codes "{\"version\":\"" ++ VERSION.now ++ codes "\"}"

-- The reply that shows the version of the service.
abbrev pub version_reply : Reply
version_reply = record { status = 200; headers = json_headers; body = version_text }

-- The reply that shows the environments of an account.
abbrev pub environments_reply : List ℕ → Reply
environments_reply text = record { status = 200; headers = json_headers; body = text }

-- The headers of a history, which is text.
abbrev pub history_headers : List (List ℕ × FieldValue)
history_headers = text_headers

-- The headers of a trace, whose lines are JSON.
abbrev pub trace_headers : List (List ℕ × FieldValue)
trace_headers = header (codes "content-type") (codes "application/x-ndjson") ∷ []

-- The reply that shows a function's reservation (Lambda API, GetFunctionConcurrency).
abbrev pub reservation_reply : Option ℕ → Reply
reservation_reply count = record { status = 200; headers = json_headers; body = reservation_text count }

-- The reply to a connection that asks to follow a trace if as many follow one as may at once (this project's own).
abbrev pub followers_reply : Reply
followers_reply =
    fault_reply 503 (codes "64 connections follow the trace, as many as may at once") (codes "TooManyFollowers")

-- The headers of replies. Names are compared without case (RFC 9110, section 5.1), and written in lower case.
use Rattle.std.specs.Prelude.{ℕ, Bool, true, false, List, [], ◌∷◌, ◌++◌, codes, decimal, Option, Some, None}
use Rattle.http_header.specs.FieldValue.{FieldValue, plain_value}

-- A header with a name and a text.
abbrev pub header : List ℕ → List ℕ → List ℕ × FieldValue
header name text = (name, plain_value text)

-- The headers of every reply with a body.
abbrev pub json_headers : List (List ℕ × FieldValue)
json_headers = header (codes "content-type") (codes "application/json") ∷ []

-- The trace of an invocation whose caller gave none.
abbrev pub no_trace : List ℕ
no_trace = codes "Root=1-00000000-000000000000000000000000;Sampled=0"

-- The headers of a reply that delivers an invocation to a runtime (Runtime API, Next invocation).
unfoldable pub next_headers : List ℕ → ℕ → List ℕ → List ℕ → List (List ℕ × FieldValue)
next_headers request deadline arn trace = json_headers
    ++ header (codes "lambda-runtime-aws-request-id") request
    ∷ header (codes "lambda-runtime-deadline-ms") (decimal deadline)
    ∷ header (codes "lambda-runtime-invoked-function-arn") arn
    ∷ header (codes "lambda-runtime-trace-id") trace
    ∷ []

-- The headers of a reply that notifies an extension of an event (Extensions API, Next).
unfoldable pub event_headers : List ℕ → List (List ℕ × FieldValue)
event_headers event = json_headers ++ header (codes "lambda-extension-event-identifier") event ∷ []

-- The headers of a reply to a registration (Extensions API, Register).
unfoldable pub registered_headers : List ℕ → List (List ℕ × FieldValue)
registered_headers extension = json_headers ++ header (codes "lambda-extension-identifier") extension ∷ []

-- The header that marks an invocation that ran and failed.
abbrev pub failure_mark : Bool → List (List ℕ × FieldValue)
failure_mark false = []
failure_mark true = header (codes "x-amz-function-error") (codes "Unhandled") ∷ []

-- The headers of a reply to an Invoke whose invocation ran (Lambda API, Invoke: Response Elements).
unfoldable pub invoke_headers : List ℕ → Bool → List (List ℕ × FieldValue)
invoke_headers request failed = json_headers
    ++ header (codes "x-amz-executed-version") (codes "$LATEST")
    ∷ header (codes "x-amzn-requestid") request
    ∷ failure_mark failed

-- The header with the request identifier, if there is one.
abbrev pub request_mark : Option (List ℕ) → List (List ℕ × FieldValue)
request_mark None = []
request_mark (Some request) = header (codes "x-amzn-requestid") request ∷ []

-- The headers of a refusal by the Lambda API (Invoke: Errors).
unfoldable pub error_headers : Option (List ℕ) → List ℕ → List (List ℕ × FieldValue)
error_headers request kind = json_headers ++ header (codes "x-amzn-errortype") kind ∷ request_mark request

-- The headers of a text.
abbrev pub text_headers : List (List ℕ × FieldValue)
text_headers = header (codes "content-type") (codes "text/plain") ∷ []

-- The headers of a refusal that lists the methods of a route (RFC 9110, section 15.5.6).
abbrev pub method_headers : FieldValue → List (List ℕ × FieldValue)
method_headers methods = json_headers ++ (codes "allow", methods) ∷ []

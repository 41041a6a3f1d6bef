-- The sets of headers: which of their values are the same in each reply, and which differ.
use Rattle.std.specs.Prelude.{ℕ, List, [], ◌∷◌, ◌++◌, codes, bytes_eq, fold, if◌then◌else◌}
use Rattle.std.specs.List.{zip}
use Rattle.http_header.specs.FieldValue.{FieldValue}
use Rattle.lambda_wire.specs.Headers.{header, json_headers, no_trace}
use Rattle.lambda_wire.specs.declared.header_set.HeaderSet.{HeaderSet}
use Rattle.lambda_wire.specs.declared.header_set.HeaderSet.TheVariants as set

-- A header whose value is not known yet.
abbrev pub blank : List ℕ → List ℕ × FieldValue
blank name = header name []

-- The headers of a set, in the order in which they are written.
abbrev pub template : HeaderSet → List (List ℕ × FieldValue)
template set.Empty = []
template set.Json = json_headers
template set.Text = header (codes "content-type") (codes "text/plain") ∷ []
template set.Delivery = json_headers
    ++ blank (codes "lambda-runtime-aws-request-id")
    ∷ blank (codes "lambda-runtime-deadline-ms")
    ∷ blank (codes "lambda-runtime-invoked-function-arn")
    ∷ header (codes "lambda-runtime-trace-id") no_trace
    ∷ []
template set.Event = json_headers ++ blank (codes "lambda-extension-event-identifier") ∷ []
template set.Registration = json_headers ++ blank (codes "lambda-extension-identifier") ∷ []
template set.Outcome = json_headers
    ++ header (codes "x-amz-executed-version") (codes "$LATEST") ∷ blank (codes "x-amzn-requestid") ∷ []
template set.Failure = json_headers
    ++ header (codes "x-amz-executed-version") (codes "$LATEST")
    ∷ blank (codes "x-amzn-requestid")
    ∷ header (codes "x-amz-function-error") (codes "Unhandled")
    ∷ []
template set.Refusal = json_headers ++ blank (codes "x-amzn-errortype") ∷ []
template set.RequestRefusal = json_headers ++ blank (codes "x-amzn-errortype") ∷ blank (codes "x-amzn-requestid") ∷ []
template set.Methods = json_headers ++ blank (codes "allow") ∷ []

-- The names whose values differ from reply to reply, in the order in which the values are given. If fewer values are
-- given, the other headers stay as the template has them.
abbrev pub varying : HeaderSet → List (List ℕ)
varying set.Empty = []
varying set.Json = []
varying set.Text = []
varying set.Delivery = codes "lambda-runtime-aws-request-id"
    ∷ codes "lambda-runtime-deadline-ms"
    ∷ codes "lambda-runtime-invoked-function-arn"
    ∷ codes "lambda-runtime-trace-id"
    ∷ []
varying set.Event = codes "lambda-extension-event-identifier" ∷ []
varying set.Registration = codes "lambda-extension-identifier" ∷ []
varying set.Outcome = codes "x-amzn-requestid" ∷ []
varying set.Failure = codes "x-amzn-requestid" ∷ []
varying set.Refusal = codes "x-amzn-errortype" ∷ []
varying set.RequestRefusal = codes "x-amzn-errortype" ∷ codes "x-amzn-requestid" ∷ []
varying set.Methods = codes "allow" ∷ []

-- The headers with another value of this name.
abbrev pub with_value : List (List ℕ × FieldValue) → List ℕ → FieldValue → List (List ℕ × FieldValue)
with_value [] name value = []
with_value (h ∷ headers) name value =
    if bytes_eq h.0 name then (h.0, value) ∷ headers else h ∷ with_value headers name value

-- The headers with other values of these names.
abbrev pub with_values : List (List ℕ × FieldValue) → List (List ℕ) → List FieldValue → List (List ℕ × FieldValue)
with_values headers names values = fold (λ hs p. with_value hs p.0 p.1) headers (zip names values)

-- The headers of a set with these values.
abbrev pub listed : HeaderSet → List FieldValue → List (List ℕ × FieldValue)
listed set values = with_values (template set) (varying set) values

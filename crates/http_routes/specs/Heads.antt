-- The headers of a request that count. If a header appears more than once, the first one counts.
use Rattle.std.specs.Prelude.{ℕ, Bool, true, false, ◌==◌, if◌then◌else◌, List, [], ◌∷◌, codes, bytes_eq, Option, Some}
use Rattle.std.specs.Prelude.{None, option_map, option_and_then, is_some, reverse}
use Rattle.std.specs.List.{list_all, list_any, slice_split}
use Rattle.http.specs.HeaderMap.{get}
use Rattle.http.specs.Token.{is_visible_or_blank}
use Rattle.http.specs.declared.request.Parts.{Parts}
use Rattle.arn_ids.specs.Words.{is_label}
use Rattle.call_types.specs.Within.{is_trace}

-- The bytes of the first header of a name, which is given in lower case.
abbrev pub header : List ℕ → Parts → Option (List ℕ)
header name p = option_map (λ v. v.bytes) (get p.headers name)

-- Whether there is a header of this name.
abbrev pub has_header : List ℕ → Parts → Bool
has_header name p = is_some (header name p)

-- The text, if it passes a test.
abbrev pub that : (List ℕ → Bool) → List ℕ → Option (List ℕ)
that passes bytes = if passes bytes then Some bytes else None

-- The text of a header, if all of it is visible or blank.
abbrev pub header_text : List ℕ → Parts → Option (List ℕ)
header_text name p = option_and_then (that (list_all is_visible_or_blank)) (header name p)

-- The name of an extension: 1 to 128 printing characters (Extensions API, Register).
abbrev pub extension_name : Parts → Option (List ℕ)
extension_name p = option_and_then (that is_label) (header (codes "lambda-extension-name") p)

-- The trace of an invocation: 1 to 256 printing characters. Any other counts as absent.
abbrev pub trace_of : Parts → Option (List ℕ)
trace_of p = option_and_then (that is_trace) (header (codes "x-amzn-trace-id") p)

-- The text without the spaces at its front.
abbrev pub past_spaces : List ℕ → List ℕ
past_spaces [] = []
past_spaces (b ∷ bs) = if b == 32 then past_spaces bs else b ∷ bs

-- The text without the spaces at its two ends.
abbrev pub trimmed : List ℕ → List ℕ
trimmed bytes = reverse (past_spaces (reverse (past_spaces bytes)))

-- The parts between the commas.
abbrev pub parts : List ℕ → List (List ℕ)
parts bytes = slice_split (λ b. b == 44) bytes

-- Whether one of the parts between the commas is this feature, without the spaces around it.
abbrev pub lists : List ℕ → List ℕ → Bool
lists feature bytes = list_any (λ part. bytes_eq (trimmed part) feature) (parts bytes)

-- Whether a header passes a test; the first argument is the result for a header that is absent.
abbrev pub passes_or : Bool → (List ℕ → Bool) → Option (List ℕ) → Bool
passes_or absent passes None = absent
passes_or absent passes (Some bytes) = passes bytes

-- Whether an extension asks for the account's identifier (Extensions API, Register: Lambda-Extension-Accept-Feature).
abbrev pub asks_for_account : Parts → Bool
asks_for_account p = passes_or false (lists (codes "accountId")) (header (codes "lambda-extension-accept-feature") p)

-- Whether the caller waits for the invocation, which is the default (Lambda API, Invoke: InvocationType).
abbrev pub is_synchronous : Parts → Bool
is_synchronous p =
    passes_or true (λ kind. bytes_eq kind (codes "RequestResponse")) (header (codes "x-amz-invocation-type") p)

-- Whether the caller asks for the tail of the log (Lambda API, Invoke: LogType).
abbrev pub asks_for_tail : Parts → Bool
asks_for_tail p = passes_or false (λ kind. bytes_eq kind (codes "Tail")) (header (codes "x-amz-log-type") p)

-- Parts of a path and of a query.
use Rattle.std.specs.Prelude.{ℕ, List, [], ◌∷◌, codes, bytes_eq, ◌==◌, Option, Some, None, option_and_then}
use Rattle.std.specs.Prelude.{if◌then◌else◌, slice_get}
use Rattle.std.specs.List.{slice_split}
use Rattle.std.specs.Str.{is_utf8}
use Rattle.std.specs.Str.Lossy.{utf8_lossy}
use Rattle.percent_encoding.specs.Percent.{percent_decode}
use Rattle.form_urlencoded.specs.Form.{decode, raw_pairs}
use Rattle.http.specs.Uri.{uri_path, uri_query}
use Rattle.http.specs.declared.request.Parts.{Parts}

-- The part of a path after n slashes, not decoded.
abbrev pub path_part : ℕ → List ℕ → Option (List ℕ)
path_part n path = slice_get (slice_split (λ b. b == 47) path) n

-- The decoded text of a part of a path, if it is UTF-8 (RFC 3986, section 2.1).
abbrev pub path_text : List ℕ → Option (List ℕ)
path_text part = if is_utf8 (percent_decode part) then Some (percent_decode part) else None

-- A name or a value of a query as text (URL Standard, section 5.1).
abbrev pub text_of : List ℕ → List ℕ
text_of raw = utf8_lossy (decode raw)

-- The value of the first pair of this name.
abbrev pub first_named : List ℕ → List (List ℕ × List ℕ) → Option (List ℕ)
first_named name [] = None
first_named name (p ∷ ps) = if bytes_eq (text_of p.0) name then Some (text_of p.1) else first_named name ps

-- The first `Qualifier` of a query.
abbrev pub qualifier_in : List ℕ → Option (List ℕ)
qualifier_in query = first_named (codes "Qualifier") (raw_pairs query)

-- The first `Qualifier` of a request (Lambda API, Invoke: URI Request Parameters).
abbrev pub qualifier_of : Parts → Option (List ℕ)
qualifier_of p = option_and_then qualifier_in (uri_query p.uri)

-- The first value of a name in a request's query (operations of this service alone).
abbrev pub asked_of : List ℕ → Parts → Option (List ℕ)
asked_of name p = option_and_then (λ query. first_named name (raw_pairs query)) (uri_query p.uri)

-- The values of the pairs of this name.
abbrev pub all_named : List ℕ → List (List ℕ × List ℕ) → List (List ℕ)
all_named name [] = []
all_named name (p ∷ ps) = if bytes_eq (text_of p.0) name then text_of p.1 ∷ all_named name ps else all_named name ps

-- The one value, if there is exactly one.
abbrev pub only : List (List ℕ) → Option (List ℕ)
only [] = None
only (value ∷ []) = Some value
only (value ∷ next ∷ others) = None

-- The value of a name that a request's query has exactly once (operations of this service alone).
abbrev pub only_of : List ℕ → Parts → Option (List ℕ)
only_of name p = option_and_then (λ query. only (all_named name (raw_pairs query))) (uri_query p.uri)

-- The first `from` of a request for the history or its trace, and the first `follow` and `bodies` of one for a trace.
abbrev pub from_of : Parts → Option (List ℕ)
from_of = asked_of (codes "from")

abbrev pub follow_of : Parts → Option (List ℕ)
follow_of = asked_of (codes "follow")

abbrev pub bodies_of : Parts → Option (List ℕ)
bodies_of = asked_of (codes "bodies")

-- The name of a function in a path of the Lambda API, after three slashes.
abbrev pub name_of : Parts → Option (List ℕ)
name_of p = option_and_then path_text (path_part 3 (uri_path p.uri))

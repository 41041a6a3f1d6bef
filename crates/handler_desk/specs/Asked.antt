-- What a handler asks for, by the head of its request.
use Rattle.std.specs.Prelude.{◌≡◌, ℕ, Bool, true, ◌==◌, ◌+◌, if◌then◌else◌, List, length, take, drop, position, codes, bytes_eq}
use Rattle.std.specs.Prelude.{Option, Some, None, is_some, IfSome}
use Rattle.std.specs.Borrow.{Bor}
use Rattle.http.specs.Uri.{uri_path}
use Rattle.http.specs.declared.request.Parts.{Parts}
use Rattle.arn_ids.specs.Limits.{greatest_ticket}
use Rattle.arn_ids.specs.Numbers.{number_in}
use Rattle.handler_desk.specs.declared.asked.Asked.{Asked}
use Rattle.handler_desk.specs.declared.asked.Asked.TheVariants.{Next, Response, Failure, Nothing}

-- The front of the paths of a handler's own requests.
abbrev pub front : List ℕ
front = codes "/_local/requests/"

-- Whether a path is one of a handler's own requests.
abbrev pub is_of_handler : List ℕ → Bool
is_of_handler path = bytes_eq front (take (length front) path)

-- A text is cut at the place of its slash, if it has one.
abbrev pub IsCut : Option ℕ → List ℕ → Option (Bor (List ℕ) × Bor (List ℕ)) → Type 0
IsCut at text (Some parts) = IfSome at (λ i. (parts.0.now ≡ take i text) × (parts.1.now ≡ drop (i + 1) text)) × (is_some at ≡ true)
IsCut at text None = at ≡ None

-- What is asked about the request with an identifier.
abbrev pub about : ℕ → List ℕ → Asked
about id what =
    if bytes_eq what (codes "response") then Response id
    else if bytes_eq what (codes "error") then Failure id
    else Nothing

abbrev pub about_found : Option ℕ → List ℕ → Asked
about_found None what = Nothing
about_found (Some id) what = about id what

-- What is asked about the request with the identifier in a text: a decimal number without leading zeros.
abbrev pub about_named : List ℕ → List ℕ → Asked
about_named name what = about_found (number_in greatest_ticket name) what

-- What is asked by the rest of a path that has no slash.
abbrev pub whole : List ℕ → Asked
whole rest = if bytes_eq rest (codes "next") then Next else Nothing

-- What is asked by what is behind the front of a path, by the place of its slash.
abbrev pub asked_behind : Option ℕ → List ℕ → Asked
asked_behind None rest = whole rest
asked_behind (Some at) rest = about_named (take at rest) (drop (at + 1) rest)

-- What is asked by a path.
abbrev pub asked_in : List ℕ → Asked
asked_in path =
    if bytes_eq (take (length front) path) front
    then asked_behind (position (λ b. b == 47) (drop (length front) path)) (drop (length front) path)
    else Nothing

-- What is asked by a path with this method.
abbrev pub with_method : List ℕ → Asked → Asked
with_method method Next = if bytes_eq method (codes "GET") then Next else Nothing
with_method method (Response id) = if bytes_eq method (codes "POST") then Response id else Nothing
with_method method (Failure id) = if bytes_eq method (codes "POST") then Failure id else Nothing
with_method method Nothing = Nothing

-- What a handler asks for with a request of this head.
abbrev pub asked : Parts → Asked
asked p = with_method p.method (asked_in (uri_path p.uri))

-- The transfer codings of a request (RFC 9112, section 6.1).
use Rattle.std.specs.Prelude.{Bool, true, false, List, [], ◌∷◌, codes}
use Rattle.std.specs.Str.{str_eq_ignore_ascii_case}
use Rattle.http.specs.HeaderMap.{get_all}
use Rattle.http.specs.declared.request.Parts.{Parts}
use Rattle.http_header.specs.FieldValue.{FieldValue}

-- Whether a request has no transfer coding, or `chunked` alone in one field.
abbrev pub is_chunked_at_most : List FieldValue → Bool
is_chunked_at_most [] = true
is_chunked_at_most (value ∷ []) = str_eq_ignore_ascii_case value.bytes (codes "chunked")
is_chunked_at_most (value ∷ other ∷ values) = false

-- Whether the bytes that arrive of a request's body are its content. The connection decodes `chunked`, and no other
-- coding.
abbrev pub is_plainly_coded : Parts → Bool
is_plainly_coded parts = is_chunked_at_most (get_all parts.headers (codes "transfer-encoding"))

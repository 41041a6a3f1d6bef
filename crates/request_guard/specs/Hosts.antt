-- The host that a request names, and the hosts that are listed in addition to the local ones.
use Rattle.std.specs.Prelude.{ℕ, Bool, true, false, not, ◌&&◌, ◌||◌, ◌==◌, nat_lt, if◌then◌else◌, List, [], ◌∷◌, length}
use Rattle.std.specs.Prelude.{codes, Option, Some, None, option_map}
use Rattle.std.specs.Char.{is_ascii_alphanumeric}
use Rattle.std.specs.List.{list_all, list_any, slice_split}
use Rattle.http.specs.HeaderMap.{get, get_all}
use Rattle.http.specs.Uri.{uri_authority}
use Rattle.http.specs.declared.request.Parts.{Parts}
use Rattle.http_header.specs.FieldValue.{FieldValue}
use Rattle.request_guard.specs.Names.{is_named, is_literal, name_of, relative, is_local}

-- Whether a byte may be in a listed name.
abbrev pub is_listed_byte : ℕ → Bool
is_listed_byte b = is_ascii_alphanumeric b || list_any (λ other. other == b) (codes "-._")

-- Whether a text is a name that can be listed.
abbrev pub is_listed : List ℕ → Bool
is_listed name = nat_lt 0 (length name) && list_all is_listed_byte name

-- Whether a text is a list of names: names separated by commas, or nothing.
abbrev pub is_list : List ℕ → Bool
is_list text = length text == 0 || list_all is_listed (slice_split (λ b. b == 44) text)

-- The text, if it is a list of names.
abbrev pub listed_in : List ℕ → Option (List ℕ)
listed_in text = if is_list text then Some text else None

-- The first text, or the other one if there is no first.
abbrev pub or_else : Option (List ℕ) → Option (List ℕ) → Option (List ℕ)
or_else (Some text) other = Some text
or_else None other = other

-- The text that names the host: the authority of the target, or otherwise the field `Host` (RFC 9112, section 3.2.2).
abbrev pub host_text : Parts → Option (List ℕ)
host_text p = or_else (uri_authority p.uri) (option_map (λ v. v.bytes) (get p.headers (codes "host")))

-- Whether there is more than one field.
abbrev pub are_several : List FieldValue → Bool
are_several [] = false
are_several (value ∷ []) = false
are_several (value ∷ other ∷ values) = true

-- Whether a text is a host, if there is one: a name or an address, with an optional port (RFC 9110, section 7.2).
abbrev pub is_host : Option (List ℕ) → Bool
is_host None = true
is_host (Some text) = is_literal text || is_named text

-- Whether a request names its host in two fields, or by a text that is not a host (RFC 9112, section 3.2).
abbrev pub has_malformed_host : Parts → Bool
has_malformed_host p = are_several (get_all p.headers (codes "host")) || not (is_host (host_text p))

-- Whether this service answers for a host: an address, a local name or a listed one. A request of HTTP/1.0 may name no
-- host.
abbrev pub is_served : List ℕ → Option (List ℕ) → Bool
is_served listed None = true
is_served listed (Some text) = is_literal text || is_local listed (relative (name_of text))

-- Whether the host of a request is one that this service answers for.
abbrev pub has_served_host : List ℕ → Parts → Bool
has_served_host listed p = is_served listed (host_text p)

-- Whether this service answers for a host of this name. Without a name, the host is an address in brackets, or there is
-- none.
abbrev pub serves : List ℕ → Option (List ℕ) → Bool
serves listed None = true
serves listed (Some name) = is_local listed (relative name)

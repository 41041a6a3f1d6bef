-- The text of a host in a request, and the names that are local.
use Rattle.std.specs.Prelude.{ℕ, ◌-◌, Bool, true, false, not, ◌&&◌, ◌||◌, ◌==◌, nat_lt, if◌then◌else◌, List, [], ◌∷◌}
use Rattle.std.specs.Prelude.{length, take, drop, reverse, codes, unwrap_or, position}
use Rattle.std.specs.Char.{is_ascii_digit, is_ascii_hexdigit, is_ascii_alphanumeric}
use Rattle.std.specs.List.{list_all, list_any, slice_split}
use Rattle.std.specs.Str.{str_eq_ignore_ascii_case}

-- Whether a byte may be in a registered name or an IPv4 address (RFC 3986, section 3.2.2: unreserved, pct-encoded,
-- sub-delims).
abbrev pub is_name_byte : ℕ → Bool
is_name_byte b = is_ascii_alphanumeric b || list_any (λ other. other == b) (codes "-._~%!$&'()*+,;=")

-- Whether a byte may be in an IPv6 address.
abbrev pub is_address_byte : ℕ → Bool
is_address_byte b = is_ascii_hexdigit b || b == 58 || b == 46

-- The number of bytes that pass a test before the first one that does not.
abbrev pub passed : (ℕ → Bool) → List ℕ → ℕ
passed passes text = unwrap_or (position (λ b. not (passes b)) text) (length text)

-- Whether a text is empty, or a colon and the digits of a port (RFC 3986, section 3.2.3).
abbrev pub is_port_part : List ℕ → Bool
is_port_part [] = true
is_port_part (b ∷ digits) = b == 58 && list_all is_ascii_digit digits

-- The name in front of a port.
abbrev pub name_of : List ℕ → List ℕ
name_of text = take (passed is_name_byte text) text

-- Whether a text is a name with an optional port.
abbrev pub is_named : List ℕ → Bool
is_named text = is_port_part (drop (passed is_name_byte text) text)

-- Whether a text is the bracket that ends an address, with an optional port after it.
abbrev pub closes : List ℕ → Bool
closes [] = false
closes (b ∷ port) = b == 93 && is_port_part port

-- Whether a text is what follows the bracket that begins an address: the address, the bracket that ends it, and an
-- optional port.
abbrev pub is_address : List ℕ → Bool
is_address rest = nat_lt 0 (passed is_address_byte rest) && closes (drop (passed is_address_byte rest) rest)

-- Whether a text is an address in brackets, with an optional port.
abbrev pub is_literal : List ℕ → Bool
is_literal [] = false
is_literal (b ∷ rest) = b == 91 && is_address rest

-- The text after a dot at its front, if there is one.
abbrev pub past_dot : List ℕ → List ℕ
past_dot [] = []
past_dot (b ∷ bs) = if b == 46 then bs else b ∷ bs

-- A name without the root's dot at its end (RFC 1034, section 3.1).
abbrev pub relative : List ℕ → List ℕ
relative name = reverse (past_dot (reverse name))

-- Whether a name ends with a suffix, in any case.
abbrev pub ends_as : List ℕ → List ℕ → Bool
ends_as suffix name =
    if nat_lt (length name) (length suffix) then false
    else str_eq_ignore_ascii_case (drop (length name - length suffix) name) suffix

-- Whether a list of names between commas has this name, in any case.
abbrev pub lists : List ℕ → List ℕ → Bool
lists listed name = list_any (λ part. str_eq_ignore_ascii_case part name) (slice_split (λ b. b == 44) listed)

-- Whether a name has one label, as `localhost` and the names of containers do.
abbrev pub is_one_label : List ℕ → Bool
is_one_label name = not (list_any (λ b. b == 46) name)

-- Whether a name is an IPv4 address: no registered name consists of digits and dots alone.
abbrev pub is_numeric : List ℕ → Bool
is_numeric name = list_all (λ b. is_ascii_digit b || b == 46) name

-- Whether a name is below a domain that no one has on the public network (RFC 6761, RFC 6762; ICANN's `.internal`).
abbrev pub is_below_local : List ℕ → Bool
is_below_local name =
    ends_as (codes ".localhost") name || ends_as (codes ".internal") name
    || ends_as (codes ".local") name || ends_as (codes ".localdomain") name

-- Whether a name is that of this machine or of a container, or a listed one.
abbrev pub is_local : List ℕ → List ℕ → Bool
is_local listed name =
    nat_lt 0 (length name)
    && (is_one_label name || is_numeric name || is_below_local name || lists listed name)

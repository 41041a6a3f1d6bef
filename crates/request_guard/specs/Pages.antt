-- What a browser says about a request that a web page sends.
use Rattle.std.specs.Prelude.{ℕ, Bool, true, false, not, ◌||◌, List, [], ◌∷◌, codes, bytes_eq}
use Rattle.std.specs.List.{list_all}
use Rattle.http.specs.HeaderMap.{get_all}
use Rattle.http.specs.declared.request.Parts.{Parts}
use Rattle.http_header.specs.FieldValue.{FieldValue}
use Rattle.service_port.specs.declared.port.Port.{Port}
use Rattle.service_port.specs.declared.port.Port.TheVariants.{Account, Environment, Handled}

-- Whether what a page sends is refused at a port. What it sends to a port of handlers is for these to judge: an API
-- answers a browser's questions about other sites itself (WHATWG Fetch, CORS protocol).
abbrev pub refuses_pages : Port → Bool
refuses_pages Account = true
refuses_pages (Environment e) = true
refuses_pages (Handled number) = false

-- Whether there is a field.
abbrev pub are_some : List FieldValue → Bool
are_some [] = false
are_some (value ∷ values) = true

-- Whether a site says that the user's own action sent the request, such as a typed address, or a page of this service.
abbrev pub is_own_site : List ℕ → Bool
is_own_site site = bytes_eq site (codes "none") || bytes_eq site (codes "same-origin")

-- Whether a page sent the request: it has an `Origin`, of whatever value (RFC 6454, section 7), or a `Sec-Fetch-Site`
-- that names another site (W3C, Fetch Metadata Request Headers).
abbrev pub is_from_page : Parts → Bool
is_from_page p =
    are_some (get_all p.headers (codes "origin"))
    || not (list_all (λ v. is_own_site v.bytes) (get_all p.headers (codes "sec-fetch-site")))

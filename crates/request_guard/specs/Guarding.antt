-- Requests that never become a call, by their heads.
use Rattle.std.specs.Prelude.{ℕ, Bool, ◌||◌, ◌&&◌, if◌then◌else◌, List, codes, bytes_eq, Option, Some, None}
use Rattle.http.specs.declared.request.Parts.{Parts}
use Rattle.request_guard.specs.Hosts.{has_malformed_host, has_served_host}
use Rattle.request_guard.specs.Pages.{refuses_pages, is_from_page}
use Rattle.request_guard.specs.Codings.{is_plainly_coded}
use Rattle.request_guard.specs.declared.refusal.Refusal.{Refusal}
use Rattle.request_guard.specs.declared.refusal.Refusal.TheVariants.{MalformedHost, FromPage}
use Rattle.request_guard.specs.declared.refusal.Refusal.TheVariants.{ForeignHost, ForeignCoding}
use Rattle.service_port.specs.declared.port.Port.{Port}

-- Whether a field is one of those, beside the host, for which a request may be refused. Few requests have one.
abbrev pub is_rare : List ℕ → Bool
is_rare name =
    bytes_eq name (codes "origin") || bytes_eq name (codes "sec-fetch-site") || bytes_eq name (codes "transfer-encoding")

-- Why a request with this head is refused at a port, if it is: the first cause that holds, given the listed names of
-- hosts.
abbrev pub refusal_of : Port → List ℕ → Parts → Option Refusal
refusal_of port listed p =
    if has_malformed_host p then Some MalformedHost
    else if refuses_pages port && is_from_page p then Some FromPage
    else if has_served_host listed p then (if is_plainly_coded p then None else Some ForeignCoding)
    else Some ForeignHost

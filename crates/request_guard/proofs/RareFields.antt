-- What has none of the rare fields comes from no page and is plainly coded.
use Rattle.std.proofs.Common.{◌≡◌, Bool, true, false, not, ◌||◌, if◌then◌else◌, List, [], ◌∷◌, codes, bytes_eq, refl}
use Rattle.std.specs.List.{list_all, list_any}
use Rattle.http_header.specs.FieldValue.{FieldValue}
use Rattle.http_header.specs.HeaderMap.{Entries, get_all, keys}
use Rattle.request_guard.specs.Codings.{is_chunked_at_most}
use Rattle.request_guard.specs.Guarding.{is_rare}
use Rattle.request_guard.specs.Pages.{are_some, is_own_site}

-- by the values of the one field and of the other
abbrev tells : List FieldValue → List FieldValue → Bool
tells origins sites = are_some origins || not (list_all (λ v. is_own_site v.bytes) sites)

page_step : (is_origin is_site is_coding later : Bool) (origins sites of_origin of_site : List FieldValue)
    → ((is_origin || is_site || is_coding) || later) ≡ false
    → (later ≡ false → tells origins sites ≡ false)
    → tells (if is_origin then of_origin else origins) (if is_site then of_site else sites) ≡ false
page_step false false false later origins sites of_origin of_site none rest = rest none
page_step false false true later origins sites of_origin of_site none rest = cc
page_step false true is_coding later origins sites of_origin of_site none rest = cc
page_step true is_site is_coding later origins sites of_origin of_site none rest = cc

pub none_is_of_page : (m : Entries FieldValue) → list_any is_rare (keys m) ≡ false
    → tells (get_all m (codes "origin")) (get_all m (codes "sec-fetch-site")) ≡ false
none_is_of_page [] none = refl
none_is_of_page (e ∷ m) none = page_step (bytes_eq e.0 (codes "origin")) (bytes_eq e.0 (codes "sec-fetch-site"))
    (bytes_eq e.0 (codes "transfer-encoding")) (list_any is_rare (keys m)) (get_all m (codes "origin"))
    (get_all m (codes "sec-fetch-site")) e.1 e.1 none (none_is_of_page m)

coding_step : (is_origin is_site is_coding later : Bool) (codings of_coding : List FieldValue)
    → ((is_origin || is_site || is_coding) || later) ≡ false
    → (later ≡ false → is_chunked_at_most codings ≡ true)
    → is_chunked_at_most (if is_coding then of_coding else codings) ≡ true
coding_step false false false later codings of_coding none rest = rest none
coding_step false false true later codings of_coding none rest = cc
coding_step false true is_coding later codings of_coding none rest = cc
coding_step true is_site is_coding later codings of_coding none rest = cc

pub none_is_coded : (m : Entries FieldValue) → list_any is_rare (keys m) ≡ false
    → is_chunked_at_most (get_all m (codes "transfer-encoding")) ≡ true
none_is_coded [] none = refl
none_is_coded (e ∷ m) none = coding_step (bytes_eq e.0 (codes "origin")) (bytes_eq e.0 (codes "sec-fetch-site"))
    (bytes_eq e.0 (codes "transfer-encoding")) (list_any is_rare (keys m)) (get_all m (codes "transfer-encoding")) e.1
    none (none_is_coded m)

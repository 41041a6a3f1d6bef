-- The name of a host, as the code holds it.
use Rattle.std.specs.Prelude.{◌≡◌, ℕ, true, false, List, Option, option_map, Result, Ok, Err}
use Rattle.std.specs.Borrow.{Bor}
use Rattle.http.specs.declared.request.Parts.{Parts}
use Rattle.request_guard.specs.Hosts.{has_malformed_host, has_served_host, is_host, is_served, serves}
use Rattle.request_guard.specs.Views.{text_of}
use Rattle.request_guard.specs.declared.refusal.Refusal.{Refusal}
use Rattle.request_guard.specs.declared.refusal.Refusal.TheVariants.{MalformedHost}

-- The result for the text of a host: a name that is served exactly if the host is, or the refusal of a text that is not
-- a host.
abbrev pub IsNamedBy : Option (List ℕ) → Result (Option (Bor (List ℕ))) Refusal → Type 0
IsNamedBy text (Ok name) =
    (is_host text ≡ true) × ((listed : List ℕ) → is_served listed text ≡ serves listed (option_map text_of name))
IsNamedBy text (Err refusal) = (is_host text ≡ false) × (refusal ≡ MalformedHost)

-- The result for the host of a request.
abbrev pub IsNameOf : Parts → Result (Option (Bor (List ℕ))) Refusal → Type 0
IsNameOf p (Ok name) =
    (has_malformed_host p ≡ false)
    × ((listed : List ℕ) → has_served_host listed p ≡ serves listed (option_map text_of name))
IsNameOf p (Err refusal) = (has_malformed_host p ≡ true) × (refusal ≡ MalformedHost)

-- Headers that are absent, visible text, and those that aren't.
use Rattle.std.proofs.Common.{◌≡◌, ◌||◌, ℕ, List, [], ◌∷◌, Bool, true, false, cond, if◌then◌else◌, bytes_eq, Some, None, refl}
use Rattle.std.specs.List.{list_all, list_any}
use Rattle.std.proofs.lemmas.List.Sums.{list_all-from_AllPass, AllPass-from_list_all}
use Rattle.http.specs.FieldValue.{IsVisibleAscii}
use Rattle.http.specs.HeaderMap.{Entries, get_all, keys}
use Rattle.http.specs.Token.{is_visible_or_blank}
use Rattle.http.specs.declared.request.Parts.{Parts}
use Rattle.http_header.specs.FieldValue.{FieldValue}
use Rattle.http_routes.specs.Heads.{header, that}

pub visible_there : (bytes : List ℕ) → IsVisibleAscii bytes → that (list_all is_visible_or_blank) bytes ≡ Some bytes
visible_there bytes h = rw (list_all-from_AllPass is_visible_or_blank bytes h) refl

hidden_by : (bytes : List ℕ) (b : Bool) → list_all is_visible_or_blank bytes ≡ b → (IsVisibleAscii bytes → ⊥) → cond b (Some bytes) None ≡ None
hidden_by bytes true e h = absurd (h (AllPass-from_list_all is_visible_or_blank bytes e))
hidden_by bytes false e h = refl

pub hidden : (bytes : List ℕ) → (IsVisibleAscii bytes → ⊥) → that (list_all is_visible_or_blank) bytes ≡ None
hidden bytes h = hidden_by bytes (list_all is_visible_or_blank bytes) refl h

-- A name that no header has has no values.
step : (is_named later : Bool) (values others : List FieldValue) → (is_named || later) ≡ false
    → (later ≡ false → others ≡ []) → (if is_named then values else others) ≡ []
step false later values others none rest = rest none
step true later values others none rest = cc

no_values : (m : Entries FieldValue) (name : List ℕ) → list_any (λ key. bytes_eq key name) (keys m) ≡ false
    → get_all m name ≡ []
no_values [] name none = refl
no_values (e ∷ m) name none = step (bytes_eq e.0 name) (list_any (λ key. bytes_eq key name) (keys m)) e.1
    (get_all m name) none (no_values m name)

pub no_header : (p : Parts) (name : List ℕ) → list_any (λ key. bytes_eq key name) (keys p.headers) ≡ false
    → header name p ≡ None
no_header p name none = rw (no_values p.headers name none) refl

-- What the bytes hold, from what the parser says.
use Rattle.std.proofs.Common.{◌≡◌, ℕ, Bool, true, false, List, Some, None, Ok, Err, IsUtf8, refl}
use Rattle.std.specs.Str.{is_utf8}
use Rattle.std.proofs.lemmas.Str.{IsUtf8-from_is_utf8, is_utf8-from_IsUtf8}
use Rattle.serde_json.specs.Data.{Data}
use Rattle.serde_json.specs.Read.{read}
use Rattle.lambda_wire.specs.declared.fault.WireFault.TheVariants.{NotJson}
use Rattle.lambda_wire.specs.Reading.{json_in, json_or}
use Rattle.std.specs.Prelude.{if◌then◌else◌}

pub json_ok : (bytes : List ℕ) (d : Data) → IsUtf8 bytes → read bytes ≡ Some d → json_in bytes ≡ Ok d
unfolding json_in
json_ok bytes d text found = rw (is_utf8-from_IsUtf8 bytes text, found) refl

none_there : (bytes : List ℕ) (b : Bool) → is_utf8 bytes ≡ b → (IsUtf8 bytes → read bytes ≡ None)
    → (if b then json_or (read bytes) else Err NotJson) ≡ Err NotJson
none_there bytes true e none = rw (none (IsUtf8-from_is_utf8 bytes e)) refl
none_there bytes false e none = refl

pub not_json : (bytes : List ℕ) → (IsUtf8 bytes → read bytes ≡ None) → json_in bytes ≡ Err NotJson
unfolding json_in
not_json bytes none = none_there bytes (is_utf8 bytes) refl none

-- The names of a map's members are those of the object that it stands for.
use Rattle.std.proofs.Common.{◌≡◌, ℕ, Bool, List, [], ◌∷◌, String, Global, Some, string_bytes, refl, ap, ◌&&◌}
use Rattle.std.specs.List.{list_all}
use Rattle.std.specs.Map.{keys_of}
use Rattle.serde_json.specs.Data.{Data, null, boolean, number, string, array, object, Members}
use Rattle.serde_json.specs.Find.{as_object}
use Rattle.serde_json.specs.View.{members_view}
use Rattle.serde_json.specs.declared.value.Value.{Value}
use Rattle.lambda_wire.specs.Reading.{has_only, has_only_members}

pub has_only_keys : (p : List ℕ → Bool) (es : List (String Global × Value))
    → has_only_members p (members_view es) ≡ list_all (λ (k : String Global). p (string_bytes k)) (keys_of es)
has_only_keys p [] = refl
has_only_keys p (e ∷ es) = ap (λ (b : Bool). p (string_bytes e.0) && b) (has_only_keys p es)

pub has_only_object : (p : List ℕ → Bool) (d : Data) (ms : Members) → Some ms ≡ as_object d → has_only p d ≡ has_only_members p ms
has_only_object p null ms e = cc
has_only_object p (boolean b) ms e = cc
has_only_object p (number n) ms e = cc
has_only_object p (string s) ms e = cc
has_only_object p (array ds) ms e = cc
has_only_object p (object found) ms e = cc

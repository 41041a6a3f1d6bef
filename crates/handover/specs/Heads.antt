-- The head of a request, as a handler gets it.
use Rattle.std.specs.Prelude.{◌≡◌, ℕ, List, [], ◌∷◌, ◌++◌, codes, decimal, drop, Result, OnOk, encode_utf8_all}
use Rattle.std.specs.List.{flat_map}
use Rattle.http_header.specs.FieldValue.{FieldValue}
use Rattle.json.specs.Token.{Token, begin_object, end_object, begin_array, end_array, key, string, number}
use Rattle.json.specs.Written.{Written}

-- These tokens were written after those before, unless memory ran out.
pub record Adds {E : Type 0} (result : Result (Unit {0}) E) (added : List Token) (old new : Written) : Type 0 where
  pub before : new.before ≡ old.before
  pub tokens : OnOk result (new.tokens ≡ old.tokens ++ added)

-- A field: its name, and the text whose characters are the bytes of its value (ISO 8859-1).
abbrev pub field_tokens : List ℕ × FieldValue → List Token
field_tokens field =
    begin_array ∷ string field.0 ∷ string (encode_utf8_all field.1.bytes) ∷ end_array ∷ []

-- The members of a head, and the end of the object.
abbrev pub member_tokens : ℕ → List ℕ → List ℕ → List (List ℕ × FieldValue) → List Token
member_tokens port method target fields =
    key (codes "port") ∷ number (decimal port) ∷ key (codes "method") ∷ string method
    ∷ key (codes "target") ∷ string target ∷ key (codes "headers") ∷ begin_array
    ∷ (flat_map field_tokens fields ++ end_array ∷ end_object ∷ [])

-- The head of a request without its identifier.
abbrev pub head_tokens : ℕ → List ℕ → List ℕ → List (List ℕ × FieldValue) → List Token
head_tokens port method target fields = begin_object ∷ member_tokens port method target fields

-- The line with which a handler gets a request: its head with the identifier as the first member, and a line feed.
abbrev pub line_of : ℕ → List ℕ → List ℕ
line_of id head = ((codes "{\"id\":" ++ decimal id ++ codes ",") ++ drop 1 head) ++ 10 ∷ []

-- The head of a request with its identifier.
abbrev pub named_tokens : ℕ → ℕ → List ℕ → List ℕ → List (List ℕ × FieldValue) → List Token
named_tokens id port method target fields =
    begin_object ∷ key (codes "id") ∷ number (decimal id) ∷ member_tokens port method target fields

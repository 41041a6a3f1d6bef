-- The members of a JSON object, as tokens (RFC 8259). A text is printed from its tokens without spaces.
use Rattle.std.specs.Prelude.{ℕ, Bool, true, false, if◌then◌else◌, List, [], ◌∷◌, ◌++◌, codes, decimal, length, Option, Some, None}
use Rattle.std.specs.Str.{is_utf8}
use Rattle.base64.specs.Engines.{standard}
use Rattle.base64.specs.GeneralPurpose.{encode_of}
use Rattle.json.specs.Token.{Token, begin_object, end_object, key, string, number, boolean}

-- A member that is a text.
abbrev pub text_member : List ℕ → List ℕ → List Token
text_member name text = key name ∷ string text ∷ []

-- A member that is a whole number.
abbrev pub number_member : List ℕ → ℕ → List Token
number_member name n = key name ∷ number (decimal n) ∷ []

-- A member that is a whole number, if there is one; otherwise no member.
abbrev pub number_if : List ℕ → Option ℕ → List Token
number_if name None = []
number_if name (Some n) = number_member name n

-- A member that is true or false.
abbrev pub flag_member : List ℕ → Bool → List Token
flag_member name set = key name ∷ boolean set ∷ []

-- The tokens of members, one member after the other, and of the end of their object.
abbrev pub closed : List (List Token) → List Token
closed [] = end_object ∷ []
closed (member ∷ members) = member ++ closed members

-- An object with these members.
abbrev pub object : List (List Token) → List Token
object members = begin_object ∷ closed members

-- The member with the bytes of a payload, an output or a report: `body` if they are UTF-8, otherwise `bodyBase64`
-- (RFC 4648, section 4). If bodies are not asked for, `bodyLength` has their number.
unfoldable pub body_member : Bool → List ℕ → List Token
body_member false body = number_member (codes "bodyLength") (length body)
body_member true body =
    if is_utf8 body then text_member (codes "body") body
    else text_member (codes "bodyBase64") (encode_of standard body)

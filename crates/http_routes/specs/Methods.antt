-- Methods, and the field `Allow` that lists those of a route.
use Rattle.std.specs.Prelude.{ℕ, Bool, List, [], ◌∷◌, ◌++◌, codes, bytes_eq}
use Rattle.std.specs.List.{list_any}
use Rattle.http_header.specs.FieldValue.{FieldValue, plain_value}
use Rattle.http_routes.specs.declared.methods.Methods.{Methods}
use Rattle.http_routes.specs.declared.methods.Methods.TheVariants.{Get, Post, DeleteAndPut}

-- A method, as its name (RFC 9110, section 9.1).
abbrev pub Method : Type 0
Method = List ℕ

abbrev pub get : Method
get = codes "GET"

abbrev pub post : Method
post = codes "POST"

abbrev pub put : Method
put = codes "PUT"

abbrev pub delete : Method
delete = codes "DELETE"

-- Whether a method is one of these.
abbrev pub is_among : List Method → Method → Bool
is_among methods method = list_any (bytes_eq method) methods

-- The methods' names, separated by commas (RFC 9110, section 5.6.1).
abbrev pub joined : List Method → List ℕ
joined [] = []
joined (method ∷ []) = method
joined (method ∷ next ∷ others) = method ++ (codes ", " ++ joined (next ∷ others))

-- The field `Allow` that lists these methods (RFC 9110, section 10.2.1).
abbrev pub allow_field : List Method → FieldValue
allow_field methods = plain_value (joined methods)

-- The methods that the code names, in the order in which they are listed.
abbrev pub listed : Methods → List Method
listed Get = get ∷ []
listed Post = post ∷ []
listed DeleteAndPut = delete ∷ put ∷ []

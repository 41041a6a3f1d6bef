-- The headers of a reply, as the fields of a response.
use Rattle.std.specs.Prelude.{◌≡◌, ℕ, List, [], fold}
use Rattle.std.specs.List.{zip}
use Rattle.http_header.specs.FieldValue.{FieldValue}
use Rattle.http_header.specs.HeaderMap.{Entries, append, set_first}
use Rattle.lambda_wire.specs.HeaderSets.{template, varying}
use Rattle.lambda_wire.specs.declared.header_set.HeaderSet.{HeaderSet}
use Rattle.lambda_wire.specs.declared.header_map.Template.{Template}

-- These fields, in their order.
abbrev pub fields : List (List ℕ × FieldValue) → Entries FieldValue
fields headers = fold (λ map header. append map header.0 header.1) [] headers

-- The fields with other first values of these names.
abbrev pub filled : Entries FieldValue → List (List ℕ) → List FieldValue → Entries FieldValue
filled map names values = fold (λ m p. set_first m p.0 p.1) map (zip names values)

-- A map has the fields of a set's template, and beside it are the names whose values differ.
pub record IsTemplate (set : HeaderSet) (made : Template) : Type 0 where
  pub fields_are : made.map ≡ fields (template set)
  pub names_are : made.names.items ≡ varying set

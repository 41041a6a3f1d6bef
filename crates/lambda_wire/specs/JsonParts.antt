-- What makes a text JSON: it is one value of the grammar, and all its numbers are in range.
use Rattle.std.specs.Prelude.{ℕ, List, Bool, true, Option, option_and_then, is_some}
use Rattle.std.specs.List.{list_all}
use Rattle.json.specs.Token.{Token}
use Rattle.json.specs.Lex.{tokens}
use Rattle.json.specs.Json as json
use Rattle.serde_json.specs.Read.{number_of, max_depth}

-- The one value that a text is, its numbers as they are written; `None` if it is not one value.
abbrev pub form : List ℕ → Option json.Json
form text = option_and_then (λ p. json.if_last p.0 p.1) (json.value max_depth (tokens text))

-- Whether a token is not a number, or is a number in range.
abbrev pub is_in_range : Token → Bool
is_in_range Token.begin_object = true
is_in_range Token.end_object = true
is_in_range Token.begin_array = true
is_in_range Token.end_array = true
is_in_range (Token.key s) = true
is_in_range (Token.string s) = true
is_in_range (Token.number s) = is_some (number_of s)
is_in_range (Token.boolean b) = true
is_in_range Token.null = true
is_in_range Token.bad = true

-- Whether all numbers of the tokens are in range.
abbrev pub all_in_range : List Token → Bool
all_in_range = list_all is_in_range

-- The text fields of a script: an equals sign, and bytes of which some are percent-encoded.
use Rattle.std.specs.Prelude.{ℕ, ◌/◌, ◌%◌, Bool, true, ◌||◌, ◌==◌, nat_lt, if◌then◌else◌, List, [], ◌∷◌, codes}
use Rattle.std.specs.Prelude.{bytes_eq, Option, Some, None, option_map, option_and_then}
use Rattle.std.specs.List.{flat_map}
use Rattle.std.specs.Fmt.{digit_glyph}
use Rattle.percent_encoding.specs.Percent.{percent_decode}
use Rattle.arn_ids.specs.Words.{is_label}
use Rattle.call_types.specs.Within.{is_body, is_trace}

-- Whether a byte is escaped: one below 0x21, the percent sign, or one above 0x7E.
abbrev pub is_escaped : ℕ → Bool
is_escaped b = nat_lt b 33 || b == 37 || nat_lt 126 b

-- The text of a byte: the byte itself, or a percent sign and its two hexadecimal digits in upper case (RFC 3986,
-- section 2.1).
abbrev pub text_byte : ℕ → List ℕ
text_byte b = if is_escaped b then 37 ∷ digit_glyph true (b / 16 % 16) ∷ digit_glyph true (b % 16) ∷ [] else b ∷ []

-- The bytes, with those that need it percent-encoded.
unfoldable pub escaped : List ℕ → List ℕ
escaped bytes = flat_map text_byte bytes

-- The text field with these bytes.
abbrev pub text_field : List ℕ → List ℕ
text_field bytes = 61 ∷ escaped bytes

-- The bytes of a text field, decoded; `None` without the equals sign. A percent sign that is not followed by two digits
-- is kept.
abbrev pub text_in : List ℕ → Option (List ℕ)
text_in [] = None
text_in (b ∷ bs) = if b == 61 then Some (percent_decode bs) else None

-- The bytes of a text field, if they pass a test.
abbrev pub text_that : (List ℕ → Bool) → List ℕ → Option (List ℕ)
text_that passes field = option_and_then (λ text. if passes text then Some text else None) (text_in field)

-- The body in a text field.
abbrev pub body_in : List ℕ → Option (List ℕ)
body_in = text_that is_body

-- The name of an extension in a text field.
abbrev pub name_in : List ℕ → Option (List ℕ)
name_in = text_that is_label

-- The trace in a text field; a dash means that the call has no trace.
abbrev pub trace_in : List ℕ → Option (Option (List ℕ))
trace_in field = if bytes_eq field (codes "-") then Some None else option_map Some (text_that is_trace field)

-- The head of an answer, from the fields with which it is posted.
use Rattle.std.specs.Prelude.{◌≡◌, ℕ, Bool, true, ◌+◌, ◌*◌, ◌-◌, ◌==◌, ◌&&◌, ◌||◌, ◌⊎◌, not, nat_lt, if◌then◌else◌}
use Rattle.std.specs.Prelude.{List, [], ◌∷◌, length, take, drop, position, unwrap_or, codes, bytes_eq, Option, Some, None, is_some, IfSome, Result, Ok, Err, is_ok}
use Rattle.std.specs.Char.{is_ascii_digit}
use Rattle.std.specs.List.{list_all}
use Rattle.http_header.specs.FieldName.{is_field_name}
use Rattle.http_header.specs.FieldValue.{FieldValue, plain_value}
use Rattle.http_header.specs.HeaderMap.{Entries, get_all}
use Rattle.http_header.specs.Token.{lowercase, is_value_byte}
use Rattle.std.specs.Borrow.{Bor}
use Rattle.handover.specs.declared.answer.AnswerHead.{AnswerHead}
use Rattle.handover.specs.declared.answer_fault.AnswerFault.{AnswerFault}
use Rattle.handover.specs.declared.answer_fault.AnswerFault.TheVariants.{NoStatus, SeveralStatuses, NotAStatus, StatusOutOfRange}
use Rattle.handover.specs.declared.answer_fault.AnswerFault.TheVariants.{NoColon, BadName, FramingName, BadValue, OutOfMemory}

-- The number of three digits.
abbrev pub number : ℕ → ℕ → ℕ → ℕ
number hundreds tens ones = 100 * (hundreds - 48) + 10 * (tens - 48) + (ones - 48)

-- The status of an answer: from 200 to 599.
abbrev pub in_range : ℕ → Result ℕ AnswerFault
in_range status = if nat_lt status 200 || nat_lt 599 status then Err StatusOutOfRange else Ok status

-- The status in a text of digits: there are three.
abbrev pub of_digits : List ℕ → Result ℕ AnswerFault
of_digits [] = Err StatusOutOfRange
of_digits (a ∷ []) = Err StatusOutOfRange
of_digits (a ∷ b ∷ []) = Err StatusOutOfRange
of_digits (a ∷ b ∷ c ∷ []) = in_range (number a b c)
of_digits (a ∷ b ∷ c ∷ d ∷ others) = Err StatusOutOfRange

-- The status in a text.
abbrev pub status_in : List ℕ → Result ℕ AnswerFault
status_in text =
    if length text == 0 || not (list_all is_ascii_digit text) then Err NotAStatus
    else of_digits text

-- The status among the fields that have one.
abbrev pub status_among : List FieldValue → Result ℕ AnswerFault
status_among [] = Err NoStatus
status_among (status ∷ []) = status_in status.bytes
status_among (status ∷ other ∷ others) = Err SeveralStatuses

-- Whether a field of this name, in lower case, frames a message or its connection.
abbrev pub is_framing : List ℕ → Bool
is_framing name =
    bytes_eq name (codes "connection") || bytes_eq name (codes "content-length") || bytes_eq name (codes "keep-alive")
    || bytes_eq name (codes "proxy-connection") || bytes_eq name (codes "te") || bytes_eq name (codes "trailer")
    || bytes_eq name (codes "transfer-encoding") || bytes_eq name (codes "upgrade")

-- The name of a field, in lower case (RFC 9110, section 5.1).
abbrev pub name_in : List ℕ → Result (List ℕ) AnswerFault
name_in text =
    if is_field_name text then (if is_framing (lowercase text) then Err FramingName else Ok (lowercase text))
    else Err BadName

-- The value of a field (RFC 9110, section 5.5).
abbrev pub value_in : List ℕ → Result FieldValue AnswerFault
value_in text = if list_all is_value_byte text then Ok (plain_value text) else Err BadValue

-- Whether a byte is neither a space nor a tab.
abbrev pub is_unblank : ℕ → Bool
is_unblank b = not (b == 32) && not (b == 9)

-- How many spaces and tabs a text begins with.
abbrev pub padding : List ℕ → ℕ
padding text = unwrap_or (position is_unblank text) (length text)

abbrev pub with_value : List ℕ → Result FieldValue AnswerFault → Result (List ℕ × FieldValue) AnswerFault
with_value name (Ok value) = Ok (name, value)
with_value name (Err fault) = Err fault

abbrev pub with_name : Result (List ℕ) AnswerFault → List ℕ → Result (List ℕ × FieldValue) AnswerFault
with_name (Ok name) value = with_value name (value_in value)
with_name (Err fault) value = Err fault

-- The field in a line, by the place of its colon.
abbrev pub field_at : Option ℕ → List ℕ → Result (List ℕ × FieldValue) AnswerFault
field_at None line = Err NoColon
field_at (Some at) line = with_name (name_in (take at line)) (drop (padding (drop (at + 1) line)) (drop (at + 1) line))

-- The field in a line, `NAME: VALUE`.
abbrev pub field_in : List ℕ → Result (List ℕ × FieldValue) AnswerFault
field_in line = field_at (position (λ b. b == 58) line) line

abbrev pub with_first : Result (List ℕ × FieldValue) AnswerFault → Result (List (List ℕ × FieldValue)) AnswerFault
    → Result (List (List ℕ × FieldValue)) AnswerFault
with_first (Err fault) others = Err fault
with_first (Ok field) (Ok fields) = Ok (field ∷ fields)
with_first (Ok field) (Err fault) = Err fault

-- The fields in lines, or the fault of the first line that has one.
abbrev pub fields_in : List FieldValue → Result (List (List ℕ × FieldValue)) AnswerFault
fields_in [] = Ok []
fields_in (line ∷ lines) = with_first (field_in line.bytes) (fields_in lines)

-- The fault is this one, or memory was refused.
abbrev pub IsFault : {X : Type 0} → Result X AnswerFault → AnswerFault → Type 0
IsFault is fault = (fault ≡ OutOfMemory) ⊎ (is ≡ Err fault)

-- What was read is what there is, or memory was refused.
abbrev pub IsReadAs : {X : Type 0} → Result X AnswerFault → Result X AnswerFault → Type 0
IsReadAs is (Ok read) = is ≡ Ok read
IsReadAs is (Err fault) = IsFault is fault

-- A line is cut at the place of its colon, if it has one.
abbrev pub IsCut : Option ℕ → List ℕ → Option (Bor (List ℕ) × Bor (List ℕ)) → Type 0
IsCut at line (Some parts) = IfSome at (λ i. (parts.0.now ≡ take i line) × (parts.1.now ≡ drop (i + 1) line)) × (is_some at ≡ true)
IsCut at line None = at ≡ None

-- The head that the fields of a post say, or the first fault of the status and of the fields, unless memory was refused.
abbrev pub IsHeadOf : Entries FieldValue → Result AnswerHead AnswerFault → Type 0
IsHeadOf headers (Ok head) =
    (status_among (get_all headers (codes "lambda-local-status")) ≡ Ok head.status)
    × (fields_in (get_all headers (codes "lambda-local-header")) ≡ Ok head.fields.items)
IsHeadOf headers (Err fault) =
    IsFault (status_among (get_all headers (codes "lambda-local-status"))) fault
    ⊎ (is_ok (status_among (get_all headers (codes "lambda-local-status"))) ≡ true)
    × IsFault (fields_in (get_all headers (codes "lambda-local-header"))) fault

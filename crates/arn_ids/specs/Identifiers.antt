-- The 128 bits of an identifier: a high word from the salt, and a low word that says what the identifier stands for.
use Rattle.std.specs.Prelude.{ℕ, ◌+◌, ◌*◌, ◌/◌, ◌%◌, ◌^◌, ◌&&◌, ◌==◌, nat_lt, if◌then◌else◌, List, codes}
use Rattle.std.specs.Prelude.{Option, Some, None, option_map}
use Rattle.std.specs.Int.{w128, to_be_bytes, from_be_bytes}
use Rattle.uuid.specs.Text.{hyphenated_text, lower}
use Rattle.arn_ids.specs.declared.identifiers.IdKind.{IdKind}
use Rattle.arn_ids.specs.declared.identifiers.IdKind.TheVariants.{Request, Extension, Event}
use Rattle.arn_ids.specs.declared.identifiers.IdParts.{IdParts}

-- The upper 64 bits: the salt, with version 8 in bits 12 to 15, where a UUID has its version.
abbrev pub high_word : ℕ → ℕ
high_word salt = salt / 2 ^ 16 * 2 ^ 16 + 8 * 2 ^ 12 + salt % 2 ^ 12

-- The four bits for a kind. Their upper two, 10, are the variant of RFC 9562.
abbrev pub nibble : IdKind → ℕ
nibble Request = 8
nibble Extension = 10
nibble Event = 11

-- The lower 64 bits: four bits of the kind, twelve of the number and 48 of the count.
abbrev pub low_word : IdKind → ℕ → ℕ → ℕ
low_word kind number count = nibble kind * 2 ^ 60 + number * 2 ^ 48 + count

-- The sixteen bytes of an identifier.
unfoldable pub identifier_of : ℕ → IdKind → ℕ → ℕ → List ℕ
identifier_of salt kind number count = to_be_bytes w128 (high_word salt * 2 ^ 64 + low_word kind number count)

-- The text of an identifier (RFC 9562, section 4); a dash if the number or the count does not fit into one.
unfoldable pub id_word : ℕ → IdKind → ℕ → ℕ → List ℕ
id_word salt kind number count =
    if nat_lt number 4096 && nat_lt count (2 ^ 48)
    then hyphenated_text lower (identifier_of salt kind number count)
    else codes "-"

-- The kind that four bits stand for.
abbrev pub kind_of : ℕ → Option IdKind
kind_of bits =
    if bits == 8 then Some Request else
    if bits == 10 then Some Extension else
    if bits == 11 then Some Event else None

-- The parts of an identifier from its two words; `None` unless the version is 8 and the kind is known.
abbrev pub parts_of_words : ℕ → ℕ → Option IdParts
parts_of_words high low =
    if high / 2 ^ 12 % 16 == 8
    then option_map
    (λ kind. record { salt_word = high; kind = kind; number = low / 2 ^ 48 % 2 ^ 12; count = low % 2 ^ 48 })
    (kind_of (low / 2 ^ 60))
    else None

-- The parts of an identifier from its sixteen bytes.
unfoldable pub parts_of : List ℕ → Option IdParts
parts_of id = parts_of_words (from_be_bytes w128 id / 2 ^ 64) (from_be_bytes w128 id % 2 ^ 64)

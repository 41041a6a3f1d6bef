-- Which texts are names, account numbers, regions and labels.
use Rattle.std.specs.Prelude.{ℕ, Bool, ◌&&◌, ◌||◌, ◌==◌, nat_le, List, length}
use Rattle.std.specs.List.{list_all}

-- Whether a byte is one of `0` to `9`.
abbrev pub is_digit : ℕ → Bool
is_digit b = nat_le 48 b && nat_le b 57

-- Whether a byte is one of `a` to `z`.
abbrev pub is_lower : ℕ → Bool
is_lower b = nat_le 97 b && nat_le b 122

-- Whether a byte is one of `A` to `Z`.
abbrev pub is_upper : ℕ → Bool
is_upper b = nat_le 65 b && nat_le b 90

-- Whether a byte is an ASCII letter, a digit, '-' or '_'.
abbrev pub is_name_byte : ℕ → Bool
is_name_byte b = is_digit b || is_lower b || is_upper b || b == 45 || b == 95

-- Whether a byte is a lower-case ASCII letter, a digit or '-'.
abbrev pub is_region_byte : ℕ → Bool
is_region_byte b = is_digit b || is_lower b || b == 45

-- Whether a byte is a printable ASCII character, which includes the space.
abbrev pub is_printable : ℕ → Bool
is_printable b = nat_le 32 b && nat_le b 126

-- Whether a text has 1 to `most` bytes, each of which passes a test.
abbrev pub is_word : (ℕ → Bool) → ℕ → List ℕ → Bool
is_word p most text = nat_le 1 (length text) && nat_le (length text) most && list_all p text

-- Whether a text can be the name of a function: 1 to 64 letters, digits, '-' and '_'.
abbrev pub is_name : List ℕ → Bool
is_name = is_word is_name_byte 64

-- Whether a text can be the number of an account: twelve digits.
abbrev pub is_account : List ℕ → Bool
is_account text = length text == 12 && list_all is_digit text

-- Whether a text can be a region: 1 to 32 lower-case letters, digits and '-'.
abbrev pub is_region : List ℕ → Bool
is_region = is_word is_region_byte 32

-- Whether a text can be a handler or the name of an extension: 1 to 128 printable characters.
abbrev pub is_label : List ℕ → Bool
is_label = is_word is_printable 128

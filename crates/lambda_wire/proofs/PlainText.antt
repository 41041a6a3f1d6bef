-- Compact JSON has no control byte.
use Rattle.std.proofs.Common.{◌≡◌, ℕ, zero, suc, ◌/◌, ◌%◌, ◌+◌, ◌≤◌, ◌<◌, Bool, true, false, ◌==◌, nat_le, nat_lt, pos}
use Rattle.std.proofs.Common.{negsuc, List, [], ◌∷◌, ◌++◌, decimal, refl, ◌∙◌, arith, if◌then◌else◌}
use Rattle.std.specs.List.{list_all}
use Rattle.std.specs.Fmt.{digits, digits_onto, digit_glyph}
use Rattle.std.proofs.lemmas.Bool.{le-leb, agree_below, agree_below_at}
use Rattle.std.proofs.lemmas.Bool.Decides.{nat_tests}
use Rattle.std.proofs.lemmas.List.Folds.{list_all-append}
use Rattle.json.specs.Print.{escape_byte, escape, quoted}
use Rattle.json.proofs.Printed.Strings.{escape_byte_plain}
use Rattle.serde_json.specs.Data.{Num, unsigned, negative, float, Data, null, boolean, number, string, array, object}
use Rattle.serde_json.specs.Data.{Items, no_items, item, Members, no_members, member}
use Rattle.serde_json.specs.Written.{number_text, comma_if, compact_text, items_text, members_text}
use Rattle.arn_ids.specs.declared.config.Config.{Config}
use Rattle.lambda_wire.specs.ConfigurationText.{setup_data, setup_text}

-- bytes without a control byte
abbrev is_plain : List ℕ → Bool
is_plain text = list_all (nat_le 32) text

plain_append : (a b : List ℕ) → is_plain a ≡ true → is_plain b ≡ true → is_plain (a ++ b) ≡ true
plain_append a b f g = list_all-append (nat_le 32) a b ∙ rw (f, g) refl

glyph_plain : (d : ℕ) → nat_le 32 (digit_glyph false d) ≡ true
glyph_plain d = go (nat_lt d 10)
  where
    go : (b : Bool) → nat_le 32 (if b then 48 + d else 87 + d) ≡ true
    go true = le-leb 32 (48 + d) (omega arith)
    go false = le-leb 32 (87 + d) (omega arith)

digits_plain : (k n : ℕ) (acc : List ℕ) → is_plain acc ≡ true → is_plain (digits_onto k 10 false n acc) ≡ true
digits_plain zero n acc f = f
digits_plain (suc k) n acc f = go (n / 10 == 0) (digits_plain k (n / 10) (digit_glyph false (n % 10) ∷ acc) more)
  where
    more : is_plain (digit_glyph false (n % 10) ∷ acc) ≡ true
    more = rw (glyph_plain (n % 10)) f

    go : (b : Bool) → is_plain (digits_onto k 10 false (n / 10) (digit_glyph false (n % 10) ∷ acc)) ≡ true
        → is_plain (if b then digit_glyph false (n % 10) ∷ acc else digits_onto k 10 false (n / 10) (digit_glyph false (n % 10) ∷ acc)) ≡ true
    go true rest = more
    go false rest = rest

decimal_plain : (n : ℕ) → is_plain (decimal n) ≡ true
unfolding digits
decimal_plain n = digits_plain 64 n [] refl

number_plain : (n : Num) → is_plain (number_text n) ≡ true
number_plain (unsigned n) = decimal_plain n
number_plain (negative (pos n)) = decimal_plain n
number_plain (negative (negsuc n)) = decimal_plain (suc n)
number_plain (float x) = refl

below_128 : agree_below (λ x. is_plain (escape_byte x)) (λ x. true) 128 ≡ true
unfolding escape_byte
below_128 = refl

byte_plain : (x : ℕ) → is_plain (escape_byte x) ≡ true
byte_plain x = go (nat_lt x 128) refl
  where
    go : (b : Bool) → nat_lt x 128 ≡ b → is_plain (escape_byte x) ≡ true
    go true e = let within : x < 128 = grind (arith, nat_tests) in agree_below_at (λ y. is_plain (escape_byte y)) (λ y. true) 128 x below_128 within
    go false e =
        let far : 128 ≤ x = grind (arith, nat_tests) in rw (escape_byte_plain x (λ q. omega (arith, q, far)) (λ q. omega (arith, q, far)) (omega (arith, far)), le-leb 32 x (omega (arith, far))) refl

escape_plain : (s : List ℕ) → is_plain (escape s) ≡ true
escape_plain [] = refl
escape_plain (x ∷ s) = plain_append (escape_byte x) (escape s) (byte_plain x) (escape_plain s)

quoted_plain : (s : List ℕ) → is_plain (quoted s) ≡ true
quoted_plain s = plain_append (escape s) (34 ∷ []) (escape_plain s) refl

comma_plain : (later : Bool) → is_plain (comma_if later) ≡ true
comma_plain true = refl
comma_plain false = refl

mutual
  value_plain : (d : Data) → is_plain (compact_text d) ≡ true
  value_plain null = refl
  value_plain (boolean true) = refl
  value_plain (boolean false) = refl
  value_plain (number n) = number_plain n
  value_plain (string s) = quoted_plain s
  value_plain (array ds) = items_plain false ds
  value_plain (object ms) = members_plain false ms

  items_plain : (later : Bool) (ds : Items) → is_plain (items_text later ds) ≡ true
  items_plain later no_items = refl
  items_plain later (item d ds) =
      plain_append (comma_if later) (compact_text d ++ items_text true ds) (comma_plain later)
      (plain_append (compact_text d) (items_text true ds) (value_plain d) (items_plain true ds))

  members_plain : (later : Bool) (ms : Members) → is_plain (members_text later ms) ≡ true
  members_plain later no_members = refl
  members_plain later (member k d ms) =
      plain_append (comma_if later) (quoted k ++ 58 ∷ (compact_text d ++ members_text true ms)) (comma_plain later)
      (plain_append (quoted k) (58 ∷ (compact_text d ++ members_text true ms)) (quoted_plain k) (plain_append (compact_text d) (members_text true ms) (value_plain d) (members_plain true ms)))

-- The text of a configuration is one line.
pub setup_plain : (config : Config) (salt max_entries : ℕ) → list_all (nat_le 32) (setup_text config salt max_entries) ≡ true
unfolding setup_text
setup_plain config salt max_entries = value_plain (setup_data config salt max_entries)

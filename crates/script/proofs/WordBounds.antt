-- How long words are, and that they have no control byte.
use Rattle.std.proofs.Common.{◌≡◌, ℕ, zero, suc, ◌+◌, ◌*◌, ◌/◌, ◌%◌, ◌≤◌, ◌-◌, ◌^◌, Bool, true, false, ◌&&◌, ◌||◌, ◌==◌}
use Rattle.std.proofs.Common.{nat_le, nat_lt, if◌then◌else◌, List, [], ◌∷◌, ◌++◌, length, codes, decimal, refl, ◌∙◌}
use Rattle.std.proofs.Common.{arith, length-append}
use Rattle.std.specs.List.{list_all}
use Rattle.std.specs.Fmt.{digits, digits_onto, digit_glyph}
use Rattle.std.proofs.lemmas.Bool.{leb-true, le-leb, or_parts}
use Rattle.std.proofs.lemmas.Bool.Decides.{nat_tests}
use Rattle.std.proofs.lemmas.List.Folds.{list_all-append}
use Rattle.uuid.specs.Text.{by_index, hex_digit, nibble, is_hyphen_place, digit_place, hyphen, hyphenated_text, lower}
use Rattle.arn_ids.specs.Identifiers.{identifier_of, id_word}
use Rattle.arn_ids.specs.declared.identifiers.IdKind.{IdKind}
use Rattle.script.specs.TextFields.{is_escaped, text_byte, escaped, text_field}
use Rattle.arn_ids.proofs.Printable.{both}

-- bytes without a control byte
abbrev pub is_plain : List ℕ → Bool
is_plain text = list_all (nat_le 32) text

-- at most so many bytes, without a control byte
pub record Fits (n : ℕ) (text : List ℕ) : Type 0 where
  pub plain : is_plain text ≡ true
  pub short : length text ≤ n

pub fits_weaker : (m n : ℕ) (text : List ℕ) → m ≤ n → Fits m text → Fits n text
fits_weaker m n text le f = record { plain = f.plain; short = omega (arith, f.short) }

pub fits_append : (m n : ℕ) (a b : List ℕ) → Fits m a → Fits n b → Fits (m + n) (a ++ b)
fits_append m n a b f g = record {
  plain = list_all-append (nat_le 32) a b ∙ rw (f.plain, g.plain) refl;
  short = omega (arith, length-append a b, f.short, g.short);
}

pub fits_cons : (n b : ℕ) (text : List ℕ) → 32 ≤ b → Fits n text → Fits (suc n) (b ∷ text)
fits_cons n b text le f = record { plain = rw (le-leb 32 b le) f.plain; short = omega (arith, f.short) }

-- a word that stands in the code
pub fits_word : (n : ℕ) (text : List ℕ) → (is_plain text && nat_le (length text) n) ≡ true → Fits n text
fits_word n text h = let p = both (is_plain text) (nat_le (length text) n) h in record { plain = p.0; short = leb-true (length text) n p.1 }

-- ---- numbers, identifiers, texts

glyph_plain : (d : ℕ) → 32 ≤ digit_glyph false d
glyph_plain d = go (nat_lt d 10)
  where
    go : (b : Bool) → 32 ≤ (if b then 48 + d else 87 + d)
    go true = omega arith
    go false = omega arith

digits_fit : (k n m : ℕ) (acc : List ℕ) → Fits m acc → Fits (k + m) (digits_onto k 10 false n acc)
digits_fit zero n m acc f = fits_weaker m (0 + m) acc (omega arith) f
digits_fit (suc k) n m acc f = go (n / 10 == 0) (digits_fit k (n / 10) (suc m) (digit_glyph false (n % 10) ∷ acc) more)
  where
    more : Fits (suc m) (digit_glyph false (n % 10) ∷ acc)
    more = fits_cons m (digit_glyph false (n % 10)) acc (glyph_plain (n % 10)) f

    go : (b : Bool) → Fits (k + suc m) (digits_onto k 10 false (n / 10) (digit_glyph false (n % 10) ∷ acc))
        → Fits (suc k + m) (if b then digit_glyph false (n % 10) ∷ acc else digits_onto k 10 false (n / 10) (digit_glyph false (n % 10) ∷ acc))
    go true rest = fits_weaker (suc m) (suc k + m) _ (omega arith) more
    go false rest = fits_weaker (k + suc m) (suc k + m) _ (omega arith) rest

pub fits_decimal : (n : ℕ) → Fits 64 (decimal n)
unfolding digits
fits_decimal n = digits_fit 64 n 0 [] (fits_word 0 [] refl)

index_fits : (n : ℕ) (f : ℕ → ℕ) → ((k : ℕ) → 32 ≤ f k) → Fits n (by_index n f)
unfolding by_index
index_fits zero f h = fits_word 0 [] refl
index_fits (suc n) f h =
    fits_weaker (n + 1) (suc n) _ (omega arith)
    (fits_append n 1 (by_index n f) (f n ∷ []) (index_fits n f h) (fits_cons 0 (f n) [] (h n) (fits_word 0 [] refl)))

hex_plain : (d : ℕ) → 32 ≤ hex_digit lower d
hex_plain d = go (nat_lt d 10)
  where
    go : (b : Bool) → 32 ≤ (if b then 48 + d else 97 + d - 10)
    go true = omega arith
    go false = omega arith

fits_hyphenated : (xs : List ℕ) → Fits 36 (hyphenated_text lower xs)
fits_hyphenated xs = index_fits 36 _ (λ k. place (is_hyphen_place k) k)
  where
    place : (b : Bool) (k : ℕ) → 32 ≤ (if b then hyphen else hex_digit lower (nibble xs (digit_place k)))
    place true k = omega arith
    place false k = hex_plain (nibble xs (digit_place k))

pub fits_id : (salt : ℕ) (kind : IdKind) (number count : ℕ) → Fits 36 (id_word salt kind number count)
unfolding id_word
fits_id salt kind number count = go (nat_lt number 4096 && nat_lt count (2 ^ 48))
  where
    go : (b : Bool) → Fits 36 (if b then hyphenated_text lower (identifier_of salt kind number count) else codes "-")
    go true = fits_hyphenated (identifier_of salt kind number count)
    go false = fits_word 36 (codes "-") refl

upper_plain : (d : ℕ) → 32 ≤ digit_glyph true d
upper_plain d = go (nat_lt d 10)
  where
    go : (b : Bool) → 32 ≤ (if b then 48 + d else 55 + d)
    go true = omega arith
    go false = omega arith

byte_fits : (b : ℕ) → Fits 3 (text_byte b)
byte_fits b = go (is_escaped b) refl
  where
    high : is_escaped b ≡ false → 32 ≤ b
    high e = let low = (or_parts (nat_lt b 33) (b == 37) (or_parts (nat_lt b 33 || b == 37) (nat_lt 126 b) e).0).0 in grind (arith, nat_tests)

    go : (c : Bool) → is_escaped b ≡ c → Fits 3 (if c then 37 ∷ digit_glyph true (b / 16 % 16) ∷ digit_glyph true (b % 16) ∷ [] else b ∷ [])
    go true e = fits_cons 2 37 _ (omega arith) (fits_cons 1 _ _ (upper_plain (b / 16 % 16)) (fits_cons 0 _ [] (upper_plain (b % 16)) (fits_word 0 [] refl)))
    go false e = fits_weaker 1 3 (b ∷ []) (omega arith) (fits_cons 0 b [] (high e) (fits_word 0 [] refl))

escaped_fits : (bytes : List ℕ) → Fits (3 * length bytes) (escaped bytes)
unfolding escaped
escaped_fits [] = fits_word 0 [] refl
escaped_fits (b ∷ bytes) =
    fits_weaker (3 + 3 * length bytes) (3 * length (b ∷ bytes)) _ (omega arith)
    (fits_append 3 (3 * length bytes) (text_byte b) (escaped bytes) (byte_fits b) (escaped_fits bytes))

pub fits_text : (n : ℕ) (bytes : List ℕ) → length bytes ≤ n → Fits (suc (3 * n)) (text_field bytes)
fits_text n bytes le =
    fits_cons (3 * n) 61 (escaped bytes) (omega arith) (fits_weaker (3 * length bytes) (3 * n) (escaped bytes) (omega (arith, le)) (escaped_fits bytes))

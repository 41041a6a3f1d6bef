-- A line is split into the words that it was made of.
use Rattle.std.proofs.Common.{◌≡◌, ℕ, ◌+◌, ◌%◌, ◌^◌, ◌<◌, Bool, true, false, not, ◌&&◌, ◌==◌, nat_le, List, [], ◌∷◌}
use Rattle.std.proofs.Common.{length, decimal, All, refl, sym, ap, ◌∙◌, arith}
use Rattle.std.specs.List.{list_all}
use Rattle.std.proofs.lemmas.List.{append-nil}
use Rattle.std.proofs.lemmas.List.Elements.{All-nil, All-cons, All-append}
use Rattle.std.proofs.lemmas.List.Splits.{slice_split_at, slice_split_none}
use Rattle.std.proofs.lemmas.Fmt.{decimal_by_steps}
use Rattle.std.proofs.lemmas.Bool.Decides.{nat_tests}
use Rattle.percent_encoding.specs.AsciiSet.{should_percent_encode}
use Rattle.percent_encoding.proofs.PercentLemmas.{IsEscapeByte, All-percent_encode}
use Rattle.arn_ids.specs.Words.{is_name_byte, is_name}
use Rattle.script.specs.declared.words.TheConstants.{ESCAPED}
use Rattle.script.specs.TextFields.{is_escaped, escaped, text_field}
use Rattle.script.specs.Lines.{fields}
use Rattle.script.specs.CallText.{line_of}
use Rattle.arn_ids.proofs.Printable.{both}
use Rattle.script.proofs.TextFieldLemmas.{same_test, same_text}

-- a byte that is no space
abbrev pub IsPlain : ℕ → Type 0
IsPlain b = (b == 32) ≡ false

-- words without a space
abbrev pub ArePlain : List (List ℕ) → Type 0
ArePlain [] = Unit {0}
ArePlain (word ∷ words) = All IsPlain word × ArePlain words

abbrev is_space : ℕ → Bool
is_space b = b == 32

pub split_again : (word : List ℕ) (words : List (List ℕ)) → All IsPlain word → ArePlain words → fields (line_of (word ∷ words)) ≡ word ∷ words
split_again word [] plain rest = rw append-nil (slice_split_none is_space word plain)
split_again word (next ∷ words) plain rest =
    slice_split_at is_space word 32 (line_of (next ∷ words)) plain refl ∙ ap (λ ws. word ∷ ws) (split_again next words rest.0 rest.1)

not_false : (b : Bool) → not b ≡ true → b ≡ false
not_false true h = cc
not_false false h = refl

pub plain_by_test : (word : List ℕ) → list_all (λ b. not (b == 32)) word ≡ true → All IsPlain word
plain_by_test [] h = All-nil IsPlain
plain_by_test (b ∷ bs) h =
    let parts = both (not (b == 32)) (list_all (λ b. not (b == 32)) bs) h in
    All-cons IsPlain b bs (not_false (b == 32) parts.0) (plain_by_test bs parts.1)

plain_digit : (d : ℕ) → d < 10 → All IsPlain ((48 + d) ∷ [])
plain_digit d small = All-cons IsPlain (48 + d) [] (grind (arith, nat_tests)) (All-nil IsPlain)

pub plain_decimal : (n : ℕ) → n < 2 ^ 64 → All IsPlain (decimal n)
plain_decimal n small =
    decimal_by_steps (λ _ ds. All IsPlain ds) plain_digit
    (λ n ds big plain. All-append IsPlain ds ((48 + n % 10) ∷ []) plain (plain_digit (n % 10) (omega arith))) n small

kept_plain : (b : ℕ) → should_percent_encode ESCAPED b ≡ false → IsPlain b
kept_plain b h = go (b == 32) refl (sym (same_test b) ∙ h)
  where
    go : (t : Bool) → (b == 32) ≡ t → is_escaped b ≡ false → t ≡ false
    go true e k = let at : b ≡ 32 = grind (arith, nat_tests) in let l : is_escaped 32 ≡ false = ap is_escaped (sym at) ∙ k in cc
    go false e k = refl

escape_plain : (b : ℕ) → IsEscapeByte b → IsPlain b
escape_plain b h = grind (arith, nat_tests)

pub plain_text : (bytes : List ℕ) → All IsPlain (text_field bytes)
plain_text bytes = All-cons IsPlain 61 (escaped bytes) refl (rw (← same_text bytes) (All-percent_encode IsPlain ESCAPED bytes kept_plain escape_plain))

name_byte_plain : (b : ℕ) → is_name_byte b ≡ true → IsPlain b
name_byte_plain b h = go (b == 32) refl
  where
    go : (t : Bool) → (b == 32) ≡ t → t ≡ false
    go true e = let at : b ≡ 32 = grind (arith, nat_tests) in let l : is_name_byte 32 ≡ true = ap is_name_byte (sym at) ∙ h in cc
    go false e = refl

plain_name_bytes : (name : List ℕ) → list_all is_name_byte name ≡ true → All IsPlain name
plain_name_bytes [] h = All-nil IsPlain
plain_name_bytes (b ∷ bs) h =
    let parts = both (is_name_byte b) (list_all is_name_byte bs) h in All-cons IsPlain b bs (name_byte_plain b parts.0) (plain_name_bytes bs parts.1)

pub plain_name : (name : List ℕ) → is_name name ≡ true → All IsPlain name
plain_name name h = plain_name_bytes name (both (nat_le 1 (length name) && nat_le (length name) 64) (list_all is_name_byte name) h).1

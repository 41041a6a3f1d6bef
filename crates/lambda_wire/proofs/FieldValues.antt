-- Texts that the value of a header may be.
use Rattle.std.proofs.Common.{ℕ, ◌<◌, ◌^◌, List, [], ◌∷◌, IsTrue, decimal, arith}
use Rattle.std.proofs.lemmas.Bool.Decides.{nat_tests}
use Rattle.std.proofs.lemmas.Fmt.{decimal_is_IsNumeral}
use Rattle.std.proofs.lemmas.List.Elements.{All-nil, All-cons}
use Rattle.std.specs.Str.Parse.{AllDigits}
use Rattle.http_header.specs.Token.{is_value_byte, is_visible_or_blank}
use Rattle.http_header.specs.FieldValue.{IsFieldValue, is_visible_text}
use Rattle.http_header.proofs.TokenLemmas.{AllPass-from_test, IsFieldValue-from_visible}

-- visible ASCII, spaces and tabs, by a test that computes on a text that is written out
pub visible_value : (text : List ℕ) → IsTrue (is_visible_text text) → IsFieldValue text
visible_value text h = IsFieldValue-from_visible text (AllPass-from_test is_visible_or_blank text h)

-- digits
digits_value : (text : List ℕ) → AllDigits 10 text → IsFieldValue text
digits_value [] h = All-nil (λ b. IsTrue (is_value_byte b))
digits_value (b ∷ text) h =
    All-cons (λ x. IsTrue (is_value_byte x)) b text (grind (arith, nat_tests)) (digits_value text h.1)

-- a number
pub number_value : (n : ℕ) → n < 2 ^ 64 → IsFieldValue (decimal n)
number_value n h = digits_value (decimal n) (decimal_is_IsNumeral n h).0.1

-- Text fields: what is escaped is decoded again.
use Rattle.std.proofs.Common.{◌≡◌, ℕ, ◌<◌, Bool, true, false, nat_lt, List, [], ◌∷◌, All, refl, arith}
use Rattle.std.proofs.lemmas.Bool.{agree_below, agree_below_at}
use Rattle.std.proofs.lemmas.Bool.Decides.{nat_tests}
use Rattle.percent_encoding.specs.AsciiSet.{contains, should_percent_encode}
use Rattle.percent_encoding.specs.Percent.{percent_encode, percent_decode, percent_encode_byte, encode_byte}
use Rattle.percent_encoding.proofs.PercentLemmas.{round_trip}
use Rattle.script.specs.declared.words.TheConstants.{ESCAPED}
use Rattle.script.specs.TextFields.{is_escaped, text_byte, escaped}

-- The set of the bytes that are escaped is the crate's.
below_128 : agree_below (contains ESCAPED) is_escaped 128 ≡ true
below_128 = refl

test_cases : (b : ℕ) (small : Bool) → nat_lt b 128 ≡ small → should_percent_encode ESCAPED b ≡ is_escaped b
unfolding should_percent_encode
test_cases b true e =
    let within : b < 128 = grind (arith, nat_tests) in
    let same = agree_below_at (contains ESCAPED) is_escaped 128 b below_128 within in
    rw (e, same) refl
test_cases b false e = rw e (grind (arith, nat_tests))

pub same_test : (b : ℕ) → should_percent_encode ESCAPED b ≡ is_escaped b
same_test b = test_cases b (nat_lt b 128) refl

same_byte : (b : ℕ) → encode_byte ESCAPED b ≡ text_byte b
unfolding percent_encode_byte
same_byte b = rw (same_test b) refl

pub same_text : (bytes : List ℕ) → percent_encode ESCAPED bytes ≡ escaped bytes
unfolding percent_encode escaped
same_text [] = refl
same_text (b ∷ bytes) = rw (same_byte b, same_text bytes) refl

-- What is escaped is decoded again.
pub decoded_again : (bytes : List ℕ) → All (λ b. b < 256) bytes → percent_decode (escaped bytes) ≡ bytes
decoded_again bytes small = rw (← same_text bytes) (round_trip ESCAPED bytes refl small)

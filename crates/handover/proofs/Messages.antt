-- The texts of messages to handlers.
use Rattle.std.proofs.Common.{◌≡◌, ℕ, ◌<◌, Bool, true, false, ◌&&◌, nat_lt, List, [], ◌∷◌, ◌++◌, codes, decimal, refl, ap, arith}
use Rattle.std.specs.Prelude.{chars, encode_utf8_all}
use lib.Utf8.{scalars}
use Rattle.std.specs.List.{list_all}
use Rattle.std.proofs.lemmas.List.{append_assoc}
use Rattle.std.proofs.lemmas.Str.{chars-encodes}
use Rattle.std.proofs.lemmas.Bool.Decides.{nat_tests}
use Rattle.http_header.specs.FieldValue.{FieldValue}
use Rattle.json.specs.Print.{print, print_from, escape_byte}
use Rattle.handover.specs.Heads.{head_tokens, line_of, named_tokens, member_tokens}

pub line_is : (id port : ℕ) (method target : List ℕ) (fields : List (List ℕ × FieldValue))
    → line_of id (print (head_tokens port method target fields)) ≡ print (named_tokens id port method target fields) ++ 10 ∷ []
unfolding print_from escape_byte
line_is id port method target fields =
    ap (λ (t : List ℕ). (codes "{\"id\":" ++ t) ++ 10 ∷ [])
    (append_assoc (decimal id) (44 ∷ []) (print_from false (member_tokens port method target fields)))

scalars_by : (b rest : Bool) → (b && rest) ≡ true → (b ≡ true) × (rest ≡ true)
scalars_by true rest both = (refl, both)
scalars_by false rest both = cc

small_scalars : (bytes : List ℕ) → list_all (λ b. nat_lt b 256) bytes ≡ true → scalars bytes ≡ true
small_scalars [] small = refl
small_scalars (b ∷ bytes) small =
    let parts = scalars_by (nat_lt b 256) (list_all (λ b. nat_lt b 256) bytes) small in
    let rest : scalars bytes ≡ true = small_scalars bytes parts.1 in
    let low : b < 256 = grind (arith, nat_tests, parts.0) in
    grind (arith, nat_tests, low, rest)

pub bytes_are : (bytes : List ℕ) → list_all (λ b. nat_lt b 256) bytes ≡ true → chars (encode_utf8_all bytes) ≡ bytes
bytes_are bytes small = chars-encodes bytes (small_scalars bytes small)

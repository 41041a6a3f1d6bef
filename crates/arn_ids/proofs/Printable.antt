-- What prints is UTF-8.
use Rattle.std.proofs.Common.{◌≡◌, ℕ, ◌<◌, Bool, true, false, ◌&&◌, nat_le, List, [], ◌∷◌, length, All, refl, arith}
use Rattle.std.specs.List.{list_all}
use Rattle.std.specs.Str.{IsUtf8}
use Rattle.std.proofs.lemmas.Str.{IsUtf8-from_ascii}
use Rattle.std.proofs.lemmas.Str.Ascii.{IsAscii-from_all}
use Rattle.std.proofs.lemmas.List.Elements.{All-nil, All-cons}
use Rattle.std.proofs.lemmas.Bool.{leb-true}
use Rattle.arn_ids.specs.Words.{is_word, is_printable}

pub both : (a b : Bool) → (a && b) ≡ true → (a ≡ true) × (b ≡ true)
both true b h = (refl, h)
both false b h = cc

pub ascii_from_printable : (bytes : List ℕ) → list_all is_printable bytes ≡ true → All (λ b. b < 128) bytes
ascii_from_printable [] h = All-nil (λ b. b < 128)
ascii_from_printable (b ∷ bytes) h =
    let here = both (is_printable b) (list_all is_printable bytes) h in
    let low = leb-true b 126 (both (nat_le 32 b) (nat_le b 126) here.0).1 in
    All-cons (λ b. b < 128) b bytes (omega arith) (ascii_from_printable bytes here.1)

pub utf8_from_word : (most : ℕ) (bytes : List ℕ) → is_word is_printable most bytes ≡ true → IsUtf8 bytes
utf8_from_word most bytes h =
    let prints = (both (nat_le 1 (length bytes) && nat_le (length bytes) most) (list_all is_printable bytes) h).1 in
    IsUtf8-from_ascii bytes (IsAscii-from_all bytes (ascii_from_printable bytes prints))

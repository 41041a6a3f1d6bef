-- An identifier says what it was made of.
use Rattle.std.proofs.Common.{◌≡◌, ℕ, ◌+◌, ◌*◌, ◌/◌, ◌%◌, ◌^◌, ◌<◌, refl, arith, Some, lit<}
use Rattle.uuid.proofs.OrderLemmas.{from_be_bytes-to_be_bytes_16}
use Rattle.arn_ids.specs.Identifiers.{high_word, nibble, low_word, identifier_of, kind_of, parts_of, parts_of_words}
use Rattle.arn_ids.specs.declared.identifiers.IdKind.{IdKind}
use Rattle.arn_ids.specs.declared.identifiers.IdKind.TheVariants.{Request, Extension, Event}

high_fits : (salt : ℕ) → salt < 2 ^ 64 → high_word salt < 2 ^ 64
high_fits salt fits = omega arith

version : (salt : ℕ) → high_word salt / 2 ^ 12 % 16 ≡ 8
version salt = omega arith

nibble_fits : (kind : IdKind) → nibble kind < 16
nibble_fits Request = lit< tt
nibble_fits Extension = lit< tt
nibble_fits Event = lit< tt

kind_back : (kind : IdKind) → kind_of (nibble kind) ≡ Some kind
kind_back Request = refl
kind_back Extension = refl
kind_back Event = refl

top : (k n m : ℕ) → n < 2 ^ 12 → m < 2 ^ 48 → (k * 2 ^ 60 + n * 2 ^ 48 + m) / 2 ^ 60 ≡ k
top k n m a b = omega arith

middle : (k n m : ℕ) → n < 2 ^ 12 → m < 2 ^ 48 → (k * 2 ^ 60 + n * 2 ^ 48 + m) / 2 ^ 48 % 2 ^ 12 ≡ n
middle k n m a b = omega arith

bottom : (k n m : ℕ) → n < 2 ^ 12 → m < 2 ^ 48 → (k * 2 ^ 60 + n * 2 ^ 48 + m) % 2 ^ 48 ≡ m
bottom k n m a b = omega arith

low_fits : (k n m : ℕ) → k < 16 → n < 2 ^ 12 → m < 2 ^ 48 → k * 2 ^ 60 + n * 2 ^ 48 + m < 2 ^ 64
low_fits k n m a b c = omega arith

words_back : (salt : ℕ) (kind : IdKind) (number count : ℕ) → number < 2 ^ 12 → count < 2 ^ 48
    → parts_of_words (high_word salt) (low_word kind number count) ≡ Some (record { salt_word = high_word salt; kind = kind; number = number; count = count })
words_back salt kind number count a b =
    rw (version salt, top (nibble kind) number count a b, middle (nibble kind) number count a b, bottom (nibble kind) number count a b, kind_back kind) refl

upper : (h l : ℕ) → l < 2 ^ 64 → (h * 2 ^ 64 + l) / 2 ^ 64 ≡ h
upper h l a = omega arith

lower : (h l : ℕ) → l < 2 ^ 64 → (h * 2 ^ 64 + l) % 2 ^ 64 ≡ l
lower h l a = omega arith

pair_fits : (h l : ℕ) → h < 2 ^ 64 → l < 2 ^ 64 → h * 2 ^ 64 + l < 2 ^ 128
pair_fits h l a b = omega arith

-- each identifier reads back
pub reads_back : (salt : ℕ) (kind : IdKind) (number count : ℕ) → salt < 2 ^ 64 → number < 2 ^ 12 → count < 2 ^ 48
    → parts_of (identifier_of salt kind number count) ≡ Some (record { salt_word = high_word salt; kind = kind; number = number; count = count })
unfolding parts_of identifier_of
reads_back salt kind number count fits a b =
    let low = low_fits (nibble kind) number count (nibble_fits kind) a b in
    rw (
      from_be_bytes-to_be_bytes_16 (high_word salt * 2 ^ 64 + low_word kind number count)
          (pair_fits (high_word salt) (low_word kind number count) (high_fits salt fits) low),
      upper (high_word salt) (low_word kind number count) low,
      lower (high_word salt) (low_word kind number count) low,
    )
    (words_back salt kind number count a b)

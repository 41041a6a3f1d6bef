-- The lowest bit of a set's words is its lowest environment.
use Rattle.std.proofs.Common.{◌≡◌, ℕ, ◌+◌, ◌-◌, ◌*◌, ◌/◌, ◌%◌, ◌<◌, ◌^◌, ◌==◌, false, ap, inl, inr, arith, w64, slice_index}
use Rattle.std.specs.Int.{trailing_zeros}
use Rattle.std.proofs.lemmas.Bool.{cases_lt}
use Rattle.std.proofs.lemmas.Nat.Bits.{bit_at-zero, bit_at-trailing_zeros}
use Rattle.placement.specs.declared.env_set.EnvSet.{EnvSet}
use Rattle.placement.specs.Sets.{has_at, IsLowest}

module _ (set : EnvSet) (k : ℕ) (before : (i : ℕ) → i < k * 64 → has_at set i ≡ false) where
  abbrev word : ℕ
  word = slice_index set.words k

  -- a word without a bit has none of its environments
  pub word_empty : word ≡ 0 → (i : ℕ) → i < (k + 1) * 64 → has_at set i ≡ false
  word_empty clear i within =
      elim (cases_lt i (k * 64)) [
        | inl lower ↦ before i lower
        | inr here ↦ let at : i / 64 ≡ k = omega arith in rw (at, clear) (ap (λ n. n == 1) (bit_at-zero (i % 64)))
      ]

  pub word_lowest : k < 4 → 0 < word → word < 2 ^ 64 → IsLowest set (k * 64 + trailing_zeros w64 word + 1)
  word_lowest in_set some fits =
      let lowest = bit_at-trailing_zeros w64 word some fits in
      let place : ℕ = trailing_zeros w64 word in
      let one_less : k * 64 + place + 1 - 1 ≡ k * 64 + place = omega arith in
      let at : (k * 64 + place) / 64 ≡ k = omega (arith, lowest.0) in
      let in_word : (k * 64 + place) % 64 ≡ place = omega (arith, lowest.0) in
      record {
        from_one = omega arith;
        within = omega (arith, lowest.0);
        is_in = rw (one_less, at, in_word) (ap (λ n. n == 1) lowest.1);
        below = λ i lower.
            elim (cases_lt i (k * 64)) [
              | inl before_word ↦ before i before_word
              | inr here ↦ let there : i / 64 ≡ k = omega (arith, lowest.0) in rw there (ap (λ n. n == 1) (lowest.2 (i % 64) (omega arith)))
            ];
      }

-- A number that was written is read again.
use Rattle.std.proofs.Common.{◌≡◌, ◌≢◌, ℕ, ◌+◌, ◌-◌, ◌*◌, ◌/◌, ◌%◌, ◌^◌, ◌<◌, ◌≤◌, Bool, true, false, ◌&&◌, ◌==◌}
use Rattle.std.proofs.Common.{nat_le, cond, List, [], ◌∷◌, ◌++◌, length, slice_index, Option, Some, None, decimal, refl}
use Rattle.std.proofs.Common.{ap, ◌∙◌, arith, option_and_then, length-append}
use Rattle.std.proofs.lemmas.Fmt.{decimal_by_steps}
use Rattle.std.proofs.lemmas.Bool.Decides.{nat_tests}
use Rattle.arn_ids.specs.Words.{is_digit}
use Rattle.arn_ids.specs.Numbers.{digits_in, number_in}

-- the digits go on with one more
abbrev one_more : ℕ → ℕ → ℕ → Option ℕ
one_more most d m = digits_in most m (d ∷ [])

step : (b : Bool) (most m : ℕ) (ds : List ℕ) (d : ℕ) → digits_in most m (ds ++ d ∷ []) ≡ option_and_then (one_more most d) (digits_in most m ds)
    → cond b (digits_in most m (ds ++ d ∷ [])) None ≡ option_and_then (one_more most d) (cond b (digits_in most m ds) None)
step true most m ds d e = e
step false most m ds d e = refl

digits_in-push : (most a : ℕ) (ds : List ℕ) (d : ℕ) → digits_in most a (ds ++ d ∷ []) ≡ option_and_then (one_more most d) (digits_in most a ds)
digits_in-push most a [] d = refl
digits_in-push most a (b ∷ bs) d =
    step (is_digit b && nat_le (10 * a + (b - 48)) most) most (10 * a + (b - 48)) bs d (digits_in-push most (10 * a + (b - 48)) bs d)

last_digit : (most m d : ℕ) → d < 10 → 10 * m + d ≤ most → digits_in most m ((48 + d) ∷ []) ≡ Some (10 * m + d)
last_digit most m d small fits =
    let back : (48 + d) - 48 ≡ d = omega arith in
    let within : nat_le (10 * m + d) most ≡ true = grind (arith, nat_tests) in
    let low : nat_le 48 (48 + d) ≡ true = grind (arith, nat_tests) in
    let high : nat_le (48 + d) 57 ≡ true = grind (arith, nat_tests) in
    rw (low, high, back, within) refl

-- the digits are read as this number, and only 0 begins with a 0
record ReadsAs (n : ℕ) (ds : List ℕ) : Type 0 where
  value : (most : ℕ) → n ≤ most → digits_in most 0 ds ≡ Some n
  some : 0 < length ds
  leads : 0 < n → slice_index ds 0 ≢ 48
  alone : n ≡ 0 → length ds ≡ 1

one_digit : (n : ℕ) → n < 10 → ReadsAs n ((48 + n) ∷ [])
one_digit n small =
    record { value = λ most fits. last_digit most 0 n small (omega arith) ∙ ap Some (omega arith); some = omega arith; leads = λ h e. omega arith; alone = λ e. refl }

front_stays : (ds : List ℕ) (d : ℕ) → 0 < length ds → slice_index (ds ++ d ∷ []) 0 ≡ slice_index ds 0
front_stays [] d h = absurd (omega arith)
front_stays (b ∷ bs) d h = refl

digit_more : (n : ℕ) (ds : List ℕ) → 10 ≤ n → ReadsAs (n / 10) ds → ReadsAs n (ds ++ (48 + n % 10) ∷ [])
digit_more n ds big r = record {
  value =
      λ most fits. digits_in-push most 0 ds (48 + n % 10)
      ∙ rw (r.value most (omega arith)) (last_digit most (n / 10) (n % 10) (omega arith) (omega arith) ∙ ap Some (omega arith));
  some = omega (arith, length-append ds ((48 + n % 10) ∷ []));
  leads = λ h. rw (front_stays ds (48 + n % 10) r.some) (r.leads (omega arith));
  alone = λ e. absurd (omega arith);
}

read_as : (most n : ℕ) (ds : List ℕ) → n ≤ most → ReadsAs n ds → number_in most ds ≡ Some n
read_as most n [] fits r = absurd (omega (arith, r.some))
read_as most n (b ∷ []) fits r = r.value most fits
read_as most n (b ∷ c ∷ bs) fits r =
    let above : 0 < n = grind (arith, r.alone) in
    let other : (b == 48) ≡ false = grind (arith, nat_tests, r.leads above) in
    rw other (r.value most fits)

pub number_again : (most n : ℕ) → n ≤ most → n < 2 ^ 64 → number_in most (decimal n) ≡ Some n
number_again most n fits small = read_as most n (decimal n) fits (decimal_by_steps ReadsAs one_digit digit_more n small)

-- How many bytes pass is no more than there are.
use Rattle.std.proofs.Common.{◌≡◌, ℕ, ◌<◌, ◌≤◌, Bool, true, false, not, cond, nat_lt, List, length, Some, None, unwrap_or, refl, arith}
use Rattle.std.specs.List.{position_or_len}
use Rattle.std.proofs.lemmas.Bool.Decides.{nat_tests}
use Rattle.request_guard.specs.Names.{passed}

within_by : (b : Bool) (n l : ℕ) → nat_lt n l ≡ b → unwrap_or (cond b (Some n) None) l ≤ l
within_by true n l e = let h : n < l = grind (arith, nat_tests) in omega arith
within_by false n l e = omega arith

pub passed_within : (passes : ℕ → Bool) (text : List ℕ) → passed passes text ≤ length text
passed_within passes text = within_by (nat_lt (position_or_len (λ b. not (passes b)) text) (length text))
    (position_or_len (λ b. not (passes b)) text) (length text) refl

-- What the configuration says where there is no such function, and no such environment.
use Rattle.std.proofs.Common.{◌≡◌, ℕ, zero, suc, ◌<◌, ◌≤◌, List, [], ◌∷◌, length, refl, ap, arith}
use Rattle.arn_ids.specs.Environments.{at, numbered, no_function, function_at, owners, function_of}
use Rattle.arn_ids.specs.declared.config.Config.{Config}

at_beyond : {A : Type 0} (d : A) (xs : List A) (n : ℕ) → length xs ≤ n → at d xs n ≡ d
at_beyond d [] n h = refl
at_beyond d (x ∷ xs) zero h = absurd (omega arith)
at_beyond d (x ∷ xs) (suc n) h = at_beyond d xs n (omega arith)

numbered_beyond : {A : Type 0} (d : A) (xs : List A) (n : ℕ) → length xs < n → numbered d xs n ≡ d
numbered_beyond d xs zero h = refl
numbered_beyond d xs (suc n) h = at_beyond d xs n (omega arith)

pub beyond : (config : Config) (f : ℕ) → length config.functions < f → function_at config f ≡ no_function
beyond config f h = numbered_beyond no_function config.functions f h

pub no_owner : (config : Config) (e : ℕ) → length (owners config) < e → function_of config e ≡ 0
no_owner config e h = ap (λ owner. owner.0) (numbered_beyond (0, no_function) (owners config) e h)

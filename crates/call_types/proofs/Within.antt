-- What a text says of environments and functions is within the configuration; and how to say that what is read, step by
-- step, is within limits.
use Rattle.std.proofs.Common.{◌≡◌, ℕ, suc, ◌+◌, ◌-◌, ◌*◌, ◌<◌, ◌≤◌, Bool, true, false, ◌&&◌, cond, nat_le, nat_lt, ◌==◌}
use Rattle.std.proofs.Common.{List, [], ◌∷◌, length, bytes_eq, position, Option, Some, None, option_map, option_and_then}
use Rattle.std.proofs.Common.{refl, arith}
use Rattle.std.specs.Option.{IfSome}
use Rattle.std.specs.List.{position_or_len}
use Rattle.std.proofs.lemmas.Bool.{leb-true, ltb-true}
use Rattle.arn_ids.specs.Words.{is_digit}
use Rattle.arn_ids.specs.Environments.{owners, number_named}
use Rattle.arn_ids.specs.Numbers.{digits_in, number_in, from_one, env_in}
use Rattle.arn_ids.specs.declared.config.Config.{Config}
use Rattle.arn_ids.specs.declared.config.Function.{Function}
use Rattle.call_types.specs.Within.{IsEnv, IsFunction}

-- any value
abbrev pub Anything : {A : Type 0} → A → Type 0
Anything a = Unit {0}

-- what an option has, where it has a value
pub record Gives {A : Type 0} (o : Option A) (Q : A → Type 0) : Type 0 where
  pub holds : IfSome o Q

pub nothing : {A : Type 0} {Q : A → Type 0} → Gives None Q
nothing = record { holds = tt }

pub gives : {A : Type 0} {Q : A → Type 0} (a : A) → Q a → Gives (Some a) Q
gives a h = record { holds = h }

pub anything : {A : Type 0} (o : Option A) → Gives o Anything
anything None = nothing
anything (Some a) = gives a tt

-- one step after the other
pub and_then : {A B : Type 0} {Q : B → Type 0} (P : A → Type 0) (o : Option A) (f : A → Option B) → Gives o P
    → ((a : A) → P a → Gives (f a) Q) → Gives (option_and_then f o) Q
and_then P None f h step = nothing
and_then P (Some a) f h step = step a h.holds

pub mapped : {A B : Type 0} {Q : B → Type 0} (P : A → Type 0) (o : Option A) (f : A → B) → Gives o P → ((a : A) → P a → Q (f a)) → Gives (option_map f o) Q
mapped P None f h step = nothing
mapped P (Some a) f h step = gives (f a) (step a h.holds)

pub either : {A : Type 0} {Q : A → Type 0} (b : Bool) (x y : Option A) → Gives x Q → Gives y Q → Gives (cond b x y) Q
either true x y h k = h
either false x y h k = k

pub where_true : {A : Type 0} {Q : A → Type 0} (b : Bool) (a : A) → (b ≡ true → Q a) → Gives (cond b (Some a) None) Q
where_true true a h = gives a (h refl)
where_true false a h = nothing

both : (a b : Bool) → (a && b) ≡ true → (a ≡ true) × (b ≡ true)
both true b h = (refl, h)
both false b h = cc

digits_within : (most n : ℕ) (ds : List ℕ) → n ≤ most → Gives (digits_in most n ds) (λ m. m ≤ most)
digits_within most n [] small = gives n small
digits_within most n (b ∷ bs) small = go (is_digit b && nat_le (10 * n + (b - 48)) most) refl (digits_within most (10 * n + (b - 48)) bs)
  where
    go : (t : Bool) → (is_digit b && nat_le (10 * n + (b - 48)) most) ≡ t
        → (10 * n + (b - 48) ≤ most → Gives (digits_in most (10 * n + (b - 48)) bs) (λ m. m ≤ most))
        → Gives (cond t (digits_in most (10 * n + (b - 48)) bs) None) (λ m. m ≤ most)
    go true e later = later (leb-true (10 * n + (b - 48)) most (both (is_digit b) (nat_le (10 * n + (b - 48)) most) e).1)
    go false e later = nothing

pub number_within : (most : ℕ) (text : List ℕ) → Gives (number_in most text) (λ n. n ≤ most)
number_within most [] = nothing
number_within most (b ∷ []) = digits_within most 0 (b ∷ []) (omega arith)
number_within most (b ∷ c ∷ bs) = either (b == 48) None (digits_in most 0 (b ∷ c ∷ bs)) nothing (digits_within most 0 (b ∷ c ∷ bs) (omega arith))

pub env_within : (config : Config) (field : List ℕ) → Gives (env_in config field) (IsEnv config)
env_within config field =
    and_then (λ n. n ≤ length (owners config)) (number_in (length (owners config)) field) from_one (number_within (length (owners config)) field)
    (λ e small. where_true (nat_le 1 e) e (λ t. (leb-true 1 e t, small)))

pub named_within : (config : Config) (name : List ℕ) → Gives (number_named config name) (IsFunction config)
named_within config name =
    let place : ℕ = position_or_len (λ (function : Function). bytes_eq function.name name) config.functions in
    mapped (λ n. n < length config.functions) (position (λ (function : Function). bytes_eq function.name name) config.functions) suc
    (where_true (nat_lt place (length config.functions)) place (λ t. ltb-true place (length config.functions) t)) (λ n small. (omega arith, omega arith))

-- The reservations leave the least remainder, and so no function that a limit admits has as many in flight as the account's limit.
use Rattle.std.proofs.Common.{◌≡◌, ℕ, ◌+◌, ◌-◌, ◌<◌, ◌≤◌, Bool, true, false, ◌&&◌, length, Option, Some, None, sum_by}
use Rattle.std.proofs.Common.{nat_le, unwrap_or, refl, ◌∙◌, arith, if◌then◌else◌}
use Rattle.std.proofs.lemmas.Bool.Decides.{nat_tests}
use Rattle.std.proofs.lemmas.List.Sums.{get_or-le-sum_by}
use Rattle.arn_ids.specs.declared.config.Config.{Config}
use Rattle.arn_ids.specs.Faults.{first_fault, reservation_of}
use Rattle.arn_ids.proofs.Bounds.{reservations_fit}
use Rattle.call_model.specs.Limits.{or_zero}
use Rattle.call_types.specs.declared.answer.Throttle.TheVariants.{Function as ByFunction, Account as ByAccount}
use Rattle.concurrency_pool.specs.declared.pool.Usage.{Usage}
use Rattle.concurrency_pool.specs.Numbers.{Numbers}
use Rattle.concurrency_pool.specs.Usages.{usage_of, reserved_by, unreserved_by, no_usage}
use Rattle.concurrency_pool.specs.Pools.{opened, usage_at, reserved_in_all, remainder, unreserved_in_flight, throttle, throttle_by, may_reserve, taken_with}
use Rattle.concurrency_pool.proofs.Numbered.{usage_is_at, sum_map, sum_same}

-- a configuration without a fault leaves its least remainder
pub opened_leaves : (config : Config) → first_fault config ≡ None → config.least_remainder + sum_by reserved_by (opened config).functions ≤ config.account_limit
opened_leaves config none =
    let all : sum_by reserved_by (opened config).functions ≡ sum_by reservation_of config.functions =
    sum_map reserved_by usage_of config.functions
    ∙ sum_same (λ function. reserved_by (usage_of function)) reservation_of (λ function. same function.reserved) config.functions in
    omega (arith, all, reservations_fit config none)
  where
    same : (o : Option ℕ) → or_zero o ≡ unwrap_or o 0
    same None = refl
    same (Some n) = refl

-- a function's number of what is summed up is within the sum
pub within_sum : (r : Usage → ℕ) (pool : Numbers) (f : ℕ) → 1 ≤ f → f ≤ length pool.functions → r (usage_at pool f) ≤ sum_by r pool.functions
within_sum r pool f from_one there =
    rw (usage_is_at pool f no_usage from_one there) (get_or-le-sum_by r pool.functions (f - 1) no_usage (omega (arith, from_one, there)))

-- a reservation that the pool may take leaves the least remainder
pub allowed_leaves : (pool : Numbers) (f : ℕ) (count : Option ℕ) (n : ℕ) → may_reserve pool f count ≡ true
    → n < or_zero count → taken_with pool f (or_zero count) ≤ pool.account_limit
unfolding may_reserve
allowed_leaves pool f None n may less = absurd (omega (arith, less))
allowed_leaves pool f (Some count) n may less = both (nat_le count (usage_at pool f).environments) (taken_with pool f count) pool.account_limit may
  where
    both : (b : Bool) (m n : ℕ) → (b && nat_le m n) ≡ true → m ≤ n
    both true m n h = grind (arith, nat_tests, h)
    both false m n h = cc

-- a function that its limit admits has less in flight than the account's limit
pub admitted_below : (pool : Numbers) (f : ℕ) → 1 ≤ f → f ≤ length pool.functions
    → pool.least_remainder + reserved_in_all pool ≤ pool.account_limit → throttle pool f ≡ None → (usage_at pool f).in_flight < pool.account_limit
unfolding throttle
admitted_below pool f from_one there leaves admitted =
    go (usage_at pool f).reserved leaves (within_sum reserved_by pool f from_one there)
    (λ none. rw none at (within_sum unreserved_by pool f from_one there)) admitted
  where
    below : {A : Type 0} (reason : A) (m n : ℕ) → (if nat_le m n then Some reason else None) ≡ None → n < m
    below reason m n h = case (nat_le m n) refl h
      where
        case : (b : Bool) → nat_le m n ≡ b → (if b then Some reason else None) ≡ None → n < m
        case true q r = cc
        case false q r = grind (arith, nat_tests, q)

    go : (o : Option ℕ) → pool.least_remainder + sum_by reserved_by pool.functions ≤ pool.account_limit
        → or_zero o ≤ sum_by reserved_by pool.functions
        → (o ≡ None → (usage_at pool f).in_flight ≤ unreserved_in_flight pool)
        → throttle_by pool o (usage_at pool f).in_flight ≡ None → (usage_at pool f).in_flight < pool.account_limit
    go (Some limit) leaves within counted h = let less = below ByFunction limit (usage_at pool f).in_flight h in omega (arith, within, leaves, less)
    go None leaves within counted h = let less = below ByAccount (remainder pool) (unreserved_in_flight pool) h in omega (arith, counted refl, less)

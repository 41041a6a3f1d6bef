-- The totals that a pool keeps are the sums over its functions, and stay so.
use Rattle.std.proofs.Common.{◌≡◌, ℕ, ◌+◌, ◌-◌, ◌*◌, ◌^◌, ◌<◌, ◌≤◌, Bool, true, false, length, None, set, sum_by}
use Rattle.std.proofs.Common.{is_none, refl, sym, le_trans, ◌∙◌, arith, if◌then◌else◌}
use Rattle.std.proofs.lemmas.List.{length-set, length-map}
use Rattle.std.proofs.lemmas.List.Elements.{All-map, All-set}
use Rattle.std.proofs.lemmas.List.Sums.{sum_by-le, sum_by-set}
use Rattle.std.specs.List.{All, slice_index_or}
use Rattle.arn_ids.specs.declared.config.Config.{Config}
use Rattle.arn_ids.specs.Faults.{first_fault}
use Rattle.arn_ids.proofs.Bounds.{functions_64, limit_between}
use Rattle.concurrency_pool.specs.declared.pool.Usage.{Usage}
use Rattle.concurrency_pool.specs.Numbers.{Numbers}
use Rattle.concurrency_pool.specs.Usages.{usage_of, reserved_by, unreserved_by, charged_by, no_usage}
use Rattle.concurrency_pool.specs.Pools.{opened, usage_at, reserved_in_all, taken_with}
use Rattle.concurrency_pool.specs.Totals.{AreTotals}
use Rattle.concurrency_pool.proofs.Numbered.{usage_is_at, sum_map, sum_nothing}
use Rattle.concurrency_pool.proofs.Leaves.{opened_leaves, within_sum}

-- the pool of a configuration without a fault has nothing in flight
pub opened_totals : (config : Config) (reserved : ℕ) → first_fault config ≡ None
    → reserved ≡ reserved_in_all (opened config) → AreTotals (opened config) reserved 0 0
opened_totals config reserved sound all = record {
  few = rw length-map (functions_64 config sound);
  limited = (limit_between config sound).1;
  leaves = opened_leaves config sound;
  all_reserved = all;
  all_unreserved =
      sym
      (sum_map unreserved_by usage_of config.functions ∙ sum_nothing (λ function. unreserved_by (usage_of function)) (λ function. none (is_none function.reserved)) config.functions);
  all_in_flight =
      sym (sum_map charged_by usage_of config.functions ∙ sum_nothing (λ function. charged_by (usage_of function)) (λ function. refl) config.functions);
  counted = All-map (λ usage. charged_by usage ≤ 2 ^ 32) usage_of config.functions (λ k d there. omega arith);
}
  where
    none : (b : Bool) → ◌≡◌ {A = ℕ} (if b then 0 else 0) 0
    none true = refl
    none false = refl

-- the sum with another usage of a function
sum_with : (r : Usage → ℕ) (pool : Numbers) (f : ℕ) (usage : Usage) → 1 ≤ f → f ≤ length pool.functions
    → sum_by r (set pool.functions (f - 1) usage) + r (usage_at pool f) ≡ sum_by r pool.functions + r usage
sum_with r pool f usage from_one there =
    rw (usage_is_at pool f no_usage from_one there) (sum_by-set r pool.functions (f - 1) usage no_usage (omega (arith, from_one, there)))

-- a sum of at most 64 numbers of 32 bits
few_fit : (r : Usage → ℕ) (pool : Numbers) → ((usage : Usage) → r usage ≤ charged_by usage) → length pool.functions ≤ 64
    → All (λ usage. charged_by usage ≤ 2 ^ 32) pool.functions → sum_by r pool.functions ≤ 64 * 2 ^ 32
few_fit r pool less few counted =
    let each : All (λ usage. r usage ≤ 2 ^ 32) pool.functions = λ k d there. le_trans (less (slice_index_or pool.functions k d)) (counted k d there) in
    let sum : sum_by r pool.functions ≤ length pool.functions * 2 ^ 32 = sum_by-le r (2 ^ 32) pool.functions each in
    omega (arith, sum, few)

-- a function's parts are within the totals
pub parts_within : {pool : Numbers} {reserved unreserved in_flight : ℕ} (f : ℕ) → 1 ≤ f → f ≤ length pool.functions
    → AreTotals pool reserved unreserved in_flight
    → (reserved_by (usage_at pool f) ≤ reserved) × (unreserved_by (usage_at pool f) ≤ unreserved) × (charged_by (usage_at pool f) ≤ in_flight)
parts_within {pool} f from_one there totals =
    (rw totals.all_reserved (within_sum reserved_by pool f from_one there), rw totals.all_unreserved (within_sum unreserved_by pool f from_one there), rw totals.all_in_flight (within_sum charged_by pool f from_one there))

-- so no total is near 64 bits
pub unreserved_fit : {pool : Numbers} {reserved unreserved in_flight : ℕ} → AreTotals pool reserved unreserved in_flight → unreserved ≤ 64 * 2 ^ 32
unreserved_fit {pool} totals = rw totals.all_unreserved (few_fit unreserved_by pool less totals.few totals.counted)
  where
    part : (b : Bool) (n : ℕ) → (if b then n else 0) ≤ n
    part true n = omega arith
    part false n = omega arith

    less : (usage : Usage) → unreserved_by usage ≤ charged_by usage
    less usage = part (is_none usage.reserved) usage.in_flight

pub in_flight_fit : {pool : Numbers} {reserved unreserved in_flight : ℕ} → AreTotals pool reserved unreserved in_flight → in_flight ≤ 64 * 2 ^ 32
in_flight_fit {pool} totals = rw totals.all_in_flight (few_fit charged_by pool (λ usage. omega arith) totals.few totals.counted)

-- with another usage of a function, totals that change by its parts are the sums again
pub totals_with : (pool : Numbers) (f : ℕ) (usage : Usage) (reserved unreserved in_flight reserved' unreserved' in_flight' : ℕ)
    → 1 ≤ f → f ≤ length pool.functions
    → (reserved_by (usage_at pool f) < reserved_by usage → taken_with pool f (reserved_by usage) ≤ pool.account_limit)
    → charged_by usage ≤ 2 ^ 32
    → reserved' + reserved_by (usage_at pool f) ≡ reserved + reserved_by usage
    → unreserved' + unreserved_by (usage_at pool f) ≡ unreserved + unreserved_by usage
    → in_flight' + charged_by (usage_at pool f) ≡ in_flight + charged_by usage
    → AreTotals pool reserved unreserved in_flight
    → AreTotals (record pool { functions = set pool.functions (f - 1) usage }) reserved' unreserved' in_flight'
totals_with pool f usage reserved unreserved in_flight reserved' unreserved' in_flight' from_one there leaves small by_reserved by_unreserved by_charged totals =
    let sum = sum_with reserved_by pool f usage from_one there in
    let part = within_sum reserved_by pool f from_one there in
    record {
      few = rw length-set totals.few;
      limited = totals.limited;
      leaves =
          still pool.least_remainder (reserved_in_all pool) (reserved_by (usage_at pool f)) (reserved_by usage)
          (sum_by reserved_by (set pool.functions (f - 1) usage)) pool.account_limit leaves sum part totals.leaves;
      all_reserved = omega (arith, sum, by_reserved, totals.all_reserved);
      all_unreserved = omega (arith, sum_with unreserved_by pool f usage from_one there, by_unreserved, totals.all_unreserved);
      all_in_flight = omega (arith, sum_with charged_by pool f usage from_one there, by_charged, totals.all_in_flight);
      counted = All-set (λ usage. charged_by usage ≤ 2 ^ 32) pool.functions (f - 1) usage small totals.counted;
    }
  where
    still : (least all last part all' limit : ℕ) → (last < part → ((all - last) + part) + least ≤ limit)
        → all' + last ≡ all + part → last ≤ all → least + all ≤ limit → least + all' ≤ limit
    still least all last part all' limit fits sum within leaves = grind arith

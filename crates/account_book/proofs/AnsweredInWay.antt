-- Which environments in the way have answered, by the sites and the pool that are kept.
use Rattle.std.proofs.Common.{◌≡◌, ℕ, zero, suc, ◌+◌, ◌≤◌, Bool, ◌&&◌, ◌||◌, List, length, Option, refl, ap, ap₂, ◌∙◌, arith}
use Rattle.std.specs.List.{list_any}
use Rattle.arn_ids.proofs.Bounds.{owner_is_function}
use Rattle.arn_ids.proofs.Repeats.{list_any-map}
use Rattle.arn_ids.specs.declared.config.Config.{Config}
use Rattle.arn_ids.specs.Environments.{count_from, environments, function_of, owners}
use Rattle.call_types.specs.declared.answer.Throttle.{Throttle}
use Rattle.call_types.specs.declared.call.Entry.{Entry}
use Rattle.call_model.specs.Life.{stand}
use Rattle.call_model.specs.Limits.{reservation}
use Rattle.concurrency_pool.specs.declared.pool.Usage.{Usage}
use Rattle.concurrency_pool.specs.Meets.{numbers}
use Rattle.concurrency_pool.specs.Numbers.{Numbers}
use Rattle.concurrency_pool.specs.Pools.{usage_at}
use Rattle.concurrency_pool.proofs.History as pool
use Rattle.env_phase.specs.Taking.{has_answered}
use Rattle.fleet.specs.declared.site.Site.{Site}
use Rattle.account_book.specs.Premature.{in_way, has_answered_in_way}
use Rattle.fleet.specs.Sites.{site, sites}

-- an environment that has answered and stands in the way, by the pool
abbrev pub answered_at : Numbers → Throttle → ℕ → Site → Bool
answered_at p reason f s = has_answered s.environment.stand && in_way reason f (usage_at p s.function).reserved s.function

-- the same by the history
abbrev answered_in : Config → List Entry → Throttle → ℕ → ℕ → Bool
answered_in config h reason f e = has_answered (stand config h e) && in_way reason f (reservation config h (function_of config e)) (function_of config e)

-- an environment's function has its reservation in the pool
reserved_at : (config : Config) (h : List Entry) (e : ℕ) → 1 ≤ e → e ≤ length (owners config)
    → (usage_at (numbers config h) (function_of config e)).reserved ≡ reservation config h (function_of config e)
reserved_at config h e low high =
    let owner = owner_is_function config e low high in
    ap (λ (u : Usage). u.reserved) (pool.usage_is config h (function_of config e) owner.0 owner.1)

one_of : (config : Config) (h : List Entry) (reason : Throttle) (f e : ℕ) → 1 ≤ e → e ≤ length (owners config)
    → answered_at (numbers config h) reason f (site config h e) ≡ answered_in config h reason f e
one_of config h reason f e low high =
    ap (λ (r : Option ℕ). has_answered (stand config h e) && in_way reason f r (function_of config e)) (reserved_at config h e low high)

from : (config : Config) (h : List Entry) (reason : Throttle) (f a n : ℕ) → 1 ≤ a → a + n ≤ length (owners config) + 1
    → list_any (λ e. answered_at (numbers config h) reason f (site config h e)) (count_from a n) ≡ list_any (answered_in config h reason f) (count_from a n)
from config h reason f a zero low high = refl
from config h reason f a (suc n) low high =
    ap₂ (λ (x y : Bool). x || y) (one_of config h reason f a low (omega (arith, high))) (from config h reason f (suc a) n (omega arith) (omega (arith, high)))

-- What is kept and the history tell the same of the environments in the way.
pub answered_in_way : (config : Config) (h : List Entry) (reason : Throttle) (f : ℕ)
    → list_any (answered_at (numbers config h) reason f) (sites config h) ≡ has_answered_in_way config h f reason
answered_in_way config h reason f =
    list_any-map (answered_at (numbers config h) reason f) (site config h) (environments config)
    ∙ from config h reason f 1 (length (owners config)) (omega arith) (omega arith)

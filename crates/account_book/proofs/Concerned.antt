-- The environments after an entry: those that it reaches take its call, and no other changes.
use Rattle.std.proofs.Common.{◌≡◌, ◌≢◌, ℕ, zero, suc, ◌+◌, ◌-◌, ◌≤◌, true, false, List, ◌∷◌, length, map, set, sym, refl, ap, ap₂, ◌∙◌, arith, ◌==◌}
use Rattle.std.proofs.lemmas.Bool.Decides.{nat_tests}
use Rattle.arn_ids.specs.declared.config.Config.{Config}
use Rattle.arn_ids.specs.Environments.{environments, count_from, owners, function_of, numbered}
use Rattle.arn_ids.proofs.Bounds.{owner_is_function}
use Rattle.call_model.proofs.Basics.{eqb-self, map_map}
use Rattle.environment_step.specs.After.{step_at}
use Rattle.environment_step.proofs.Stands.{all_same, one_changes}
use Rattle.call_types.specs.declared.call.Entry.{Entry}
use Rattle.call_model.specs.History.{requests}
use Rattle.call_model.specs.Next.{IsLegal, Follows}
use Rattle.concurrency_pool.proofs.Numbered.{numbered_is}
use Rattle.fleet.specs.declared.reach.Reach.{Reach}
use Rattle.fleet.specs.declared.reach.Reach.TheVariants.{Nowhere, At, Everywhere}
use Rattle.account_book.specs.Fleets.{moved}
use Rattle.fleet.specs.Reaches.{reach, reaches}
use Rattle.fleet.proofs.Entered.{site_elsewhere, site_reached}
use Rattle.fleet.specs.Sites.{site, sites, moved as site_moved}
use Rattle.account_book.specs.Taking.{request_counts}

-- the count that a call comes with there
pub count_here : (config : Config) (h : List Entry) (e : ℕ) → 1 ≤ e → e ≤ length (owners config)
    → numbered 0 (request_counts config h) (function_of config e) ≡ requests h (function_of config e)
count_here config h e low high =
    let owner = owner_is_function config e low high in
    numbered_is 0 (requests h) (length config.functions) (function_of config e) owner.0 owner.1

-- one that is reached
pub site_here : (config : Config) (h : List Entry) (entry : Entry) (e : ℕ) → IsLegal config h → Follows config h entry
    → 1 ≤ e → e ≤ length (owners config) → reaches (reach h entry.place entry.call) e ≡ true
    → site config (entry ∷ h) e ≡ moved (length h) entry.moment (request_counts config (entry ∷ h)) entry.call (site config h e)
site_here config h entry e l w low high here =
    site_reached config h entry e l w here
    ∙ ap (λ (n : ℕ). site_moved (step_at h entry n) entry.call (site config h e)) (sym (count_here config (entry ∷ h) e low high))

eqb_other : (d e : ℕ) → d ≢ e → (e == d) ≡ false
eqb_other d e ne = grind (arith, nat_tests, ne)

-- the environments after an entry that reaches none of them,
pub sites_nowhere : (config : Config) (h : List Entry) (entry : Entry) → IsLegal config h → Follows config h entry
    → reach h entry.place entry.call ≡ Nowhere → sites config (entry ∷ h) ≡ sites config h
sites_nowhere config h entry l w r =
    all_same (site config (entry ∷ h)) (site config h) 1 (length (owners config))
    (λ d le. site_elsewhere config h entry d l w (ap (λ (x : Reach). reaches x d) r))

-- one of them,
pub sites_at : (config : Config) (h : List Entry) (entry : Entry) (e : ℕ) → IsLegal config h → Follows config h entry
    → reach h entry.place entry.call ≡ At e → 1 ≤ e → e ≤ length (owners config)
    → sites config (entry ∷ h) ≡ set (sites config h) (e - 1) (moved (length h) entry.moment (request_counts config (entry ∷ h)) entry.call (site config h e))
sites_at config h entry e l w r low high =
    let back : 1 + (e - 1) ≡ e = omega (arith, low) in
    one_changes (site config (entry ∷ h)) (site config h) 1 (length (owners config)) (e - 1)
    (λ d ne. site_elsewhere config h entry d l w (ap (λ (x : Reach). reaches x d) r ∙ eqb_other d e (λ q. ne (q ∙ sym back))))
    (omega (arith, low, high))
    ∙ ap (set (sites config h) (e - 1))
    (ap (site config (entry ∷ h)) back ∙ site_here config h entry e l w low high (ap (λ (x : Reach). reaches x e) r ∙ eqb-self e))

-- or all.
pub sites_everywhere : (config : Config) (h : List Entry) (entry : Entry) → IsLegal config h → Follows config h entry
    → reach h entry.place entry.call ≡ Everywhere
    → sites config (entry ∷ h) ≡ map (moved (length h) entry.moment (request_counts config (entry ∷ h)) entry.call) (sites config h)
sites_everywhere config h entry l w r =
    each 1 (length (owners config)) (omega arith) (omega arith)
    ∙ map_map (moved (length h) entry.moment (request_counts config (entry ∷ h)) entry.call) (site config h) (environments config)
  where
    each : (a n : ℕ) → 1 ≤ a → a + n ≤ 1 + length (owners config)
        → map (site config (entry ∷ h)) (count_from a n) ≡ map (λ e. moved (length h) entry.moment (request_counts config (entry ∷ h)) entry.call (site config h e)) (count_from a n)
    each a zero low high = refl
    each a (suc n) low high =
        ap₂ ◌∷◌ (site_here config h entry a l w low (omega (arith, high)) (ap (λ (x : Reach). reaches x a) r)) (each (suc a) n (omega (arith, low)) (omega (arith, high)))

-- What an entry makes of each environment that a follower keeps.
use Rattle.std.proofs.Common.{◌≡◌, ℕ, get_or, ◌+◌, ◌≤◌, ◌^◌, Bool, true, false, List, ◌∷◌, length, map, cond, All, refl}
use Rattle.std.proofs.Common.{sym, ap, ap₂, ◌∙◌, arith, if◌then◌else◌}
use Rattle.arn_ids.specs.declared.config.Config.{Config}
use Rattle.arn_ids.specs.Environments.{environments, function_of}
use Rattle.call_types.specs.declared.call.Entry.{Entry}
use Rattle.call_model.specs.History.{is_invoke_of, requests}
use Rattle.call_model.specs.Life.{phase, seen}
use Rattle.call_model.specs.Next.{IsLegal}
use Rattle.std.proofs.lemmas.List.Elements.{All-map}
use Rattle.std.proofs.lemmas.List.Sums.{count_by-le-length}
use Rattle.call_model.proofs.Basics.{count_cons, map_map, map_same}
use Rattle.environment_step.specs.After.{step_at}
use Rattle.trace.specs.declared.follower.followed.Followed.{Followed}
use Rattle.fleet.specs.Reaches.{reach, reaches}
use Rattle.fleet.specs.Sites.{site as site_of, moved}
use Rattle.fleet.specs.declared.site.Site.{Site}
use Rattle.fleet.proofs.Entered.{site_elsewhere, site_reached, few_site}
use Rattle.trace.specs.Sites.{site, sites, counted, step, visited_by, IsFew}

-- ---- one environment

if_cond : (b : Bool) (n : ℕ) → (if b then 1 else 0) + n ≡ cond b 1 0 + n
if_cond true n = refl
if_cond false n = refl

counted_is : (config : Config) (h : List Entry) (entry : Entry) (e : ℕ) → counted entry.call (site config h e) ≡ requests (entry ∷ h) (function_of config e)
counted_is config h entry e =
    if_cond (is_invoke_of (function_of config e) entry.call) (requests h (function_of config e))
    ∙ sym (count_cons (λ (x : Entry). is_invoke_of (function_of config e) x.call) entry h)

pick : (b : Bool) (x y z : Site) → (b ≡ true → x ≡ z) → (b ≡ false → y ≡ z) → (if b then x else y) ≡ z
pick true x y z there away = there refl
pick false x y z there away = away refl

site_is : (config : Config) (h : List Entry) (entry : Entry) (e : ℕ) → IsLegal config (entry ∷ h)
    → (if reaches (reach h entry.place entry.call) e then moved (step (length h) entry.moment entry.call (site config h e)) entry.call (site_of config h e) else site_of config h e) ≡ site_of config (entry ∷ h) e
site_is config h entry e l =
    pick (reaches (reach h entry.place entry.call) e) _ _ _
    (λ here. ap (λ (n : ℕ). moved (step_at h entry n) entry.call (site_of config h e)) (counted_is config h entry e) ∙ sym (site_reached config h entry e l.0 l.1 here))
    (λ away. sym (site_elsewhere config h entry e l.0 l.1 away))

visit_one : (config : Config) (h : List Entry) (entry : Entry) (e : ℕ) → IsLegal config (entry ∷ h)
    → visited_by (length h) entry.moment (reach h entry.place entry.call) entry.call (site config h e) ≡ site config (entry ∷ h) e
unfolding seen
visit_one config h entry e l =
    ap₂ (λ (n : ℕ) (k : Site). let s : Followed = record { number = e; requests = n; before = phase config h e; site = k } in s)
    (counted_is config h entry e) (site_is config h entry e l)

-- all environments
pub visit_sites : (config : Config) (h : List Entry) (entry : Entry) → IsLegal config (entry ∷ h)
    → map (visited_by (length h) entry.moment (reach h entry.place entry.call) entry.call) (sites config h) ≡ sites config (entry ∷ h)
visit_sites config h entry l =
    sym (map_map (visited_by (length h) entry.moment (reach h entry.place entry.call) entry.call) (site config h) (environments config))
    ∙ map_same
    (λ (e : ℕ). visited_by (length h) entry.moment (reach h entry.place entry.call) entry.call (site config h e))
    (site config (entry ∷ h)) (λ e. visit_one config h entry e l) (environments config)

-- ---- how far the counts go

pub few_sites : (config : Config) (h : List Entry) → IsLegal config h → length h ≤ 2 ^ 32 → All IsFew (sites config h)
few_sites config h l short = All-map IsFew (site config h) (environments config) (λ i d lt. few (get_or (environments config) i d))
  where
    few : (e : ℕ) → IsFew (site config h e)
    few e = (few_site config h e l short, omega (arith, count_by-le-length (λ (x : Entry). is_invoke_of (function_of config e) x.call) h, short))

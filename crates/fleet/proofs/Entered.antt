-- What an entry makes of each environment.
use Rattle.std.proofs.Common.{◌≡◌, ℕ, ◌≤◌, ◌^◌, Bool, true, false, List, ◌∷◌, length, Option, Some, None, refl, sym, ap, ◌∙◌, arith, ◌||◌, ◌==◌}
use Rattle.arn_ids.specs.declared.config.Config.{Config}
use Rattle.arn_ids.specs.Environments.{function_of}
use Rattle.call_types.specs.declared.call.Call.{Call}
use Rattle.call_types.specs.declared.call.Call.TheVariants.{Invoke, RuntimeNext, Response, ResponseTooLarge, Failure}
use Rattle.call_types.specs.declared.call.Call.TheVariants.{InitFailure, Register, ExtNext, ExtInitFailure}
use Rattle.call_types.specs.declared.call.Call.TheVariants.{ExtExitFailure, Tick, Withdraw, Spindown, Stop, Expire}
use Rattle.call_types.specs.declared.call.Call.TheVariants.{Reserve}
use Rattle.call_types.specs.declared.call.Entry.{Entry}
use Rattle.call_model.specs.History.{call_of, poll_env}
use Rattle.call_model.specs.Life.{concerns, names}
use Rattle.call_model.specs.Limits.{place_for}
use Rattle.call_model.specs.Next.{IsLegal, Follows, IsTimely}
use Rattle.call_model.specs.Stand.{is_number}
use Rattle.environment_step.specs.After.{Known, fixed_of}
use Rattle.environment_step.proofs.Frame.{stand_elsewhere}
use Rattle.env_phase.specs.Meeting.{step_there}
use Rattle.env_phase.proofs.Extent.{little}
use Rattle.env_phase.proofs.Meets.{takes}
use Rattle.fleet.specs.Reaches.{at_most, reach, reaches}
use Rattle.fleet.specs.Sites.{site, moved, IsFew}
use Rattle.fleet.specs.declared.site.Site.{Site}

-- ---- the environments that an entry concerns are those that it reaches

at_most_is : (o : Option ℕ) (d : ℕ) → is_number o d ≡ reaches (at_most o) d
at_most_is None d = refl
at_most_is (Some e) d = refl

or_none : (b : Bool) → (b || false) ≡ b
or_none true = refl
or_none false = refl

pub concerns_reach : (config : Config) (h : List Entry) (entry : Entry) (d : ℕ) → Follows config h entry
    → concerns h d entry ≡ reaches (reach h entry.place entry.call) d
concerns_reach config h entry d w = go entry.call entry.place w.place
  where
    go : (call : Call) (place : Option ℕ) → place ≡ place_for config h call → (is_number place d || names h d call) ≡ reaches (reach h place call) d
    go (Invoke f qualified trace body) None q = refl
    go (Invoke f qualified trace body) (Some e) q = or_none (e == d)
    go Stop place q = rw q refl
    go (Withdraw t) place q = rw q (at_most_is (poll_env (call_of h t)) d)
    go (RuntimeNext e) place q = rw q refl
    go (Response e id body) place q = rw q refl
    go (ResponseTooLarge e id) place q = rw q refl
    go (Failure e id body) place q = rw q refl
    go (InitFailure e body) place q = rw q refl
    go (Register e name invoke shutdown account) place q = rw q refl
    go (ExtNext e x) place q = rw q refl
    go (ExtInitFailure e x body) place q = rw q refl
    go (ExtExitFailure e x body) place q = rw q refl
    go Tick place q = rw q refl
    go (Spindown e) place q = rw q refl
    go (Expire e) place q = rw q refl
    go (Reserve f count) place q = rw q refl

-- ---- after the entry, each environment is that of the longer history

abbrev with_environment : Config → ℕ → Known → Site
with_environment config e k = record { function = function_of config e; environment = k }

-- one that the entry does not reach stays as it is,
pub site_elsewhere : (config : Config) (h : List Entry) (entry : Entry) (e : ℕ) → IsLegal config h
    → Follows config h entry → reaches (reach h entry.place entry.call) e ≡ false
    → site config (entry ∷ h) e ≡ site config h e
site_elsewhere config h entry e l w away =
    ap (λ s. with_environment config e (record { fixed = fixed_of config e; stand = s }))
    (stand_elsewhere IsTimely config h entry e l w (concerns_reach config h entry e w ∙ away))

-- and one that it reaches takes its call
pub site_reached : (config : Config) (h : List Entry) (entry : Entry) (e : ℕ) → IsLegal config h
    → Follows config h entry → reaches (reach h entry.place entry.call) e ≡ true
    → site config (entry ∷ h) e ≡ moved (step_there config h entry e) entry.call (site config h e)
site_reached config h entry e l w here =
    ap (with_environment config e) (sym (takes config h entry e (l, w) (concerns_reach config h entry e w ∙ here)))

-- ---- how far the counts go

pub few_site : (config : Config) (h : List Entry) (e : ℕ) → IsLegal config h → length h ≤ 2 ^ 32 → IsFew (site config h e)
few_site config h e l short = let k = little config h e l in (omega (arith, k.events, short), omega (arith, k.registrations, short))

-- What an account says to an Invoke and to a Reserve.
use Rattle.std.proofs.Common.{◌≡◌, ℕ, ◌≤◌, true, false, Bool, List, length, map, Option, sym, ap, ap₂, ◌∙◌, if◌then◌else◌}
use Rattle.arn_ids.specs.declared.config.Config.{Config}
use Rattle.call_types.specs.declared.answer.Answer.TheVariants.{Stopped}
use Rattle.call_types.specs.declared.call.Entry.{Entry}
use Rattle.call_model.specs.Answers.{reserve_answer}
use Rattle.call_model.specs.History.{stopped}
use Rattle.call_model.specs.Limits.{AfterStop, verdict, by_limits, reservation}
use Rattle.concurrency_pool.specs.Meets.{numbers, by_throttle, by_reserve}
use Rattle.concurrency_pool.specs.Numbers.{Numbers}
use Rattle.concurrency_pool.specs.Pools.{throttle, may_reserve}
use Rattle.concurrency_pool.proofs.History as pool
use Rattle.placement.specs.Places.{place_among}
use Rattle.fleet.specs.declared.site.Site.{Site}
use Rattle.account_book.specs.Fleets.{site_place}
use Rattle.fleet.specs.Sites.{sites}
use Rattle.account_book.proofs.FleetMeets.{limits_are}

pub verdict_stopped : (config : Config) (h : List Entry) (f : ℕ) → stopped h ≡ true → verdict config h f ≡ AfterStop
unfolding verdict
verdict_stopped config h f q = ap (λ (b : Bool). if b then AfterStop else by_limits config h f (reservation config h f)) q

pub verdict_open : (config : Config) (h : List Entry) (f : ℕ) (p : Numbers) (all : List Site) → 1 ≤ f
    → f ≤ length config.functions → p ≡ numbers config h → all ≡ sites config h → stopped h ≡ false
    → verdict config h f ≡ by_throttle (throttle p f) (place_among (map site_place all) f)
unfolding verdict
verdict_open config h f p all low high is are q =
    ap (λ (b : Bool). if b then AfterStop else by_limits config h f (reservation config h f)) q
    ∙ limits_are config h f low high
    ∙ ap₂ (λ (n : Numbers) (ss : List Site). by_throttle (throttle n f) (place_among (map site_place ss) f)) (sym is) (sym are)

pub reserve_open : (config : Config) (h : List Entry) (f : ℕ) (count : Option ℕ) (p : Numbers) (b : Bool) → 1 ≤ f
    → f ≤ length config.functions → p ≡ numbers config h → stopped h ≡ false → may_reserve p f count ≡ b
    → (if stopped h then Stopped else reserve_answer config h f count) ≡ by_reserve b count
reserve_open config h f count p b low high is q r =
    ap (λ (x : Bool). if x then Stopped else reserve_answer config h f count) q
    ∙ pool.reserve_is config h f count low high
    ∙ ap (λ (x : Bool). by_reserve x count) (ap (λ (n : Numbers). may_reserve n f count) (sym is) ∙ r)

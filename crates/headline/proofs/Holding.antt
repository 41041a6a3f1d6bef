-- The headline holds of every legal history.
use Rattle.std.proofs.Common.{◌≡◌, ℕ, true, false, List, [], ◌∷◌, ◌++◌, Some, None, ap, ap₂, refl, subst, sym, ◌∙◌, ◌||◌}
use Rattle.arn_ids.specs.Faults.{first_fault}
use Rattle.arn_ids.specs.declared.config.Config.{Config}
use Rattle.arn_ids.proofs.Bounds.{reserved_within}
use Rattle.call_types.specs.declared.answer.Throttle.TheVariants.{Environments as ByEnvironments}
use Rattle.call_types.specs.declared.call.Call.TheVariants.{Tick}
use Rattle.call_types.specs.declared.call.Entry.{Entry}
use Rattle.call_types.specs.declared.stats.Stats.{Stats}
use Rattle.call_model.specs.Counts.{stats}
use Rattle.call_model.specs.Laws.{admits}
use Rattle.call_model.specs.Life.{concerns, names, stand}
use Rattle.call_model.specs.Limits.{place_for, reservation, verdict, Refuses}
use Rattle.call_model.specs.Next.{FollowsBy, IsLegal, IsLegalBy, Rule}
use Rattle.call_model.specs.Stand.{is_number}
use Rattle.call_model.proofs.AdmissionLimits.{within_reservation, within_remainder}
use Rattle.call_model.proofs.NoLocalRefusal.{never_crowded}
use Rattle.environment_step.proofs.Frame.{stand_elsewhere}
use Rattle.headline.specs.Headline.{Headline, IsWithinLimits}
use Rattle.headline.proofs.Fates.{one_fate}

-- what a legal history was at each entry is legal
legal_then : (config : Config) (later h : List Entry) → IsLegal config (later ++ h) → IsLegal config h
legal_then config [] h l = l
legal_then config (entry ∷ later) h l = legal_then config later h l.0

within : (config : Config) (h : List Entry) (entry : Entry) (f : ℕ) → IsLegal config (entry ∷ h) → admits f entry ≡ true → IsWithinLimits config h entry f
within config h entry f l a = record {
  reserved = λ limit r. within_reservation config h entry f limit l a r;
  unreserved = λ r. within_remainder config h entry f l a r;
}

pub holds : (config : Config) (h : List Entry) → IsLegal config h → Headline config h (stats config h)
holds config h l = record {
  legal = l;
  fates = λ p e at. one_fate config h p e l at;
  limits = λ later earlier entry f is a. within config earlier entry f (legal_then config later (entry ∷ earlier) (subst (λ k. IsLegal config k) is l)) a;
  counts = refl;
}

pub never_local : (config : Config) (h : List Entry) (f limit : ℕ) → first_fault config ≡ None → IsLegal config h
    → reservation config h f ≡ Some limit → verdict config h f ≡ Refuses ByEnvironments → ⊥
never_local config h f limit sound l r v = never_crowded config h f limit l (λ n is. reserved_within config f n sound is) r v

-- a Tick is placed nowhere and names no environment
tick_elsewhere : (rule : Rule) (config : Config) (h : List Entry) (e : ℕ) (entry : Entry)
    → FollowsBy rule config h entry → entry.call ≡ Tick → concerns h e entry ≡ false
tick_elsewhere rule config h e entry l is = ap₂ (λ place call. is_number place e || names h e call) (l.place ∙ ap (place_for config h) is) is

pub tick_leaves : (rule : Rule) (config : Config) (h : List Entry) (entry : Entry) (e : ℕ)
    → IsLegalBy rule config (entry ∷ h) → entry.call ≡ Tick → stand config (entry ∷ h) e ≡ stand config h e
tick_leaves rule config h entry e l is = stand_elsewhere rule config h entry e l.0 l.1 (tick_elsewhere rule config h e entry l.1 is)

-- the same under another name of the configuration
pub holds_as : (config other : Config) (h : List Entry) (told : Stats) → config ≡ other → IsLegal config h → told ≡ stats other h → Headline other h told
holds_as config other h told same l is = subst (λ t. Headline other h t) (sym is) (holds other h (subst (λ k. IsLegal k h) same l))

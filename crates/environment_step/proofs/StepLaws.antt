-- The step of an environment: its stand after an entry that concerns it, and the answers that the entry gives there.
use Rattle.std.proofs.Common.{◌≡◌, ℕ, true, List, ◌∷◌, filter, ◌∙◌, ap}
use Rattle.call_types.specs.declared.call.Entry.{Entry}
use Rattle.arn_ids.specs.declared.config.Config.{Config}
use Rattle.call_model.specs.Life.{stand, concerns, seen}
use Rattle.call_model.specs.Next.{IsLegal, Follows}
use Rattle.environment_step.specs.After.{fixed_of, step_at, count_at, moves_of, stand_after, with_events}
use Rattle.environment_step.proofs.FirstMoves.{is_here}
use Rattle.environment_step.proofs.NumberedMoves.{moves_meet, events_meet}
use Rattle.environment_step.proofs.EventTickets.{are_named}
use Rattle.environment_step.proofs.SecondStage.{stand_meets}

-- The entry's answers to the environment's tickets.
pub moves_are : (config : Config) (h : List Entry) (entry : Entry) (e : ℕ) → IsLegal config h → Follows config h entry → concerns h e entry ≡ true
    → filter (λ a. is_here (entry ∷ h) e a.0) entry.answers ≡ moves_of (fixed_of config e) (step_at h entry (count_at config h entry e)) (stand config h e) entry.call
moves_are config h entry e l w c = moves_meet config h entry e l w c (are_named config h entry e l w)

-- How many events were told.
pub events_are : (config : Config) (h : List Entry) (entry : Entry) (e : ℕ) → IsLegal config h → Follows config h entry → concerns h e entry ≡ true
    → (stand config (entry ∷ h) e).events ≡ (stand_after (fixed_of config e) (step_at h entry (count_at config h entry e)) (stand config h e) entry.call).events
events_are config h entry e l w c = events_meet config h entry e l w c (are_named config h entry e l w)

-- The stand after the entry is the one that stand_after makes of the stand before.
pub stand_is : (config : Config) (h : List Entry) (entry : Entry) (e : ℕ) → IsLegal config h → Follows config h entry → concerns h e entry ≡ true
    → stand config (entry ∷ h) e ≡ stand_after (fixed_of config e) (step_at h entry (count_at config h entry e)) (stand config h e) entry.call
unfolding seen
stand_is config h entry e l w c =
    stand_meets config h entry e l w c
    ∙ ap
    (λ (n : ℕ). with_events n (stand_after (fixed_of config e) (step_at h entry (count_at config h entry e)) (stand config h e) entry.call))
    (events_are config h entry e l w c)

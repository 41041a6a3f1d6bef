-- The environment of a ticket after one more entry, and the answers past it.
use Rattle.std.proofs.Common.{◌≡◌, ℕ, ◌<◌, ◌∷◌, List, None, length, refl, ap, ◌∙◌}
use Rattle.arn_ids.specs.declared.config.Config.{Config}
use Rattle.call_types.specs.declared.call.Entry.{Entry}
use Rattle.call_model.specs.Answers.{home}
use Rattle.call_model.specs.History.{answer_in, or_else}
use Rattle.call_types.specs.Calls.{env_of}
use Rattle.call_model.specs.Next.{Follows}
use Rattle.call_model.proofs.AfterEntry.{call_of_new, call_of_old, place_of_new, place_of_old}
use Rattle.call_model.proofs.Once.{answers_past}

pub home_old : (entry : Entry) (h : List Entry) (t : ℕ) → t < length h → home (entry ∷ h) t ≡ home h t
home_old entry h t lt = rw (call_of_old entry h t lt, place_of_old entry h t lt) refl

pub home_new : (entry : Entry) (h : List Entry) → home (entry ∷ h) (length h) ≡ or_else entry.place (env_of entry.call)
home_new entry h = rw (call_of_new entry h, place_of_new entry h) refl

pub past : (config : Config) (h : List Entry) (entry : Entry) (t : ℕ) → Follows config h entry → length h < t → answer_in entry.answers t ≡ None
past config h entry t w lt = ap (λ xs. answer_in xs t) w.answers ∙ answers_past config h entry.moment entry.call t lt

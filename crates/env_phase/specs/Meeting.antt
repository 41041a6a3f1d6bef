-- An environment after a history, and what an entry means for it.
use Rattle.std.specs.Prelude.{ℕ, List, ◌∷◌, filter}
use Rattle.arn_ids.specs.declared.config.Config.{Config}
use Rattle.call_types.specs.declared.answer.Answer.{Answer}
use Rattle.call_types.specs.declared.call.Entry.{Entry}
use Rattle.call_model.specs.Answers.{home}
use Rattle.call_model.specs.Life.{stand}
use Rattle.call_model.specs.Stand.{is_number}
use Rattle.environment_step.specs.After.{Known, Step, count_at, fixed_of, step_at}

-- The environment with a number, after a history.
abbrev pub known_at : Config → List Entry → ℕ → Known
known_at config h e = record { fixed = fixed_of config e; stand = stand config h e }

-- The step of an entry at an environment.
abbrev pub step_there : Config → List Entry → Entry → ℕ → Step
step_there config h entry e = step_at h entry (count_at config h entry e)

-- The answers of an entry to tickets of an environment.
abbrev pub answers_there : List Entry → Entry → ℕ → List (ℕ × Answer)
answers_there h entry e = filter (λ a. is_number (home (entry ∷ h) a.0) e) entry.answers

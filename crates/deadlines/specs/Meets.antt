-- What the deadlines are after a history.
use Rattle.std.specs.Prelude.{ℕ, List, Option, map}
use Rattle.arn_ids.specs.declared.config.Config.{Config}
use Rattle.arn_ids.specs.Environments.{environments}
use Rattle.call_types.specs.declared.call.Entry.{Entry}
use Rattle.call_model.specs.Life.{phase}
use Rattle.call_model.specs.Next.{deadline_of}

-- The deadline of each environment's phase, in the order of the environments' numbers.
abbrev pub deadlines : Config → List Entry → List (Option ℕ)
deadlines config h = map (λ e. deadline_of (phase config h e)) (environments config)

-- The requests whose calls were taken, in their order.
use Rattle.std.specs.Prelude.{ℕ, ◌-◌, List, [], ◌∷◌, length}
use Rattle.arn_ids.specs.declared.config.Config.{Config}
use Rattle.call_types.specs.declared.call.Call.{Call}
use Rattle.account_book.specs.Reached.{led_to}

-- The ticket of each call that was handed in, the newest first: that of the newest entry when the call was taken.
abbrev pub tickets_of : Config → List (ℕ × Call) → List ℕ
tickets_of config [] = []
tickets_of config (c ∷ calls) = (length (led_to config (c ∷ calls)) - 1) ∷ tickets_of config calls

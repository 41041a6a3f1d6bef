-- What the places are after a history.
use Rattle.std.specs.Prelude.{ℕ, List, map}
use Rattle.arn_ids.specs.declared.config.Config.{Config}
use Rattle.arn_ids.specs.Environments.{environments, function_of}
use Rattle.call_types.specs.declared.call.Entry.{Entry}
use Rattle.call_model.specs.Life.{phase}
use Rattle.placement.specs.declared.places.Place.{Place}
use Rattle.placement.specs.Class.{class_of}

-- An environment's function, and the class of its phase.
abbrev pub place_of : Config → List Entry → ℕ → Place
place_of config h e = record { function = function_of config e; class = class_of (phase config h e) }

-- The places of all environments, in the order of their numbers.
abbrev pub places : Config → List Entry → List Place
places config h = map (place_of config h) (environments config)

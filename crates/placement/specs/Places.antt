-- Which environment takes an invocation, from a list of environments with their functions and classes.
use Rattle.std.specs.Prelude.{ℕ, suc, Bool, ◌&&◌, ◌==◌, List, map, Option, option_map}
use Rattle.std.specs.List.{position}
use Rattle.arn_ids.specs.declared.config.Config.{Config}
use Rattle.arn_ids.specs.Environments.{environments, function_of, numbered}
use Rattle.call_model.specs.History.{or_else}
use Rattle.placement.specs.declared.class.Class.{Class}
use Rattle.placement.specs.declared.class.Class.TheVariants.{Idle, StartingFree, ClosingFree, Taken}
use Rattle.placement.specs.declared.places.Place.{Place}
use Rattle.placement.specs.Class.{is_class}

-- The place that stands in for an environment that does not exist: it belongs to no function.
abbrev pub no_place : Place
no_place = record { function = 0; class = Taken }

-- The place with a number.
abbrev pub place_at : List Place → ℕ → Place
place_at places e = numbered no_place places e

-- Every environment of a configuration, in phase Starting and without a bound invocation.
abbrev pub opened : Config → List Place
opened config = map (λ e. record { function = function_of config e; class = StartingFree }) (environments config)

-- Whether an environment belongs to a function and has a class.
abbrev pub is_of : ℕ → Class → Place → Bool
is_of f class place = (place.function == f) && is_class class place.class

-- The lowest number of an environment of a function and a class, if there is one.
abbrev pub lowest_of : ℕ → Class → List Place → Option ℕ
lowest_of f class places = option_map suc (position (is_of f class) places)

-- The environment that takes the function's next invocation: its lowest-numbered Idle one; if there is none, its
-- lowest-numbered Starting one without a bound invocation; if there is none either, such a Closing one. `None` if there
-- is no such environment.
unfoldable pub place_among : List Place → ℕ → Option ℕ
place_among places f =
    or_else (lowest_of f Idle places) (or_else (lowest_of f StartingFree places) (lowest_of f ClosingFree places))

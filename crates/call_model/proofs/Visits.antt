-- An entry's visit to an environment, and the life after it by the two tests that decide it.
use Rattle.std.proofs.Common.{ℕ, Bool, List, if◌then◌else◌}
use Rattle.call_types.specs.declared.call.Entry.{Entry}
use Rattle.arn_ids.specs.declared.config.Config.{Config}
use Rattle.call_model.specs.Life.{Lifecycle, Visit, life, after, new_generation, settled_life}

-- the visit that finds a life
abbrev pub visit_from : Config → List Entry → ℕ → Entry → Lifecycle → Visit
visit_from config h e entry found = record { config = config; environment = e; history = h; found = found; entry = entry }

-- the visit of the entry that comes after a history
abbrev pub visit : Config → List Entry → ℕ → Entry → Visit
visit config h e entry = visit_from config h e entry (life config h e)

-- the life after it, by whether the entry concerns the environment
abbrev pub if_concerned : Bool → Visit → Lifecycle
if_concerned b v = if b then after v else v.found

-- the life after one that concerns it, by whether a Closing ends
abbrev pub if_ended : Bool → Visit → Lifecycle
if_ended b v = if b then new_generation v else settled_life v

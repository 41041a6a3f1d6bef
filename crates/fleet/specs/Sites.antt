-- The environments of an account after a history, and what a call makes of one that it reaches.
use Rattle.std.specs.Prelude.{ℕ, ◌<◌, ◌^◌, List, map}
use Rattle.arn_ids.specs.declared.config.Config.{Config}
use Rattle.arn_ids.specs.Environments.{environments, function_of}
use Rattle.call_types.specs.declared.call.Call.{Call}
use Rattle.call_types.specs.declared.call.Entry.{Entry}
use Rattle.call_model.specs.Life.{stand}
use Rattle.environment_step.specs.After.{Step, fixed_of}
use Rattle.env_phase.specs.Taking.{taken}
use Rattle.fleet.specs.declared.site.Site.{Site}

-- An environment in its state after a history, with the number of its function.
abbrev pub site : Config → List Entry → ℕ → Site
site config h e = record {
  function = function_of config e;
  environment = record { fixed = fixed_of config e; stand = stand config h e };
}

-- All environments in their states after a history, in the order of their numbers.
abbrev pub sites : Config → List Entry → List Site
sites config h = map (site config h) (environments config)

-- An environment after a call.
abbrev pub moved : Step → Call → Site → Site
moved step call site = record site { environment = taken site.environment step call }

-- The environment's counts of events and of registrations are below 2^52, so that there is room for more.
abbrev pub IsFew : Site → Type 0
IsFew site = (site.environment.stand.events < 2 ^ 52) × (site.environment.stand.registrations < 2 ^ 52)

-- There are as many ports as environments.
use Rattle.std.proofs.Common.{◌≡◌, ℕ, suc, List, [], ◌∷◌, length, flat_map, arith, refl, length-append}
use Rattle.std.proofs.Math.ListN.{length-map}
use Rattle.arn_ids.specs.Environments.{owners, owners_from}
use Rattle.arn_ids.specs.declared.config.Config.{Config}
use Rattle.arn_ids.specs.declared.config.Function.{Function}
use Rattle.http_front.specs.Ports.{ports_of, environment_ports}

ports_from : (f : ℕ) (functions : List Function)
    → length (flat_map (λ (function : Function). ports_of function.slots) functions) ≡ length (owners_from f functions)
ports_from f [] = refl
ports_from f (function ∷ functions) = simp (length-append, length-map) (omega (arith, ports_from (suc f) functions))

pub as_many_ports : (config : Config) → length (environment_ports config) ≡ length (owners config)
as_many_ports config = ports_from 1 config.functions

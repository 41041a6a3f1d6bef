-- The ports of a host, and the decider at each.
use Rattle.std.specs.Prelude.{ℕ, zero, suc, List, [], ◌∷◌, ◌++◌, length, map, Option, Some, None}
use Rattle.arn_ids.specs.Environments.{owners, function_of}
use Rattle.arn_ids.specs.declared.config.Config.{Config}
use Rattle.http_routes.specs.Decisions.{Served}
use Rattle.service_port.specs.declared.port.Port.{Port}
use Rattle.service_port.specs.declared.port.Port.TheVariants.{Account, Environment, Handled}
use Rattle.http_front.specs.declared.ports.listener.Listener.{Listener}

-- The decider at the port of a port.
abbrev pub served : Config → ℕ → Port → Served
served config salt port = record { config = config; salt = salt; port = port }

-- The function of the environment whose port a port is, `None` at a callers' port.
abbrev pub function_at : Config → Port → Option ℕ
function_at config Account = None
function_at config (Environment e) = Some (function_of config e)
function_at config (Handled number) = None

-- The deciders at the ports of these listeners, in their order.
abbrev pub all_served : {S : Type 0} → List (Listener S) → List Served
all_served listeners = map (λ listener. listener.served) listeners

-- The deciders at the ports of the first n environments, in the order of their numbers.
abbrev pub served_environments : Config → ℕ → ℕ → List Served
served_environments config salt zero = []
served_environments config salt (suc n) = served_environments config salt n ++ (served config salt (Environment (suc n)) ∷ [])

-- The deciders at these ports of handlers, in their order.
abbrev pub served_handled : Config → ℕ → List ℕ → List Served
served_handled config salt ports = map (λ number. served config salt (Handled number)) ports

-- The deciders at the ports of a host: one for the account, one for each environment, and one for each of these ports
-- of handlers.
abbrev pub all_served_of : Config → ℕ → List ℕ → List Served
all_served_of config salt ports =
    served config salt Account
    ∷ (served_environments config salt (length (owners config)) ++ served_handled config salt ports)

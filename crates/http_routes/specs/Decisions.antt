-- The decision on a request.
use Rattle.std.specs.Prelude.{ℕ, List}
use Rattle.http.specs.declared.request.Parts.{Parts}
use Rattle.arn_ids.specs.declared.config.Config.{Config}
use Rattle.call_types.specs.Within.{IsEnv}
use Rattle.decisions.specs.declared.decide.Decision.{Decision}
use Rattle.http_routes.specs.EnvironmentDecisions.{environment_decision}
use Rattle.http_routes.specs.AccountDecisions.{account_decision}
use Rattle.http_routes.specs.Refusals.{refused}
use Rattle.http_routes.specs.declared.refusals.Cause.TheVariants.{NoHandler}
use Rattle.service_port.specs.declared.port.Port.{Port}
use Rattle.service_port.specs.declared.port.Port.TheVariants.{Account, Environment, Handled}

-- A port of the service: its configuration, its salt for identifiers, and whose port it is.
pub record Served : Type 0 where
  pub config : Config
  pub salt : ℕ
  pub port : Port

-- A port of a service with this configuration: the account's, that of a configured environment, or one of handlers.
abbrev pub IsPortOf : Config → Port → Type 0
IsPortOf config Account = Unit {0}
IsPortOf config (Environment e) = IsEnv config e
IsPortOf config (Handled number) = Unit {0}

-- The decision on a request on a port. At one of handlers, the service itself has only one answer: that none is there.
abbrev pub decision_on : Config → ℕ → Port → Parts → List ℕ → Decision
decision_on config salt Account p body = account_decision config p body
decision_on config salt (Environment e) p body = environment_decision config salt e p body
decision_on config salt (Handled number) p body = refused NoHandler

-- The decision on a request, by its head and its body.
abbrev pub decision : Served → Parts → List ℕ → Decision
decision side p body = decision_on side.config side.salt side.port p body

-- The routes that a side keeps are those of its port.
use Rattle.std.specs.Prelude.{◌≡◌}
use Rattle.http_routes.specs.Routes.{environment_rows, account_rows}
use Rattle.service_port.specs.declared.port.Port.{Port}
use Rattle.service_port.specs.declared.port.Port.TheVariants as port
use Rattle.http_routes.specs.declared.side.Routes.{Routes}
use Rattle.http_routes.specs.declared.side.Routes.TheVariants.{Account, Environment, Handled}

-- The port that these are the routes of.
abbrev pub port_of : Routes → Port
port_of (Account router) = port.Account
port_of (Environment e router) = port.Environment e
port_of (Handled number) = port.Handled number

-- All routes of that port are there.
abbrev pub AreWhole : Routes → Type 0
AreWhole (Account router) = router ≡ account_rows
AreWhole (Environment e router) = router ≡ environment_rows
AreWhole (Handled number) = Unit {0}

-- These are the routes of this port.
abbrev pub AreRoutesOf : Port → Routes → Type 0
AreRoutesOf port routes = (port_of routes ≡ port) × AreWhole routes

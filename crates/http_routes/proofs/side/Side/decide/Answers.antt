use Rattle.std.proofs.Common.{rules}
use Rattle.http_routes.proofs.Allowed.{as_decided}
use Rattle.http_routes.proofs.TooLong.{as_alike}
use Rattle.http_routes.proofs.side.Side.decide.Goals as goal

pub returns-in-Account-clause-allowed : goal.returns-in-Account-clause-allowed
returns-in-Account-clause-allowed c = as_decided c.account_decision.result c.args.self.now c.args.parts.now c.args.body.now (search rules) (search rules)

pub returns-in-Environment-clause-allowed : goal.returns-in-Environment-clause-allowed
returns-in-Environment-clause-allowed c =
    as_decided c.environment_decision.result c.args.self.now c.args.parts.now c.args.body.now (search rules) (search rules)

pub returns-in-Account-clause-alike : goal.returns-in-Account-clause-alike
returns-in-Account-clause-alike c = as_alike c.account_decision.result c.args.self.now c.args.parts.now c.args.body.now (search rules)

pub returns-in-Environment-clause-alike : goal.returns-in-Environment-clause-alike
returns-in-Environment-clause-alike c = as_alike c.environment_decision.result c.args.self.now c.args.parts.now c.args.body.now (search rules)

pub returns-in-Handled-clause-allowed : goal.returns-in-Handled-clause-allowed
returns-in-Handled-clause-allowed c = as_decided c.refused.result c.args.self.now c.args.parts.now c.args.body.now (search rules) (search rules)

pub returns-in-Handled-clause-alike : goal.returns-in-Handled-clause-alike
returns-in-Handled-clause-alike c = as_alike c.refused.result c.args.self.now c.args.parts.now c.args.body.now (search rules)

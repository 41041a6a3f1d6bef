use Rattle.std.proofs.Common.{ap}
use Rattle.arn_ids.specs.Environments.{function_of}
use Rattle.arn_ids.proofs.Bounds.{owner_is_function, timeout_between}
use Rattle.environment_step.specs.After.{Known}
use Rattle.env_phase.proofs.Meets.{opens}
use Rattle.fleet.proofs.site.Site.open.Goals as goal

pub function-requires-clause-from_one : goal.function-requires-clause-from_one
function-requires-clause-from_one c = rw c.function_of-function.ensures ((owner_is_function c.args.config.now c.args.env c.requires.low c.requires.high).0)

pub function-requires-clause-there : goal.function-requires-clause-there
function-requires-clause-there c = rw c.function_of-function.ensures ((owner_is_function c.args.config.now c.args.env c.requires.low c.requires.high).1)

pub open-requires : goal.open-requires
open-requires c =
    let owner = owner_is_function c.args.config.now c.args.env c.requires.low c.requires.high in
    rw (c.function.ensures, c.function_of-function.ensures) ((timeout_between c.args.config.now _ c.requires.sound owner.0 owner.1).1)

pub returns : goal.returns
returns c =
    rw (c.in_ok-open.ensures, c.function.ensures, c.function_of-function.ensures)
    (ap (λ (k : Known). record { function = function_of c.args.config.now c.args.env; environment = k }) (opens c.args.config.now c.args.env c.requires.low c.requires.high))

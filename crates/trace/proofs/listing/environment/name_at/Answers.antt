use Rattle.arn_ids.proofs.Bounds.{owner_is_function}
use Rattle.trace.proofs.listing.environment.name_at.Goals as goal

pub function-requires-clause-from_one : goal.function-requires-clause-from_one
function-requires-clause-from_one c = rw c.function_of.ensures ((owner_is_function c.args.config.now c.args.env c.requires.from_one c.requires.there).0)

pub function-requires-clause-there : goal.function-requires-clause-there
function-requires-clause-there c = rw c.function_of.ensures ((owner_is_function c.args.config.now c.args.env c.requires.from_one c.requires.there).1)

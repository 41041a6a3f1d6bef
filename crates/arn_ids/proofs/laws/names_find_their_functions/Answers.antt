use Rattle.arn_ids.proofs.Bounds.{named_once}
use Rattle.arn_ids.proofs.laws.names_find_their_functions.Goals as goal

pub returns : goal.returns
returns c = named_once c.args.checked.now c.args.function c.functions-functions.ensures.sound c.requires.from_one c.requires.there

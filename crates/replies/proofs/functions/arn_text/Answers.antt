use Rattle.replies.proofs.FieldValues.{arn_fits}
use Rattle.replies.proofs.functions.arn_text.Goals as goal

pub returns-clause-fits : goal.returns-clause-fits
returns-clause-fits c = arn_fits c.args.config.now c.args.call.now c.function_name-name.ensures.sound

use Rattle.std.proofs.Common.{◌∙◌, ◌-◌, sym, arith}
use Rattle.arn_ids.specs.Environments.{no_function}
use Rattle.arn_ids.proofs.Counting.{numbered_at, at_get_or}
use Rattle.arn_ids.proofs.config.Checked.function.Goals as goal

pub returns : goal.returns
returns c =
    let functions = c.args.self.now.functions in
    let found = rw c.functions.ensures.value at c.index-functions-function.is in
    found ∙ sym (numbered_at no_function functions c.args.function c.requires.from_one
    ∙ at_get_or no_function c.index-functions-function.result functions (c.args.function - 1) (omega (arith, c.requires.there)))

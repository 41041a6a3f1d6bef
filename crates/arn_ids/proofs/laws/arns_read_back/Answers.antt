use Rattle.arn_ids.specs.Environments.{function_at}
use Rattle.arn_ids.proofs.Arns.{reads_back}
use Rattle.arn_ids.proofs.Bounds.{account_is, region_is, name_is}
use Rattle.arn_ids.proofs.laws.arns_read_back.Goals as goal

pub returns : goal.returns
returns c =
    let config = c.args.checked.now in
    let none = c.functions-functions.ensures.sound in
    reads_back config.home (function_at config c.args.function).name c.args.qualified
    (account_is config none) (region_is config none) (name_is config c.args.function none c.requires.from_one c.requires.there)

use Rattle.std.proofs.Common.{refl}
use Rattle.call_types.proofs.call.Answers.new.Goals as goal

pub returns : goal.returns
returns c = refl

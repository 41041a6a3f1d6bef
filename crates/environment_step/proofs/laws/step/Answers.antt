use Rattle.call_model.specs.Next.{IsTimely}
use Rattle.environment_step.proofs.Frame.{stand_elsewhere}
use Rattle.environment_step.proofs.StepLaws.{stand_is, moves_are}
use Rattle.environment_step.proofs.Ended as E
use Rattle.environment_step.proofs.laws.step.Goals as goal

pub returns : goal.returns
returns c =
    record { frame = λ config h entry e l q. stand_elsewhere IsTimely config h entry e l.0 l.1 q; stands = λ config h entry e l q. stand_is config h entry e l.0 l.1 q; moves = λ config h entry e l q. moves_are config h entry e l.0 l.1 q; ended = E.ended }

use Rattle.std.proofs.Common.{Some}
use Rattle.call_model.specs.Polls.{delivered}
use Rattle.call_model.specs.Stand.{ExtensionPoll}
use Rattle.environment_step.specs.After.{member_second}
use Rattle.extension_set.proofs.EachExtension.{IsEach}
use Rattle.extension_set.proofs.set.ExtensionSet.take_invoke.Given as goal

abbrev pub invariant-loop-member : goal.invariant-loop-member
invariant-loop-member l =
    IsEach (member_second (Some (l.invoke, l.deadline)))
    (λ x. delivered (Some (l.invoke, l.deadline)) (ExtensionPoll x)) l.member-index l.initial.member-items l.member-items l.initial.moves l.moves

use Rattle.call_model.specs.Stand.{ExtensionPoll}
use Rattle.extension_set.specs.Turns.{member_after, poll_gets_by_turn}
use Rattle.extension_set.proofs.EachExtension.{IsEach}
use Rattle.extension_set.proofs.set.ExtensionSet.take.Given as goal

abbrev pub invariant-loop-member : goal.invariant-loop-member
invariant-loop-member l =
    IsEach (member_after l.turn l.call)
    (λ x. poll_gets_by_turn l.turn l.call (ExtensionPoll x) x.next) l.member-index l.initial.member-items l.member-items l.initial.moves l.moves

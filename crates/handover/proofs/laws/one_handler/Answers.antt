use Rattle.std.proofs.Common.{ℕ, [], arith}
use Rattle.std.specs.List.{Contains}
use Rattle.std.proofs.lemmas.List.Elements.{All-nil, All-contains}
use Rattle.handover.specs.Counters.{opened}
use Rattle.handover.specs.Runs.{End, Answered, run, all_ends, all_hands}
use Rattle.handover.proofs.Counting.{none_given, given_once}
use Rattle.handover.proofs.Hands.{IsByTaker, hands_once, by_takers}
use Rattle.handover.proofs.laws.one_handler.Goals as goal

pub returns-clause-handed_once : goal.returns-clause-handed_once
returns-clause-handed_once c limits events id =
    omega (arith, none_given id, given_once id (run (opened limits) events).next_id, hands_once id (opened limits) events)

pub returns-clause-by_its_own : goal.returns-clause-by_its_own
returns-clause-by_its_own c limits events id handler there =
    All-contains (λ (e : ℕ × End). IsByTaker (all_hands (opened limits) events) e.0 e.1) (all_ends (opened limits) events) (id, Answered handler)
    (by_takers [] (opened limits) events (All-nil (Contains []))) there

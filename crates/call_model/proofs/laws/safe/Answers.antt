use Rattle.call_model.proofs.NextLegal.{legal_next}
use Rattle.call_model.proofs.Once.{once, fresh}
use Rattle.call_model.proofs.DeliveredOnce as D
use Rattle.call_model.proofs.OutcomeDelivered.{outcome_delivered}
use Rattle.call_model.proofs.SafeLaws.{lives_there, lives_only_there, stands_open, stands_alone}
use Rattle.call_model.proofs.SafeLaws as H
use Rattle.call_model.proofs.laws.safe.Goals as goal

pub returns : goal.returns
returns c = record {
  next_is_legal = legal_next;
  lives_in_its_place = lives_there;
  lives_nowhere_else = lives_only_there;
  waits_alone = H.waits_alone;
  answered_bound_nowhere = H.bound_nowhere;
  answered_once = λ config h t l. once config h t l;
  answered_late = fresh;
  delivered_once = D.delivered_once;
  delivered_before = outcome_delivered;
  next_stands_open = stands_open;
  next_stands_alone = stands_alone;
}

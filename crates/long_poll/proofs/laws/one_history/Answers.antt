use Rattle.long_poll.proofs.RepliesStay.{stays, one}
use Rattle.long_poll.proofs.laws.one_history.Goals as goal

pub returns-clause-stays : goal.returns-clause-stays
returns-clause-stays c = stays c.replies_stay.ensures.calls c.replies_stay.ensures.replies

pub returns-clause-one : goal.returns-clause-one
returns-clause-one c = one c.replies_stay.ensures.calls c.replies_stay.ensures.replies

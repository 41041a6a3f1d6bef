use Rattle.call_model.proofs.PastLemmas.{requests_at}
use Rattle.call_model.proofs.laws.counts_are_requests.Goals as goal

pub returns : goal.returns
returns c = requests_at

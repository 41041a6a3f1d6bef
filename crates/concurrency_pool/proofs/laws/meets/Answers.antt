use Rattle.concurrency_pool.proofs.History as history
use Rattle.concurrency_pool.proofs.laws.meets.Goals as goal

pub returns : goal.returns
returns c = record {
  opened = history.opened_is;
  function = history.usage_is;
  remainder = history.remainder_is;
  unreserved = history.unreserved_is;
  in_flight = history.in_flight_is;
  verdict = history.verdict_is;
  reserve = history.reserve_is;
}

use Rattle.std.proofs.Common.{arith}
use Rattle.handover.specs.Counters.{opened}
use Rattle.handover.specs.Runs.{run}
use Rattle.handover.proofs.Counting.{none_given}
use Rattle.handover.proofs.Runs.{one_place, rises}
use Rattle.handover.proofs.laws.one_place.Goals as goal

pub returns-clause-one : goal.returns-clause-one
returns-clause-one c limits events id = omega (arith, none_given id, one_place id (opened limits) events)

pub returns-clause-rises : goal.returns-clause-rises
returns-clause-rises c limits events more = rises (run (opened limits) events) more

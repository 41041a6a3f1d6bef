use Rattle.std.proofs.Common.{refl, arith}
use Rattle.handover.specs.declared.counter.Limits.{Limits}
use Rattle.handover.specs.Counters.{opened}
use Rattle.handover.proofs.Bounds.{IsWithin, within_run}
use Rattle.handover.proofs.laws.bounded.Goals as goal

opened_within : (limits : Limits) → IsWithin limits (opened limits)
opened_within limits = record { same = refl; requests = omega arith; bytes = omega arith }

pub returns-clause-requests : goal.returns-clause-requests
returns-clause-requests c limits events = (within_run limits (opened limits) events (opened_within limits)).requests

pub returns-clause-bytes : goal.returns-clause-bytes
returns-clause-bytes c limits events = (within_run limits (opened limits) events (opened_within limits)).bytes

use Rattle.std.proofs.Common.{◌≡◌, false}
use Rattle.std.specs.declared.alloc.AllocError.{AllocError}
use Rattle.futures.specs.Task.{Keeps}
use Rattle.long_poll.specs.TraceFrames.{Yields}
use Rattle.long_poll.proofs.streamed_body.trace_body.TraceBodyBody.poll_frame.Given as goal

abbrev pub invariant-loop : goal.invariant-loop
invariant-loop g l =
    Keeps l.initial.cx l.cx × (l.self.is_ended ≡ false)
    × ((xs : _) (last : _) → Yields g.S.Service {E = AllocError} l.self xs last → Yields g.S.Service {E = AllocError} l.initial.self xs last)

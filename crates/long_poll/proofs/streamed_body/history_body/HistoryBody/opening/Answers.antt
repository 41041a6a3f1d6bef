use Rattle.std.proofs.Common.{refl}
use Rattle.long_poll.proofs.Pieces.{piece_whole}
use Rattle.long_poll.proofs.streamed_body.history_body.HistoryBody.opening.Goals as goal

pub returns-clause-value : goal.returns-clause-value
returns-clause-value g c = (
  c.in_ok-opening.field-0.items,
  piece_whole _ _ _ c.in_ok-frame.ensures c.requires,
  (rw c.deref.ensures at c.in_ok-opening.ensures, refl),
)

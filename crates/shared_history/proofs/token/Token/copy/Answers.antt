use Rattle.std.proofs.Common.{sym, ◌∙◌}
use Rattle.shared_history.proofs.Moves.{copies}
use Rattle.shared_history.proofs.token.Token.copy.Goals as goal

pub split_seat-requires : goal.split_seat-requires
split_seat-requires g c = (c.self.invariant.0 ∙ sym c.spine.invariant.0, c.spine.invariant.1, copies _ _)

use Rattle.std.proofs.Common.{sym, ◌∙◌, subst}
use Rattle.shared_history.specs.Sharing.{Extends}
use Rattle.shared_history.proofs.Moves.{writes_as}
use Rattle.shared_history.proofs.pen.Pen.write_as.Goals as goal

pub load-requires : goal.load-requires
load-requires g c =
    let more = subst (λ l. Extends l g.W.Writing.history) (sym c.self.view_is) c.requires in
    (c.self.invariant.0 ∙ sym c.spine.invariant.0, c.spine.invariant.1, writes_as _ _ more _ _ _ _ c.self.invariant.1)

use Rattle.std.proofs.Common.{sym, ◌∙◌, ap, ap₂}
use Rattle.shared_history.specs.Sharing.{told}
use Rattle.shared_history.proofs.Moves.{Known, is_told, agrees_as}
use Rattle.shared_history.proofs.token.Token.agree.Goals as goal

pub join_seat-requires : goal.join_seat-requires
join_seat-requires g c =
    let spine = c.spine.invariant in
    let copy = c.copy-copy.ensures in
    (c.self.invariant.0 ∙ sym spine.0, copy.spine ∙ sym spine.0, ap (λ m. m.1) copy.seen, spine.1, is_told _ _ _ _)

pub load-requires : goal.load-requires
load-requires g c =
    let spine = c.spine.invariant in
    let joined = c.join_seat.ensures in
    let both = ap₂ (λ (m o : Known g.row.T.Denot). (told m.0 o.0, m.1)) c.self.invariant.1 c.copy-copy.ensures.seen in
    (joined.0 ∙ (c.self.invariant.0 ∙ sym spine.0), spine.1, agrees_as _ _ _ _ _ _ (joined.2 ∙ both))

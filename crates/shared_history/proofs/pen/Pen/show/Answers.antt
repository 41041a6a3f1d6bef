use Rattle.std.proofs.Common.{sym, ◌∙◌, ap, ap₂}
use Rattle.shared_history.specs.Sharing.{heard}
use Rattle.shared_history.proofs.Moves.{Known, hears, compares_as}
use Rattle.shared_history.proofs.pen.Pen.show.Goals as goal

pub join_seat-requires : goal.join_seat-requires
join_seat-requires g c =
    let spine = c.spine.invariant in
    let copy = c.copy-copy.ensures in
    (c.self.invariant.0 ∙ sym spine.0, copy.spine ∙ sym spine.0, ap (λ m. m.1) copy.seen, spine.1, hears _ _ _ _)

pub load-requires : goal.load-requires
load-requires g c =
    let spine = c.spine.invariant in
    let joined = c.join_seat.ensures in
    let both = ap₂ (λ (m o : Known g.row.T.Denot). (heard m.0 o.0, m.1)) c.self.invariant.1 c.copy-copy.ensures.seen in
    (joined.0 ∙ (c.self.invariant.0 ∙ sym spine.0), spine.1, compares_as _ _ _ _ _ _ (joined.2 ∙ both))

pub returns-clause-all : goal.returns-clause-all
returns-clause-all g c =
    let all = λ (m : Known g.row.T.Denot). m.0.all in
    c.token.ensures.all ∙ ap all c.load.ensures.2.0 ∙ ap all c.join_seat.ensures.2 ∙ c.self.view_is

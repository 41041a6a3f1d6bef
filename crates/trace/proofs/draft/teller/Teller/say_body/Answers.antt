use Rattle.std.proofs.Common.{subst, codes, ℕ}
use Rattle.trace.specs.Members.{body_member, number_member}
use Rattle.trace.specs.Telling.{Tells}
use Rattle.trace.proofs.draft.teller.Teller.say_body.Goals as goal

-- src/draft/teller.rt:132:5
pub returns-else-bodies : goal.returns-else-bodies
unfolding body_member
returns-else-bodies c = rw c.if-bodies.false
    (subst (λ (n : ℕ). Tells (number_member (codes "bodyLength") n) c.args.self.now c.say_number_if.new.self)
    c.length_of.ensures c.say_number_if.ensures)

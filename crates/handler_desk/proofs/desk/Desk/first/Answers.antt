use Rattle.std.proofs.Common.{IfSome, ap, sym, ◌∙◌, subst}
use Rattle.std.specs.BTreeMap.{is_at}
use Rattle.std.specs.List.{Contains}
use Rattle.std.specs.Ordering.{nat_cmp}
use Rattle.handover.specs.Counters.{Counter, others_of, withdrawn}
use Rattle.handler_desk.proofs.Waiting.{removed, others, first}
use Rattle.handler_desk.proofs.desk.Desk.first.Goals as goal

pub loop-init : goal.loop-init
loop-init g = λ x c. c

pub loop-preserved : goal.loop-preserved
loop-preserved g =
    let id = g.in-Some.id in
    let waiting = g.loop.state.requests.waiting in
    let taken = ap (withdrawn id) g.in_ok-id.ensures.state in
    let left = ap (λ (c : Counter). c.waiting) (g.withdraw.ensures.requests ∙ taken) in
    λ x c. g.loop.invariant x
    (others waiting x (removed (is_at (nat_cmp id)) (others_of waiting) x (subst (λ l. Contains l x) left c)))

pub returns-then-not-is_forsaken : goal.returns-then-not-is_forsaken
returns-then-not-is_forsaken g =
    let waiting = g.loop.state.requests.waiting in
    let is = sym g.in_ok-id.ensures.first ∙ g.in-Some.is in
    record { waited = g.loop.invariant _ (subst (λ o. IfSome o (Contains waiting)) is (first waiting)) }

use Rattle.std.proofs.Common.{rules, ◌≡◌, ◌∙◌, subst}
use Rattle.std.specs.Arc.{arc_value}
use Rattle.account_lock.specs.Shown.{IsTaken}
use Rattle.account_lock.specs.Submits.{IsTurnedAway}
use Rattle.call_types.specs.declared.call.Call.TheVariants.{Tick}
use Rattle.http_front.proofs.Answering.{weakened}
use Rattle.http_front.proofs.AtPorts.{at_port}
use Rattle.http_routes.specs.Decisions.{decision}
use Rattle.long_poll.specs.Reads.{Counts, Lists, Reserves}
use Rattle.long_poll.specs.Replies.{IsReplyAt}
use Rattle.http_front.proofs.worker.Worker.serve_socket.Goals as goal

pub returns : goal.returns
returns g c =
    let front = c.in-Ok-front.front in
    let served = c.args.job.served in
    let configured : g.S.Identity.config ≡ served.config = search rules in
    let salted : g.S.Identity.salt ≡ served.salt = search rules in
    let decider : arc_value (arc_value front.connection).decider ≡ served = search rules in
    let sided : arc_value (arc_value front.at_desk).side ≡ served = search rules in
    let began : (arc_value front.connection).anchor ≡ c.args.tools.now.token = search rules in (
      c.serve_by.ensures.same ∙ c.in-Ok-watch.ensures.name,
      weakened _ _ _ _
          (λ head response x. at_port _ _ _ front served g.S.Identity.most
          (λ call reply token r. subst (λ s. IsReplyAt served.config g.S.Identity.most s (arc_value front.connection).anchor call reply token) salted
          (subst (λ k. IsReplyAt k g.S.Identity.most g.S.Identity.salt (arc_value front.connection).anchor call reply token) configured
          ((rw c.deref-3.ensures at c.replies.ensures) call reply token r)))
          (λ had before now ticket seen then after r. subst (λ k. IsTaken k g.S.Identity.most had now Tick ticket seen) configured r.0.taken)
          (λ had before now refused then after r. subst (λ k. IsTurnedAway k g.S.Identity.most had Tick refused.refusal then) configured r.2)
          (λ seen stats then r. subst (λ k. Counts k g.S.Identity.most seen stats then) configured r)
          (λ seen text then r. subst (λ s. Lists served.config g.S.Identity.most s seen text then) salted
          (subst (λ k. Lists k g.S.Identity.most g.S.Identity.salt seen text then) configured r))
          (λ seen f count then r. subst (λ k. Reserves k g.S.Identity.most seen f count then) configured r)
          (λ head body made d. subst (λ side. made ≡ decision side head body) decider d)
          (arc_value c.args.self.now.common.hosts) head response
          (arc_value (arc_value c.args.self.now.common.shared).service) (search rules)
          (arc_value c.args.self.now.common.shared).clock (search rules) c.args.tools.now.token began (search rules) (search rules) sided x)
          c.serve_by.result.io _ c.serve_by.ensures.written,
    )

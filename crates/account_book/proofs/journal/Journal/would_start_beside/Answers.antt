use Rattle.std.proofs.Common.{◌≡◌, Bool, ◌&&◌, List, sym, ap, ap₂, ◌∙◌}
use Rattle.std.specs.List.{list_any}
use Rattle.std.specs.Arc.{arc_value}
use Rattle.call_types.specs.declared.answer.Throttle.TheVariants.{Environments as ByEnvironments}
use Rattle.concurrency_pool.specs.Numbers.{Numbers}
use Rattle.environment_step.specs.After.{Known}
use Rattle.fleet.specs.declared.site.Site.{Site}
use Rattle.account_book.specs.Premature.{has_answered_in_way, is_unstarted}
use Rattle.account_book.proofs.AnsweredInWay.{answered_at, answered_in_way}
use Rattle.account_book.proofs.journal.Journal.would_start_beside.Goals as goal

pub returns-then-is_unstarted : goal.returns-then-is_unstarted
returns-then-is_unstarted c =
    let beside : c.has_answered_in_way.result ≡ has_answered_in_way c.args.self.now.config c.args.self.now.history c.args.function ByEnvironments =
    rw (sym c.self.view_is)
    (c.has_answered_in_way.ensures
    ∙ ap₂ (λ (p : Numbers) (ss : List Site). list_any (answered_at p ByEnvironments c.args.function) ss) c.self.invariant.pool_is c.self.invariant.sites_are
    ∙ answered_in_way (arc_value c.self.inside.config) c.self.inside.ledger.history ByEnvironments c.args.function) in
    beside
    ∙ ap (λ (b : Bool). b && has_answered_in_way c.args.self.now.config c.args.self.now.history c.args.function ByEnvironments)
    (c.if-is_unstarted.ensures ∙ ap is_unstarted (c.phase.ensures ∙ ap (λ (k : Known). k.stand.phase) c.environment.ensures))

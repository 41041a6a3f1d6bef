use Rattle.std.proofs.Common.{◌≤◌, length, sym, ap, ◌∙◌}
use Rattle.std.specs.Arc.{arc_value}
use Rattle.concurrency_pool.specs.declared.pool.Usage.{Usage}
use Rattle.concurrency_pool.specs.Numbers.{Numbers}
use Rattle.concurrency_pool.specs.Pools.{usage_at}
use Rattle.concurrency_pool.proofs.History as pool
use Rattle.account_book.proofs.InForce.{many_functions}
use Rattle.account_book.specs.Pages.{Pages}
use Rattle.account_book.proofs.journal.Journal.reservation.Goals as goal

pub reservation-requires-clause-there : goal.reservation-requires-clause-there
reservation-requires-clause-there c =
    rw
    (c.self.invariant.pool_is, many_functions (arc_value c.self.inside.config) c.self.inside.ledger.history, ap (λ (p : Pages). length p.config.functions) c.self.view_is) c.requires.there

pub returns : goal.returns
returns c =
    let there : c.args.function ≤ length (arc_value c.self.inside.config).functions = rw (ap (λ (p : Pages). length p.config.functions) c.self.view_is) c.requires.there in
    rw (sym c.self.view_is)
    (c.reservation.ensures ∙ ap (λ (p : Numbers). (usage_at p c.args.function).reserved) c.self.invariant.pool_is ∙ ap (λ (u : Usage). u.reserved) (pool.usage_is (arc_value c.self.inside.config) c.self.inside.ledger.history c.args.function c.requires.from_one there))

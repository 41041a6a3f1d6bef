use Rattle.std.proofs.Common.{length, sym, ap, ◌∙◌, true, false}
use Rattle.std.specs.Arc.{arc_value}
use Rattle.concurrency_pool.specs.Meets.{by_reserve}
use Rattle.account_book.specs.Pages.{Pages}
use Rattle.account_book.proofs.InForce.{many_functions}
use Rattle.account_book.proofs.Verdicts.{reserve_open}
use Rattle.account_book.proofs.journal.Journal.reserve.Goals as goal

pub may_reserve-requires-clause-there : goal.may_reserve-requires-clause-there
may_reserve-requires-clause-there c =
    rw
    (c.self.invariant.pool_is, many_functions (arc_value c.self.inside.config) c.self.inside.ledger.history, ap (λ (p : Pages). length p.config.functions) c.self.view_is) c.requires.there

pub returns-then-not-may_reserve : goal.returns-then-not-may_reserve
returns-then-not-may_reserve c =
    rw (sym c.self.view_is)
    (sym (reserve_open (arc_value c.self.inside.config) c.self.inside.ledger.history c.args.function c.args.count c.self.inside.fleet.pool false c.requires.from_one (rw (ap (λ (p : Pages). length p.config.functions) c.self.view_is) c.requires.there) c.self.invariant.pool_is (sym c.if-is_stopped.ensures) (sym c.may_reserve.ensures ∙ c.if-not-may_reserve.true)))

pub returns-in-Some : goal.returns-in-Some
returns-in-Some c =
    rw (sym c.self.view_is)
    (sym (reserve_open (arc_value c.self.inside.config) c.self.inside.ledger.history c.args.function c.args.count c.self.inside.fleet.pool true c.requires.from_one (rw (ap (λ (p : Pages). length p.config.functions) c.self.view_is) c.requires.there) c.self.invariant.pool_is (sym c.if-is_stopped.ensures) (sym c.may_reserve.ensures ∙ c.if-not-may_reserve.false) ∙ ap (by_reserve true) c.in-Some.is))

pub returns-in-None : goal.returns-in-None
returns-in-None c =
    rw (sym c.self.view_is)
    (sym (reserve_open (arc_value c.self.inside.config) c.self.inside.ledger.history c.args.function c.args.count c.self.inside.fleet.pool true c.requires.from_one (rw (ap (λ (p : Pages). length p.config.functions) c.self.view_is) c.requires.there) c.self.invariant.pool_is (sym c.if-is_stopped.ensures) (sym c.may_reserve.ensures ∙ c.if-not-may_reserve.false) ∙ ap (by_reserve true) c.in-None.is))

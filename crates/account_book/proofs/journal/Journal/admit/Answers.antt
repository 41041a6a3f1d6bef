use Rattle.std.proofs.Common.{length, sym, ap, ◌∙◌}
use Rattle.std.specs.Arc.{arc_value}
use Rattle.call_model.specs.Answers.{verdict_answer}
use Rattle.call_model.specs.Limits.{admitted_to}
use Rattle.account_book.specs.declared.journal.Verdict.{Verdict}
use Rattle.account_book.specs.Pages.{Pages}
use Rattle.account_book.proofs.InForce.{many_functions}
use Rattle.account_book.proofs.Verdicts.{verdict_stopped, verdict_open}
use Rattle.account_book.proofs.journal.Journal.admit.Goals as goal

pub returns-then-is_stopped-clause-placed : goal.returns-then-is_stopped-clause-placed
returns-then-is_stopped-clause-placed c =
    rw (sym c.self.view_is)
    (ap (λ (v : Verdict). v.place) c.own.ensures ∙ sym (ap admitted_to (verdict_stopped (arc_value c.self.inside.config) c.self.inside.ledger.history c.args.function (sym c.if-is_stopped.ensures))))

pub returns-then-is_stopped-clause-own : goal.returns-then-is_stopped-clause-own
returns-then-is_stopped-clause-own c =
    rw (sym c.self.view_is)
    (ap (λ (v : Verdict). v.own) c.own.ensures ∙ sym (ap verdict_answer (verdict_stopped (arc_value c.self.inside.config) c.self.inside.ledger.history c.args.function (sym c.if-is_stopped.ensures))))

pub admit-requires-clause-there : goal.admit-requires-clause-there
admit-requires-clause-there c =
    rw
    (c.self.invariant.pool_is, many_functions (arc_value c.self.inside.config) c.self.inside.ledger.history, ap (λ (p : Pages). length p.config.functions) c.self.view_is) c.requires.there

pub returns-in-Ok-clause-placed : goal.returns-in-Ok-clause-placed
returns-in-Ok-clause-placed c =
    rw (sym c.self.view_is)
    (sym (ap admitted_to (verdict_open (arc_value c.self.inside.config) c.self.inside.ledger.history c.args.function c.self.inside.fleet.pool c.self.inside.fleet.sites c.requires.from_one (rw (ap (λ (p : Pages). length p.config.functions) c.self.view_is) c.requires.there) c.self.invariant.pool_is c.self.invariant.sites_are (sym c.if-is_stopped.ensures) ∙ c.in-Ok.ensures)))

pub returns-in-Ok-clause-own : goal.returns-in-Ok-clause-own
returns-in-Ok-clause-own c =
    rw (sym c.self.view_is)
    (sym (ap verdict_answer (verdict_open (arc_value c.self.inside.config) c.self.inside.ledger.history c.args.function c.self.inside.fleet.pool c.self.inside.fleet.sites c.requires.from_one (rw (ap (λ (p : Pages). length p.config.functions) c.self.view_is) c.requires.there) c.self.invariant.pool_is c.self.invariant.sites_are (sym c.if-is_stopped.ensures) ∙ c.in-Ok.ensures)))

pub returns-in-Err-clause-placed : goal.returns-in-Err-clause-placed
returns-in-Err-clause-placed c =
    rw (sym c.self.view_is)
    (ap (λ (v : Verdict). v.place) c.own-in-Err.ensures ∙ sym (ap admitted_to (verdict_open (arc_value c.self.inside.config) c.self.inside.ledger.history c.args.function c.self.inside.fleet.pool c.self.inside.fleet.sites c.requires.from_one (rw (ap (λ (p : Pages). length p.config.functions) c.self.view_is) c.requires.there) c.self.invariant.pool_is c.self.invariant.sites_are (sym c.if-is_stopped.ensures) ∙ c.in-Err.ensures)))

pub returns-in-Err-clause-own : goal.returns-in-Err-clause-own
returns-in-Err-clause-own c =
    rw (sym c.self.view_is)
    (ap (λ (v : Verdict). v.own) c.own-in-Err.ensures ∙ sym (ap verdict_answer (verdict_open (arc_value c.self.inside.config) c.self.inside.ledger.history c.args.function c.self.inside.fleet.pool c.self.inside.fleet.sites c.requires.from_one (rw (ap (λ (p : Pages). length p.config.functions) c.self.view_is) c.requires.there) c.self.invariant.pool_is c.self.invariant.sites_are (sym c.if-is_stopped.ensures) ∙ c.in-Err.ensures)))

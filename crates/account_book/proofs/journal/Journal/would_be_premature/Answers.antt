use Rattle.std.proofs.Common.{◌≡◌, false, List, [], length, None, sym, ap, ap₂, ◌∙◌, arith}
use Rattle.std.specs.List.{list_any}
use Rattle.std.specs.Arc.{arc_value}
use Rattle.call_types.specs.declared.call.Call.TheVariants.{Invoke}
use Rattle.call_model.specs.Limits.{Admits, admitted_to, verdict}
use Rattle.call_model.proofs.Flight.{place_for_between}
use Rattle.concurrency_pool.specs.Numbers.{Numbers}
use Rattle.fleet.specs.declared.site.Site.{Site}
use Rattle.account_book.specs.Pages.{Pages}
use Rattle.account_book.specs.Premature.{would_be_premature}
use Rattle.account_book.proofs.AnsweredInWay.{answered_at, answered_in_way}
use Rattle.account_book.proofs.InForce.{many_functions}
use Rattle.account_book.proofs.Verdicts.{verdict_stopped, verdict_open}
use Rattle.account_book.proofs.journal.Journal.would_be_premature.Goals as goal

pub returns-then-is_stopped : goal.returns-then-is_stopped
returns-then-is_stopped c =
    rw (sym c.self.view_is)
    (sym (ap (would_be_premature (arc_value c.self.inside.config) c.self.inside.ledger.history c.args.function) (verdict_stopped (arc_value c.self.inside.config) c.self.inside.ledger.history c.args.function (sym c.if-is_stopped.ensures))))

pub admit-requires-clause-there : goal.admit-requires-clause-there
admit-requires-clause-there c =
    rw
    (c.self.invariant.pool_is, many_functions (arc_value c.self.inside.config) c.self.inside.ledger.history, ap (λ (p : Pages). length p.config.functions) c.self.view_is) c.requires.there

pub would_start_beside-requires-clause-from_one : goal.would_start_beside-requires-clause-from_one
would_start_beside-requires-clause-from_one c =
    let admits : verdict c.args.self.now.config c.args.self.now.history c.args.function ≡ Admits c.in-Ok.env =
    rw (sym c.self.view_is) (verdict_open (arc_value c.self.inside.config) c.self.inside.ledger.history c.args.function c.self.inside.fleet.pool c.self.inside.fleet.sites c.requires.from_one (rw (ap (λ (p : Pages). length p.config.functions) c.self.view_is) c.requires.there) c.self.invariant.pool_is c.self.invariant.sites_are (sym c.if-is_stopped.ensures) ∙ c.in-Ok.ensures) in
    (place_for_between c.args.self.now.config c.args.self.now.history (Invoke c.args.function false None []) c.in-Ok.env (ap admitted_to admits)).0

pub would_start_beside-requires-clause-there : goal.would_start_beside-requires-clause-there
would_start_beside-requires-clause-there c =
    let admits : verdict c.args.self.now.config c.args.self.now.history c.args.function ≡ Admits c.in-Ok.env =
    rw (sym c.self.view_is) (verdict_open (arc_value c.self.inside.config) c.self.inside.ledger.history c.args.function c.self.inside.fleet.pool c.self.inside.fleet.sites c.requires.from_one (rw (ap (λ (p : Pages). length p.config.functions) c.self.view_is) c.requires.there) c.self.invariant.pool_is c.self.invariant.sites_are (sym c.if-is_stopped.ensures) ∙ c.in-Ok.ensures) in
    let between = place_for_between c.args.self.now.config c.args.self.now.history (Invoke c.args.function false None []) c.in-Ok.env (ap admitted_to admits) in
    omega (arith, between.1)

pub returns-in-Ok : goal.returns-in-Ok
returns-in-Ok c =
    let admits : verdict c.args.self.now.config c.args.self.now.history c.args.function ≡ Admits c.in-Ok.env =
    rw (sym c.self.view_is) (verdict_open (arc_value c.self.inside.config) c.self.inside.ledger.history c.args.function c.self.inside.fleet.pool c.self.inside.fleet.sites c.requires.from_one (rw (ap (λ (p : Pages). length p.config.functions) c.self.view_is) c.requires.there) c.self.invariant.pool_is c.self.invariant.sites_are (sym c.if-is_stopped.ensures) ∙ c.in-Ok.ensures) in
    c.would_start_beside.ensures ∙ sym (ap (would_be_premature c.args.self.now.config c.args.self.now.history c.args.function) admits)

pub returns-in-Err : goal.returns-in-Err
returns-in-Err c = rw (sym c.self.view_is)
    (c.has_answered_in_way.ensures
    ∙ ap₂ (λ (p : Numbers) (ss : List Site). list_any (answered_at p c.in-Err.reason c.args.function) ss) c.self.invariant.pool_is c.self.invariant.sites_are
    ∙ answered_in_way (arc_value c.self.inside.config) c.self.inside.ledger.history c.in-Err.reason c.args.function
    ∙ sym
    (ap (would_be_premature (arc_value c.self.inside.config) c.self.inside.ledger.history c.args.function) (verdict_open (arc_value c.self.inside.config) c.self.inside.ledger.history c.args.function c.self.inside.fleet.pool c.self.inside.fleet.sites c.requires.from_one (rw (ap (λ (p : Pages). length p.config.functions) c.self.view_is) c.requires.there) c.self.invariant.pool_is c.self.invariant.sites_are (sym c.if-is_stopped.ensures) ∙ c.in-Err.ensures)))

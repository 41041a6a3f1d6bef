use Rattle.std.proofs.Common.{sym, ap, ap₂, ◌∙◌, reverse, length, List, ℕ, ◌++◌, ◌∷◌, [], Option}
use Rattle.std.proofs.lemmas.List.{length-reverse}
use Rattle.call_model.specs.Next.{entry_of}
use Rattle.call_types.specs.declared.answer.Answer.{Answer}
use Rattle.account_book.specs.Reserving.{in_force}
use Rattle.account_book.specs.Crew.{Crew}
use Rattle.account_book.specs.Fleets.{flown}
use Rattle.account_book.specs.OwnAnswers.{with_own, homed}
use Rattle.account_book.proofs.InForce.{in_order, pool_after}
use Rattle.account_book.proofs.EntryAnswers.{answers_parts}
use Rattle.account_book.proofs.answering.answer_call.Goals as goal

pub put_in_force-requires : goal.put_in_force-requires
put_in_force-requires c =
    rw (c.visit_environments.ensures.pool, c.visit_environments.ensures.moved.sites, c.requires.arriving.ready.pool_is)
    (in_order c.args.config.now (reverse c.args.entries.now.0) (entry_of c.args.config.now (reverse c.args.entries.now.0) c.args.arrival.now.moment c.args.arrival.now.call.now) c.args.own c.requires.arriving.ready.legal c.requires.arriving.ready.follows c.requires.arriving.ready.known c.requires.own)

pub returns-in-Some-clause-moved : goal.returns-in-Some-clause-moved
returns-in-Some-clause-moved c = record {
  sites = ap (λ (k : Crew). k.sites) c.put_in_force.ensures ∙ c.visit_environments.ensures.moved.sites;
  widest = λ none. ap (λ (k : Crew). k.widest) c.put_in_force.ensures ∙ c.visit_environments.ensures.moved.widest none;
}

pub returns-in_default-clause-moved : goal.returns-in_default-clause-moved
returns-in_default-clause-moved c = record {
  sites = ap (λ (k : Crew). k.sites) c.put_in_force.ensures ∙ c.visit_environments.ensures.moved.sites;
  widest = λ none. ap (λ (k : Crew). k.widest) c.put_in_force.ensures ∙ c.visit_environments.ensures.moved.widest none;
}

pub returns-in-Some-clause-pool : goal.returns-in-Some-clause-pool
returns-in-Some-clause-pool c =
    ap (λ (k : Crew). k.pool) c.put_in_force.ensures
    ∙ ap (in_force c.args.arrival.now.call.now c.args.own) (c.visit_environments.ensures.pool ∙ ap₂ flown c.visit_environments.ensures.moved.sites c.requires.arriving.ready.pool_is)
    ∙ pool_after c.args.config.now (reverse c.args.entries.now.0) (entry_of c.args.config.now (reverse c.args.entries.now.0) c.args.arrival.now.moment c.args.arrival.now.call.now) c.args.own c.requires.arriving.ready.legal c.requires.arriving.ready.follows c.requires.arriving.ready.known c.requires.own

pub returns-in_default-clause-pool : goal.returns-in_default-clause-pool
returns-in_default-clause-pool c =
    ap (λ (k : Crew). k.pool) c.put_in_force.ensures
    ∙ ap (in_force c.args.arrival.now.call.now c.args.own) (c.visit_environments.ensures.pool ∙ ap₂ flown c.visit_environments.ensures.moved.sites c.requires.arriving.ready.pool_is)
    ∙ pool_after c.args.config.now (reverse c.args.entries.now.0) (entry_of c.args.config.now (reverse c.args.entries.now.0) c.args.arrival.now.moment c.args.arrival.now.call.now) c.args.own c.requires.arriving.ready.legal c.requires.arriving.ready.follows c.requires.arriving.ready.known c.requires.own

pub returns-in-Some-clause-answers : goal.returns-in-Some-clause-answers
returns-in-Some-clause-answers c =
    ap (λ (a : List (ℕ × Answer) × ℕ). a.0) c.push.ensures
    ∙ ap₂ (λ (t : ℕ) (xs : List (ℕ × Answer)). xs ++ (t, c.in-Some.own) ∷ [])
    (c.requires.arriving.ticket ∙ sym (length-reverse c.args.entries.now.0)) c.visit_environments.ensures.answers
    ∙ ap
    (λ (o : Option Answer). with_own (length (reverse c.args.entries.now.0)) o (homed (reverse c.args.entries.now.0) (entry_of c.args.config.now (reverse c.args.entries.now.0) c.args.arrival.now.moment c.args.arrival.now.call.now)))
    (sym c.in-Some.is ∙ c.requires.own)
    ∙ sym
    (answers_parts c.args.config.now (reverse c.args.entries.now.0) (entry_of c.args.config.now (reverse c.args.entries.now.0) c.args.arrival.now.moment c.args.arrival.now.call.now) c.requires.arriving.ready.follows)

pub returns-in_default-clause-answers : goal.returns-in_default-clause-answers
returns-in_default-clause-answers c =
    c.visit_environments.ensures.answers
    ∙ ap
    (λ (o : Option Answer). with_own (length (reverse c.args.entries.now.0)) o (homed (reverse c.args.entries.now.0) (entry_of c.args.config.now (reverse c.args.entries.now.0) c.args.arrival.now.moment c.args.arrival.now.call.now)))
    (sym c.in_default.is ∙ c.requires.own)
    ∙ sym
    (answers_parts c.args.config.now (reverse c.args.entries.now.0) (entry_of c.args.config.now (reverse c.args.entries.now.0) c.args.arrival.now.moment c.args.arrival.now.call.now) c.requires.arriving.ready.follows)

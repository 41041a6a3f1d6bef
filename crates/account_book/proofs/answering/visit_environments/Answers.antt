use Rattle.std.proofs.Common.{◌≡◌, arith, sym, ap, ap₂, ◌∙◌, length, reverse, refl}
use Rattle.std.proofs.lemmas.List.{length-map}
use Rattle.arn_ids.specs.Environments.{owners}
use Rattle.concurrency_pool.specs.Pools.{throttle}
use Rattle.fleet.specs.declared.reach.Reach.TheVariants.{Everywhere, Nowhere}
use Rattle.fleet.specs.declared.site.Site.{Site}
use Rattle.account_book.proofs.Arrived.{answers_then, entry_made, few_entries, few_moves, goes, is_there, sites_then, ticket_is}
use Rattle.account_book.proofs.Concerned.{sites_nowhere, sites_everywhere}
use Rattle.account_book.proofs.EntryMoves.{homed_nowhere, homed_everywhere}
use Rattle.fleet.proofs.Entered.{few_site}
use Rattle.account_book.proofs.Extent.{few_sites}
use Rattle.account_book.proofs.FleetMeets.{sites_length, numbers_flown}
use Rattle.account_book.proofs.Visiting.{few_everywhere, admitted_there, all_stop, known_short}
use Rattle.account_book.proofs.answering.visit_environments.Goals as goal

pub take_at-requires-clause-from_one : goal.take_at-requires-clause-from_one
take_at-requires-clause-from_one c = (is_there c.in-At.env c.requires.arriving (sym c.of_next.ensures ∙ c.in-At.is)).from_one

pub take_at-requires-clause-there : goal.take_at-requires-clause-there
take_at-requires-clause-there c = (is_there c.in-At.env c.requires.arriving (sym c.of_next.ensures ∙ c.in-At.is)).there

pub take_at-requires-clause-moment : goal.take_at-requires-clause-moment
take_at-requires-clause-moment c = c.requires.arriving.moment

pub take_all-requires-clause-moment : goal.take_all-requires-clause-moment
take_all-requires-clause-moment c = c.requires.arriving.moment

pub take_at-requires-clause-counted : goal.take_at-requires-clause-counted
take_at-requires-clause-counted c =
    rw (c.requires.arriving.counts, c.requires.arriving.ready.pool_is) (length-map _ _ ∙ sym (length-map _ _))

pub take_at-requires-clause-short : goal.take_at-requires-clause-short
take_at-requires-clause-short c = known_short c.args.config.now c.args.arrival.now.call.now c.requires.arriving.ready.known

pub take_at-requires-clause-few : goal.take_at-requires-clause-few
take_at-requires-clause-few c =
    let a = c.requires.arriving in
    rw ((is_there c.in-At.env a (sym c.of_next.ensures ∙ c.in-At.is)).is)
    (few_site c.args.config.now (reverse c.args.entries.now.0) c.in-At.env a.ready.legal (let few = few_entries a in omega (arith, few)))

pub take_at-requires-clause-room : goal.take_at-requires-clause-room
take_at-requires-clause-room c =
    let a = c.requires.arriving in
    rw (ticket_is a) (omega (arith, few_moves c.in-At.env a (sym c.of_next.ensures ∙ c.in-At.is) c.facts.ensures.narrow, a.room))

pub take_at-requires-clause-admitted : goal.take_at-requires-clause-admitted
take_at-requires-clause-admitted c = λ invoke.
    let a = c.requires.arriving in
    let r = sym c.of_next.ensures ∙ c.in-At.is in
    ap₂ throttle a.ready.pool_is (ap (λ (s : Site). s.function) (is_there c.in-At.env a r).is)
    ∙ admitted_there c.args.config.now (reverse c.args.entries.now.0) c.args.arrival.now.call.now c.args.place
    c.in-At.env a.ready.known a.ready.placed r invoke

pub take_all-requires-clause-counted : goal.take_all-requires-clause-counted
take_all-requires-clause-counted c =
    rw (c.requires.arriving.counts, c.requires.arriving.ready.pool_is) (length-map _ _ ∙ sym (length-map _ _))

pub take_all-requires-clause-few : goal.take_all-requires-clause-few
take_all-requires-clause-few c =
    let a = c.requires.arriving in
    rw a.ready.is (few_sites c.args.config.now (reverse c.args.entries.now.0) a.ready.legal (few_entries a))

pub take_all-requires-clause-gives_few : goal.take_all-requires-clause-gives_few
take_all-requires-clause-gives_few c =
    let a = c.requires.arriving in
    rw (ticket_is a, a.ready.is, a.counts)
    (few_everywhere c.args.config.now (reverse c.args.entries.now.0) (entry_made c.args.config.now c.args.entries.now.0 c.args.arrival.now)
    a.ready.legal a.ready.follows (goes Everywhere a (sym c.of_next.ensures ∙ c.in-Everywhere.is)))

pub take_all-requires-clause-room : goal.take_all-requires-clause-room
take_all-requires-clause-room c =
    let a = c.requires.arriving in
    let everywhere = sym c.of_next.ensures ∙ c.in-Everywhere.is in
    let room = rw (all_stop (reverse c.args.entries.now.0) c.args.place c.args.arrival.now.call.now everywhere) at a.room in
    rw (a.ready.is, sites_length c.args.config.now (reverse c.args.entries.now.0)) (omega (arith, room))

pub returns-in-Nowhere-clause-moved : goal.returns-in-Nowhere-clause-moved
returns-in-Nowhere-clause-moved c =
    let a = c.requires.arriving in
    record {
      sites =
          a.ready.is
          ∙ sym (sites_nowhere c.args.config.now (reverse c.args.entries.now.0) (entry_made c.args.config.now c.args.entries.now.0 c.args.arrival.now)
          a.ready.legal a.ready.follows (goes Nowhere a (sym c.of_next.ensures ∙ c.in-Nowhere.is)));
      widest = λ none. refl;
    }

pub returns-in-Nowhere-clause-pool : goal.returns-in-Nowhere-clause-pool
returns-in-Nowhere-clause-pool c =
    let ready = c.requires.arriving.ready in
    rw (ready.is, ready.pool_is) (numbers_flown c.args.config.now (reverse c.args.entries.now.0) ready.legal)

pub returns-in-Nowhere-clause-answers : goal.returns-in-Nowhere-clause-answers
returns-in-Nowhere-clause-answers c =
    let a = c.requires.arriving in
    a.empty
    ∙ sym (homed_nowhere c.args.config.now (reverse c.args.entries.now.0) (entry_made c.args.config.now c.args.entries.now.0 c.args.arrival.now)
    a.ready.follows (goes Nowhere a (sym c.of_next.ensures ∙ c.in-Nowhere.is)))

pub returns-in-At-clause-moved : goal.returns-in-At-clause-moved
returns-in-At-clause-moved c = record {
  sites = sites_then c.in-At.env c.take_at.new.self.sites c.requires.arriving (sym c.of_next.ensures ∙ c.in-At.is) c.take_at.ensures.sites;
  widest = c.take_at.ensures.widest;
}

pub returns-in-At-clause-answers : goal.returns-in-At-clause-answers
returns-in-At-clause-answers c =
    let a = c.requires.arriving in
    rw a.empty at c.take_at.ensures.answers ∙ answers_then c.in-At.env a (sym c.of_next.ensures ∙ c.in-At.is)

pub returns-in-At-clause-room : goal.returns-in-At-clause-room
returns-in-At-clause-room c =
    let a = c.requires.arriving in
    let room = rw (ticket_is a) at c.take_at.ensures.room in
    omega (arith, few_moves c.in-At.env a (sym c.of_next.ensures ∙ c.in-At.is) c.facts.ensures.narrow, a.room, room)

pub returns-in-Everywhere-clause-moved : goal.returns-in-Everywhere-clause-moved
returns-in-Everywhere-clause-moved c =
    let a = c.requires.arriving in
    record {
      sites =
          rw (ticket_is a, a.ready.is, a.counts) at c.take_all.ensures.sites
          ∙ sym (sites_everywhere c.args.config.now (reverse c.args.entries.now.0) (entry_made c.args.config.now c.args.entries.now.0 c.args.arrival.now)
          a.ready.legal a.ready.follows (goes Everywhere a (sym c.of_next.ensures ∙ c.in-Everywhere.is)));
      widest = λ none. c.take_all.ensures.widest;
    }

pub returns-in-Everywhere-clause-answers : goal.returns-in-Everywhere-clause-answers
returns-in-Everywhere-clause-answers c =
    let a = c.requires.arriving in
    rw (ticket_is a, a.ready.is, a.counts, a.empty) at c.take_all.ensures.answers
    ∙ sym (homed_everywhere c.args.config.now (reverse c.args.entries.now.0) (entry_made c.args.config.now c.args.entries.now.0 c.args.arrival.now)
    a.ready.legal a.ready.follows a.ready.all_known a.ready.known (goes Everywhere a (sym c.of_next.ensures ∙ c.in-Everywhere.is)))

pub returns-in-Everywhere-clause-room : goal.returns-in-Everywhere-clause-room
returns-in-Everywhere-clause-room c =
    let a = c.requires.arriving in
    let everywhere = sym c.of_next.ensures ∙ c.in-Everywhere.is in
    let room = rw (all_stop (reverse c.args.entries.now.0) c.args.place c.args.arrival.now.call.now everywhere) at a.room in
    let many : length c.args.fleet.now.sites ≡ length (owners c.args.config.now) =
    ap length a.ready.is ∙ sites_length c.args.config.now (reverse c.args.entries.now.0) in
    omega (arith, room, many, c.take_all.ensures.room)

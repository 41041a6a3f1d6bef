-- What follows for the environments that a call concerns, once it has arrived.
use Rattle.std.proofs.Common.{◌≡◌, ℕ, ◌+◌, ◌-◌, ◌^◌, ◌<◌, ◌≤◌, All, List, [], ◌∷◌, length, reverse, set, Option, sym, ap, ◌∙◌, arith}
use Rattle.std.proofs.lemmas.List.{length-reverse}
use Rattle.std.proofs.lemmas.List.Elements.{All-get_or}
use Rattle.arn_ids.specs.declared.config.Config.{Config}
use Rattle.arn_ids.specs.Environments.{owners}
use Rattle.call_types.specs.declared.answer.Answer.{Answer}
use Rattle.call_types.specs.declared.call.Entry.{Entry}
use Rattle.call_model.specs.Limits.{place_for}
use Rattle.call_model.specs.Next.{entry_of}
use Rattle.account_book.specs.Answering.{most_answers}
use Rattle.account_book.specs.Arriving.{IsArriving}
use Rattle.account_book.specs.Crew.{Crew}
use Rattle.account_book.specs.Fleets.{no_site, site_at, moved, moves_at, put_all}
use Rattle.fleet.specs.Reaches.{reach}
use Rattle.account_book.specs.OwnAnswers.{homed}
use Rattle.fleet.specs.Sites.{site, sites}
use Rattle.account_book.specs.declared.crew.Arrival.{Arrival}
use Rattle.fleet.specs.declared.reach.Reach.{Reach}
use Rattle.fleet.specs.declared.reach.Reach.TheVariants.{At}
use Rattle.fleet.specs.declared.site.Site.{Site}
use Rattle.account_book.proofs.Concerned.{sites_at}
use Rattle.account_book.proofs.EntryMoves.{homed_at}
use Rattle.account_book.proofs.FleetMeets.{sites_length}
use Rattle.account_book.proofs.Visiting.{reach_within, site_of, few_there, room_there}
use Rattle.account_book.proofs.Visits.{site_is_at}

-- The entry that the call becomes.
abbrev pub entry_made : Config → List Entry → Arrival → Entry
entry_made config entries arrival = entry_of config (reverse entries) arrival.moment arrival.call.now

-- Its ticket is the number of entries before it.
pub ticket_is : {config : Config} {entries : List Entry} {arrival : Arrival}
    {place : Option ℕ} {crew : Crew} {answers : List (ℕ × Answer) × ℕ}
    → IsArriving config entries arrival place crew answers → arrival.ticket ≡ length (reverse entries)
ticket_is {entries = entries} a = a.ticket ∙ sym (length-reverse entries)

-- There are fewer entries than tickets.
pub few_entries : {config : Config} {entries : List Entry} {arrival : Arrival}
    {place : Option ℕ} {crew : Crew} {answers : List (ℕ × Answer) × ℕ}
    → IsArriving config entries arrival place crew answers → length (reverse entries) < 2 ^ 32
few_entries {entries = entries} a = rw (length-reverse entries) a.short

-- Where it goes by its place is where it goes by the definitions.
pub goes : {config : Config} {entries : List Entry} {arrival : Arrival}
    {place : Option ℕ} {crew : Crew} {answers : List (ℕ × Answer) × ℕ} (to : Reach)
    → IsArriving config entries arrival place crew answers → reach (reverse entries) place arrival.call.now ≡ to
    → reach (reverse entries) (place_for config (reverse entries) arrival.call.now) arrival.call.now ≡ to
goes {entries = entries} {arrival = arrival} to a r =
    ap (λ (p : Option ℕ). reach (reverse entries) p arrival.call.now) (sym a.ready.placed) ∙ r

-- An environment that it concerns is in the list.
pub record IsThere (config : Config) (h : List Entry) (all : List Site) (e : ℕ) : Type 0 where
  pub from_one : 1 ≤ e
  pub owned : e ≤ length (owners config)
  pub there : e ≤ length all
  pub is : site_at all e ≡ site config h e

pub is_there : {config : Config} {entries : List Entry} {arrival : Arrival}
    {place : Option ℕ} {crew : Crew} {answers : List (ℕ × Answer) × ℕ} (e : ℕ)
    → IsArriving config entries arrival place crew answers → reach (reverse entries) place arrival.call.now ≡ At e
    → IsThere config (reverse entries) crew.sites e
is_there {config = config} {entries = entries} {arrival = arrival} {place = place} e a r =
    let h : List Entry = reverse entries in
    let w = reach_within config h arrival.call.now place e a.ready.all_known a.ready.known a.ready.placed r in
    record {
      from_one = w.0;
      owned = w.1;
      there = rw (a.ready.is, sites_length config h) w.1;
      is = rw a.ready.is (site_of config h e w.0 w.1);
    }

pub few_moves : {config : Config} {entries : List Entry} {arrival : Arrival}
    {place : Option ℕ} {crew : Crew} {answers : List (ℕ × Answer) × ℕ} (e : ℕ)
    → IsArriving config entries arrival place crew answers → reach (reverse entries) place arrival.call.now ≡ At e
    → All (λ s. length s.environment.stand.members ≤ crew.widest) crew.sites
    → length (moves_at (length (reverse entries)) arrival.moment arrival.requests.now arrival.call.now (site_at crew.sites e)) + 1
    ≤ most_answers crew.widest (length (owners config)) arrival.call.now
few_moves {config = config} {entries = entries} {arrival = arrival} {place = place} {crew = crew} e a r narrow =
    let h : List Entry = reverse entries in
    let k = is_there e a r in
    let members : Site → ℕ = λ s. length s.environment.stand.members in
    room_there h place arrival.call.now e crew.widest (length (owners config))
    (length (moves_at (length h) arrival.moment arrival.requests.now arrival.call.now (site_at crew.sites e)))
    (members (site_at crew.sites e)) r
    (rw (k.is, a.counts) (few_there config h (entry_made config entries arrival) e a.ready.legal a.ready.follows
    (goes (At e) a r) k.from_one k.owned))
    (rw (site_is_at crew.sites e no_site k.from_one k.there)
    (All-get_or (λ (s : Site). members s ≤ crew.widest) crew.sites (e - 1) no_site
    (omega (arith, k.from_one, k.there)) narrow))

pub sites_then : {config : Config} {entries : List Entry} {arrival : Arrival}
    {place : Option ℕ} {crew : Crew} {answers : List (ℕ × Answer) × ℕ}
    (e : ℕ) (after : List Site)
    → IsArriving config entries arrival place crew answers → reach (reverse entries) place arrival.call.now ≡ At e
    → after ≡ set crew.sites (e - 1) (moved arrival.ticket arrival.moment arrival.requests.now arrival.call.now (site_at crew.sites e))
    → after ≡ sites config (entry_made config entries arrival ∷ reverse entries)
sites_then {config = config} {entries = entries} {arrival = arrival} e after a r became =
    let k = is_there e a r in
    became
    ∙ rw (ticket_is a, a.counts, k.is, a.ready.is)
    (sym (sites_at config (reverse entries) (entry_made config entries arrival) e a.ready.legal a.ready.follows
    (goes (At e) a r) k.from_one k.owned))

pub answers_then : {config : Config} {entries : List Entry} {arrival : Arrival}
    {place : Option ℕ} {crew : Crew} {answers : List (ℕ × Answer) × ℕ} (e : ℕ)
    → IsArriving config entries arrival place crew answers → reach (reverse entries) place arrival.call.now ≡ At e
    → put_all (moves_at arrival.ticket arrival.moment arrival.requests.now arrival.call.now (site_at crew.sites e)) []
    ≡ homed (reverse entries) (entry_made config entries arrival)
answers_then {config = config} {entries = entries} {arrival = arrival} e a r =
    let k = is_there e a r in
    rw (ticket_is a, a.counts, k.is)
    (sym (homed_at config (reverse entries) (entry_made config entries arrival) e a.ready.legal a.ready.follows
    (goes (At e) a r) k.from_one k.owned))

use Rattle.std.proofs.Common.{◌≡◌, ◌<◌, ◌≤◌, ◌+◌, ◌-◌, ℕ, arith, sym, ap, ◌∙◌, length, get_or, refl, List, ap₂, true, set, cond, Bool}
use Rattle.arn_ids.proofs.Counting.{numbered_at, at_get_or}
use Rattle.arn_ids.specs.Environments.{numbered}
use Rattle.account_book.specs.declared.crew.Fleet.TheInside.{Inside}
use Rattle.fleet.specs.declared.site.Site.{Site}
use Rattle.account_book.specs.Crew.{Crew}
use Rattle.account_book.specs.Fleets.{no_site, site_at, crew, IsOwned, IsFleet, flown, moved}
use Rattle.call_types.specs.Calls.{is_invoke}
use Rattle.call_model.specs.Laws.{is_taken}
use Rattle.concurrency_pool.specs.Pools.{throttle, with_in_flight, usage_at}
use Rattle.placement.specs.Class.{class_of}
use Rattle.placement.specs.declared.class.Class.{Class}
use Rattle.placement.specs.Places.{place_at}
use Rattle.std.proofs.lemmas.List.Elements.{All-get_or}
use Rattle.std.proofs.lemmas.List.{get_or_default}
use Rattle.std.specs.Vec.{with_item}
use Rattle.env_phase.proofs.Extent.{none_joins}
use Rattle.account_book.proofs.Newly.{newly_taken}
use Rattle.account_book.proofs.Visits.{IsChange, change_kept, change_pool, site_is_at, some_in_flight}
use Rattle.account_book.proofs.crew.Fleet.take_at.Goals as goal

-- the environment that is visited is the one with the number
found : (f : Inside) (w : Crew) (e : ℕ) (s d : Site) → crew f ≡ w → 1 ≤ e → e ≤ length w.sites → s ≡ get_or f.sites.items (e - 1) d → site_at w.sites e ≡ s
found f w e s d view low high is = rw (sym view) (site_is_at f.sites.items e d low (rw (ap (λ (k : Crew). length k.sites) view) high) ∙ sym is)

-- the count of its function
counted : (requests : List ℕ) (f : ℕ) → 1 ≤ f → f ≤ length requests → get_or requests (f - 1) 0 ≡ numbered 0 requests f
counted requests f low high = sym (numbered_at 0 requests f low ∙ at_get_or 0 0 requests (f - 1) (omega (arith, low, high)))

pub take-requires-clause-few : goal.take-requires-clause-few
take-requires-clause-few c =
    rw
    (sym (found c.self.inside c.args.self.now c.args.env c.index_mut-site.result.now _ c.self.view_is c.requires.from_one c.requires.there c.index_mut-site.ensures.value)) c.requires.few

-- what was found belongs to a function that there is
owned : (f : Inside) (i : ℕ) (s d : Site) → IsFleet f → i < length f.sites.items → s ≡ get_or f.sites.items i d → IsOwned (length f.pool.functions) s
owned f i s d k lt is = rw is (All-get_or (IsOwned (length f.pool.functions)) f.sites.items i d lt k.owned)

within : (f : Inside) (w : Crew) (e : ℕ) → crew f ≡ w → 1 ≤ e → e ≤ length w.sites → e - 1 < length f.sites.items
within f w e view low high = let le : e ≤ length f.sites.items = rw (ap (λ (k : Crew). length k.sites) view) high in omega (arith, low, le)

pub take-requires-clause-room : goal.take-requires-clause-room
take-requires-clause-room c =
    let at : c.args.env - 1 < length c.self.inside.sites.items = within c.self.inside c.args.self.now c.args.env c.self.view_is c.requires.from_one c.requires.there in
    let own : IsOwned (length c.self.inside.pool.functions) c.index_mut-site.result.now = owned c.self.inside (c.args.env - 1) c.index_mut-site.result.now _ c.self.invariant at c.index_mut-site.ensures.value in
    let many : length c.args.arrival.now.requests.now ≡ length c.self.inside.pool.functions = c.requires.counted ∙ ap (λ (k : Crew). length k.pool.functions) (sym c.self.view_is) in
    rw
    (counted c.args.arrival.now.requests.now c.index_mut-site.result.now.function own.0 (rw many own.1), sym (found c.self.inside c.args.self.now c.args.env c.index_mut-site.result.now _ c.self.view_is c.requires.from_one c.requires.there c.index_mut-site.ensures.value)) c.requires.room

pub recount-requires-clause-charged : goal.recount-requires-clause-charged
recount-requires-clause-charged c = λ was.
    let at : c.args.env - 1 < length c.self.inside.sites.items = within c.self.inside c.args.self.now c.args.env c.self.view_is c.requires.from_one c.requires.there in
    let same : c.take.new.site.function ≡ (get_or c.self.inside.sites.items (c.args.env - 1) c.index_mut-site.result.now).function = ap (λ (s : Site). s.function) c.take.ensures.site ∙ ap (λ (s : Site). s.function) c.index_mut-site.ensures.value in
    rw same
    (some_in_flight c.self.inside (c.args.env - 1) c.index_mut-site.result.now c.self.invariant at (ap (λ (s : Site). is_taken s.environment.stand.phase) (sym c.index_mut-site.ensures.value) ∙ sym c.is_taken-was.ensures ∙ was))

pub recount-requires-clause-admitted : goal.recount-requires-clause-admitted
recount-requires-clause-admitted c = λ was is.
    let invoke : is_invoke c.args.arrival.now.call.now ≡ true = newly_taken c.index_mut-site.result.now.environment.fixed _ c.index_mut-site.result.now.environment.stand c.args.arrival.now.call.now (sym c.is_taken-was.ensures ∙ was) (ap (λ (s : Site). is_taken s.environment.stand.phase) (sym c.take.ensures.site) ∙ sym c.is_taken-is.ensures ∙ is) in
    let here : site_at c.args.self.now.sites c.args.env ≡ c.index_mut-site.result.now = found c.self.inside c.args.self.now c.args.env c.index_mut-site.result.now _ c.self.view_is c.requires.from_one c.requires.there c.index_mut-site.ensures.value in
    ap₂ throttle (ap (λ (k : Crew). k.pool) c.self.view_is) (ap (λ (s : Site). s.function) c.take.ensures.site ∙ ap (λ (s : Site). s.function) (sym here))
    ∙ c.requires.admitted invoke

-- the environment changed, and what is kept beside it
changed : (c : goal.After-self-2-1)
    → IsChange c.self.inside (record { sites = with_item c.self.inside.sites (c.args.env - 1) (record { function = c.take.new.site.function; environment = c.take.new.site.environment }); due = c.set.new.self; places = c.note.new.self; pool = c.recount.new.pool; widest = c.max-self-inside.result; moves = c.take.new.moves }) (c.args.env - 1) (record { function = c.take.new.site.function; environment = c.take.new.site.environment }) c.index_mut-site.result.now
changed c =
    let at : c.args.env - 1 < length c.self.inside.sites.items = within c.self.inside c.args.self.now c.args.env c.self.view_is c.requires.from_one c.requires.there in
    let back : c.args.env - 1 + 1 ≡ c.args.env = omega (arith, c.requires.from_one) in
    record {
      within = at;
      was = get_or_default c.self.inside.sites.items (c.args.env - 1) no_site c.index_mut-site.result.now at ∙ sym c.index_mut-site.ensures.value;
      sites = refl;
      function = ap (λ (s : Site). s.function) c.take.ensures.site;
      due = c.set.ensures ∙ ap (set c.self.inside.due (c.args.env - 1)) c.deadline.ensures;
      places =
          c.note.ensures
          ∙ ap₂ (λ (e : ℕ) (k : Class). set c.self.inside.places (c.args.env - 1) (record (place_at c.self.inside.places e) { class = k })) (sym back) (c.of.ensures ∙ ap class_of c.phase.ensures);
      pool =
          c.recount.ensures
          ∙ ap₂ (λ (is was : Bool). with_in_flight c.self.inside.pool c.take.new.site.function (((usage_at c.self.inside.pool c.take.new.site.function).in_flight + cond is 1 0) - cond was 1 0)) c.is_taken-is.ensures c.is_taken-was.ensures;
      widest = omega (arith, c.max-self-inside.ensures);
      narrow = omega (arith, c.max-self-inside.ensures, c.members.ensures.count);
      ten = omega (arith, c.max-self-inside.ensures, c.members.ensures.few, c.self.invariant.ten);
    }

pub returns-clause-pool : goal.returns-clause-pool
returns-clause-pool c =
    change_pool c.self.inside _ (c.args.env - 1) (record { function = c.take.new.site.function; environment = c.take.new.site.environment }) c.index_mut-site.result.now c.self.invariant (changed c)
    ∙ ap (λ (k : Crew). flown (set c.self.inside.sites.items (c.args.env - 1) (record { function = c.take.new.site.function; environment = c.take.new.site.environment })) k.pool) c.self.view_is

pub invariant_of-self : goal.invariant_of-self
invariant_of-self c =
    change_kept c.self.inside _ (c.args.env - 1)
    (record { function = c.take.new.site.function; environment = c.take.new.site.environment }) c.index_mut-site.result.now c.self.invariant
    (changed c)

-- the count that the call comes with there
count_is : (f : Inside) (w : Crew) (requests : List ℕ) (i : ℕ) (s d : Site) → crew f ≡ w → IsFleet f
    → i < length f.sites.items → s ≡ get_or f.sites.items i d → length requests ≡ length w.pool.functions
    → get_or requests (s.function - 1) 0 ≡ numbered 0 requests s.function
count_is f w requests i s d view k at is many =
    let own : IsOwned (length f.pool.functions) s = owned f i s d k at is in
    let all : length requests ≡ length f.pool.functions = many ∙ ap (λ (k : Crew). length k.pool.functions) (sym view) in
    counted requests s.function own.0 (rw all own.1)

pub returns-clause-sites : goal.returns-clause-sites
returns-clause-sites c =
    let at : c.args.env - 1 < length c.self.inside.sites.items = within c.self.inside c.args.self.now c.args.env c.self.view_is c.requires.from_one c.requires.there in
    let here : site_at c.args.self.now.sites c.args.env ≡ c.index_mut-site.result.now = found c.self.inside c.args.self.now c.args.env c.index_mut-site.result.now _ c.self.view_is c.requires.from_one c.requires.there c.index_mut-site.ensures.value in
    let count : get_or c.args.arrival.now.requests.now (c.index_mut-site.result.now.function - 1) 0 ≡ numbered 0 c.args.arrival.now.requests.now c.index_mut-site.result.now.function = count_is c.self.inside c.args.self.now c.args.arrival.now.requests.now (c.args.env - 1) c.index_mut-site.result.now _ c.self.view_is c.self.invariant at c.index_mut-site.ensures.value c.requires.counted in
    let now : c.take.new.site ≡ moved c.args.arrival.now.ticket c.args.arrival.now.moment c.args.arrival.now.requests.now c.args.arrival.now.call.now (site_at c.args.self.now.sites c.args.env) = rw (here, sym count) c.take.ensures.site in
    ap₂ (λ (k : Crew) (s : Site). set k.sites (c.args.env - 1) s) c.self.view_is now

pub returns-clause-answers : goal.returns-clause-answers
returns-clause-answers c =
    let at : c.args.env - 1 < length c.self.inside.sites.items = within c.self.inside c.args.self.now c.args.env c.self.view_is c.requires.from_one c.requires.there in
    let here : site_at c.args.self.now.sites c.args.env ≡ c.index_mut-site.result.now = found c.self.inside c.args.self.now c.args.env c.index_mut-site.result.now _ c.self.view_is c.requires.from_one c.requires.there c.index_mut-site.ensures.value in
    let count : get_or c.args.arrival.now.requests.now (c.index_mut-site.result.now.function - 1) 0 ≡ numbered 0 c.args.arrival.now.requests.now c.index_mut-site.result.now.function = count_is c.self.inside c.args.self.now c.args.arrival.now.requests.now (c.args.env - 1) c.index_mut-site.result.now _ c.self.view_is c.self.invariant at c.index_mut-site.ensures.value c.requires.counted in
    rw (here, sym count) c.take.ensures.given

pub returns-clause-room : goal.returns-clause-room
returns-clause-room c =
    let at : c.args.env - 1 < length c.self.inside.sites.items = within c.self.inside c.args.self.now c.args.env c.self.view_is c.requires.from_one c.requires.there in
    let here : site_at c.args.self.now.sites c.args.env ≡ c.index_mut-site.result.now = found c.self.inside c.args.self.now c.args.env c.index_mut-site.result.now _ c.self.view_is c.requires.from_one c.requires.there c.index_mut-site.ensures.value in
    let count : get_or c.args.arrival.now.requests.now (c.index_mut-site.result.now.function - 1) 0 ≡ numbered 0 c.args.arrival.now.requests.now c.index_mut-site.result.now.function = count_is c.self.inside c.args.self.now c.args.arrival.now.requests.now (c.args.env - 1) c.index_mut-site.result.now _ c.self.view_is c.self.invariant at c.index_mut-site.ensures.value c.requires.counted in
    rw (here, sym count) c.take.ensures.room

pub returns-clause-widest : goal.returns-clause-widest
returns-clause-widest c = λ none.
    let at : c.args.env - 1 < length c.self.inside.sites.items = within c.self.inside c.args.self.now c.args.env c.self.view_is c.requires.from_one c.requires.there in
    let before : length c.index_mut-site.result.now.environment.stand.members ≤ c.self.inside.widest = rw c.index_mut-site.ensures.value (All-get_or (λ (s : Site). length s.environment.stand.members ≤ c.self.inside.widest) c.self.inside.sites.items (c.args.env - 1) c.index_mut-site.result.now at c.self.invariant.narrow) in
    let now : length c.take.new.site.environment.stand.members ≤ length c.index_mut-site.result.now.environment.stand.members = rw c.take.ensures.site (none_joins c.index_mut-site.result.now.environment.fixed _ c.index_mut-site.result.now.environment.stand c.args.arrival.now.call.now none) in
    let same : c.self.inside.widest ≡ c.args.self.now.widest = ap (λ (k : Crew). k.widest) c.self.view_is in
    omega (arith, c.max-self-inside.ensures, c.members.ensures.count, before, now, same)

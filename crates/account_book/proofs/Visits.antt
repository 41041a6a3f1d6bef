-- What is kept beside the environments, after one of them changed.
use Rattle.std.proofs.Common.{◌≡◌, ℕ, zero, suc, ◌+◌, ◌-◌, ◌<◌, ◌≤◌, Bool, true, false, cond, List, [], ◌∷◌, length}
use Rattle.std.proofs.Common.{map, get_or, set, count_by, All, sym, refl, ap, ap₂, ◌∙◌, arith, subst, true≢false, ◌==◌}
use Rattle.std.proofs.lemmas.List.{map-set, get_or-map, length-set, length-map}
use Rattle.std.proofs.lemmas.List.Elements.{All-set, All-get_or}
use Rattle.std.proofs.lemmas.List.Sums.{sum_by-set}
use Rattle.arn_ids.proofs.Counting.{numbered_at, at_get_or}
use Rattle.call_model.proofs.Basics.{eqb-self, and_false}
use Rattle.call_model.specs.Laws.{is_taken}
use Rattle.concurrency_pool.proofs.Numbered.{usage_is_at}
use Rattle.concurrency_pool.specs.declared.pool.Usage.{Usage}
use Rattle.concurrency_pool.specs.Numbers.{Numbers}
use Rattle.concurrency_pool.specs.Pools.{usage_at, with_in_flight}
use Rattle.concurrency_pool.specs.Usages.{no_usage}
use Rattle.placement.specs.declared.places.Place.{Place}
use Rattle.placement.specs.Class.{class_of}
use Rattle.placement.specs.Places as placement
use Rattle.placement.proofs.Numbered.{place_is_at}
use Rattle.account_book.specs.declared.crew.Fleet.TheInside.{Inside}
use Rattle.fleet.specs.declared.site.Site.{Site}
use Rattle.account_book.specs.Fleets.{no_site, site_at, serves_function, flown_from, flown, deadline_at, site_place, IsOwned, IsFleet}
use Rattle.account_book.proofs.Flown.{flown_change}

-- the environment with a number is the one at its index
pub site_is_at : (sites : List Site) (e : ℕ) (d : Site) → 1 ≤ e → e ≤ length sites → site_at sites e ≡ get_or sites (e - 1) d
site_is_at sites e d from_one there = numbered_at no_site sites e from_one ∙ at_get_or no_site d sites (e - 1) (omega (arith, from_one, there))

pub flown_length : (sites : List Site) (a : ℕ) (usages : List Usage) → length (flown_from sites a usages) ≡ length usages
flown_length sites a [] = refl
flown_length sites a (u ∷ us) = ap suc (flown_length sites (suc a) us)

flown_at : (sites : List Site) (a : ℕ) (usages : List Usage) (j : ℕ) → j < length usages
    → (get_or (flown_from sites a usages) j no_usage).in_flight ≡ count_by (serves_function (a + j)) sites
flown_at sites a [] j lt = absurd (omega arith)
flown_at sites a (u ∷ us) zero lt = ap (λ (f : ℕ). count_by (serves_function f) sites) (let same : a ≡ a + 0 = omega arith in same)
flown_at sites a (u ∷ us) (suc j) lt =
    flown_at sites (suc a) us j (omega arith) ∙ ap (λ (f : ℕ). count_by (serves_function f) sites) (let same : suc a + j ≡ a + suc j = omega arith in same)

-- what a function has in flight is how many environments serve it
pub in_flight_at : (f : Inside) (g : ℕ) → IsFleet f → 1 ≤ g → g ≤ length f.pool.functions
    → (usage_at f.pool g).in_flight ≡ count_by (serves_function g) f.sites.items
in_flight_at f g k from_one there =
    let back : 1 + (g - 1) ≡ g = omega (arith, from_one) in
    ap (λ (u : Usage). u.in_flight) (usage_is_at f.pool g no_usage from_one there)
    ∙ ap (λ (p : Numbers). (get_or p.functions (g - 1) no_usage).in_flight) k.pool
    ∙ flown_at f.sites.items 1 f.pool.functions (g - 1) (omega (arith, from_one, there))
    ∙ ap (λ (n : ℕ). count_by (serves_function n) f.sites.items) back

-- one that is taken is among them
pub some_in_flight : (f : Inside) (i : ℕ) (d : Site) → IsFleet f → i < length f.sites.items
    → is_taken (get_or f.sites.items i d).environment.stand.phase ≡ true
    → 0 < (usage_at f.pool (get_or f.sites.items i d).function).in_flight
some_in_flight f i d k lt taken =
    let own : IsOwned (length f.pool.functions) s = All-get_or (IsOwned (length f.pool.functions)) f.sites.items i d lt k.owned in
    rw (in_flight_at f s.function k own.0 own.1)
    (positive (count_by (serves_function s.function) (set f.sites.items i no_site)) (count_by (serves_function s.function) f.sites.items) (cond (serves_function s.function no_site) 1 0) (serves_function s.function s) (sum_by-set (λ x. cond (serves_function s.function x) 1 0) f.sites.items i no_site d lt) serves nobody)
  where
    s : Site
    s = get_or f.sites.items i d

    none : ℕ
    none = 0

    nobody : cond (serves_function s.function no_site) 1 0 ≡ none
    nobody = ap (λ (b : Bool). cond b 1 none) (and_false (0 == s.function))

    serves : serves_function s.function s ≡ true
    serves = rw (eqb-self s.function, taken) refl

    positive : (m n x : ℕ) (b : Bool) → m + cond b 1 0 ≡ n + x → b ≡ true → x ≡ 0 → 0 < n
    positive m n x true q r none = omega (arith, q, none)
    positive m n x false q r none = absurd (true≢false (sym r))

-- how many serve the function after the change
served_now : (sites : List Site) (i : ℕ) (now d : Site) → i < length sites → now.function ≡ (get_or sites i d).function
    → count_by (serves_function now.function) (set sites i now) ≡ (count_by (serves_function now.function) sites + cond (is_taken now.environment.stand.phase) 1 0) - cond (is_taken (get_or sites i d).environment.stand.phase) 1 0
served_now sites i now d lt same =
    level _ _ _ _ _ _ (sum_by-set (λ x. cond (serves_function now.function x) 1 0) sites i now d lt) (this (get_or sites i d) same) (this now refl)
  where
    this : (s : Site) → now.function ≡ s.function → serves_function now.function s ≡ is_taken s.environment.stand.phase
    this s q = rw (q, eqb-self s.function) refl

    level : (m n : ℕ) (b c p q : Bool) → m + cond b 1 0 ≡ n + cond c 1 0 → b ≡ p → c ≡ q → m ≡ (n + cond q 1 0) - cond p 1 0
    level m n b c p q e r s = let k : m + cond p 1 0 ≡ n + cond q 1 0 = rw (r, s) at e in omega (arith, k)

-- one environment changed, and what is kept beside it with it
pub record IsChange (before after : Inside) (i : ℕ) (now old : Site) : Type 0 where
  pub within : i < length before.sites.items
  pub was : get_or before.sites.items i no_site ≡ old
  pub sites : after.sites.items ≡ set before.sites.items i now
  pub function : now.function ≡ old.function
  pub due : after.due ≡ set before.due i (deadline_at now)
  pub places : after.places ≡ set before.places i (record (placement.place_at before.places (i + 1)) { class = class_of now.environment.stand.phase })
  pub pool : after.pool ≡ with_in_flight before.pool now.function (((usage_at before.pool now.function).in_flight + cond (is_taken now.environment.stand.phase) 1 0) - cond (is_taken old.environment.stand.phase) 1 0)
  pub widest : before.widest ≤ after.widest
  pub narrow : length now.environment.stand.members ≤ after.widest
  pub ten : after.widest ≤ 10

pub change_pool : (before after : Inside) (i : ℕ) (now old : Site) → IsFleet before → IsChange before after i now old
    → after.pool ≡ flown after.sites.items before.pool
change_pool before after i now old k c =
    c.pool
    ∙ ap (λ (us : List Usage). record before.pool { functions = us }) functions
    ∙ ap (λ (ss : List Site). flown ss before.pool) (sym c.sites)
  where
    sites : List Site
    sites = before.sites.items

    us : List Usage
    us = before.pool.functions

    f : ℕ
    f = now.function

    same : now.function ≡ (get_or sites i no_site).function
    same = c.function ∙ ap (λ (s : Site). s.function) (sym c.was)

    own : IsOwned (length us) old
    own = subst (IsOwned (length us)) c.was (All-get_or (IsOwned (length us)) sites i no_site c.within k.owned)

    low : 1 ≤ f
    low = rw c.function own.0

    high : f ≤ length us
    high = rw c.function own.1

    as_flown : us ≡ flown_from sites 1 us
    as_flown = ap (λ (p : Numbers). p.functions) k.pool

    count : ((usage_at before.pool f).in_flight + cond (is_taken now.environment.stand.phase) 1 0) - cond (is_taken old.environment.stand.phase) 1 0 ≡ count_by (serves_function f) (set sites i now)
    count = rw (in_flight_at before f k low high, sym c.was) (sym (served_now sites i now no_site c.within same))

    functions : set us (f - 1) (record (usage_at before.pool f) { in_flight = ((usage_at before.pool f).in_flight + cond (is_taken now.environment.stand.phase) 1 0) - cond (is_taken old.environment.stand.phase) 1 0 }) ≡ flown_from (set sites i now) 1 us
    functions =
        ap₂ (λ (u : Usage) (n : ℕ). set us (f - 1) (record u { in_flight = n }))
        (usage_is_at before.pool f no_usage low high ∙ ap (λ (vs : List Usage). get_or vs (f - 1) no_usage) as_flown) count
        ∙ ap
        (λ (vs : List Usage). set vs (f - 1) (record (get_or (flown_from sites 1 us) (f - 1) no_usage) { in_flight = count_by (serves_function f) (set sites i now) })) as_flown
        ∙ sym (flown_change sites i now no_site 1 us (f - 1) c.within same (omega (arith, low)) (omega (arith, low, high)))

pub change_kept : (before after : Inside) (i : ℕ) (now old : Site) → IsFleet before → IsChange before after i now old → IsFleet after
change_kept before after i now old k c = record {
  due = rw (c.sites, c.due, k.due) (sym (map-set deadline_at before.sites.items i now));
  places = rw (c.sites, c.places, sym here) (ap (λ (ps : List Place). set ps i (site_place now)) k.places ∙ sym (map-set site_place before.sites.items i now));
  pool = pool ∙ again;
  owned = rw (c.sites, as_many) (All-set (IsOwned (length before.pool.functions)) before.sites.items i now own k.owned);
  narrow =
      rw c.sites (All-set (λ site. length site.environment.stand.members ≤ after.widest) before.sites.items i now c.narrow (wider before.sites.items k.narrow));
  ten = c.ten;
  few = rw (c.sites, length-set before.sites.items i now) k.few;
}
  where
    pool : after.pool ≡ flown after.sites.items before.pool
    pool = change_pool before after i now old k c

    twice : (sites : List Site) (a : ℕ) (us : List Usage) → flown_from sites a us ≡ flown_from sites a (flown_from sites a us)
    twice sites a [] = refl
    twice sites a (u ∷ us) = ap (λ vs. record u { in_flight = count_by (serves_function a) sites } ∷ vs) (twice sites (suc a) us)

    again : flown after.sites.items before.pool ≡ flown after.sites.items after.pool
    again =
        ap (λ (us : List Usage). record before.pool { functions = us }) (twice after.sites.items 1 before.pool.functions)
        ∙ ap (flown after.sites.items) (sym pool)

    as_many : length after.pool.functions ≡ length before.pool.functions
    as_many = ap (λ (p : Numbers). length p.functions) pool ∙ flown_length after.sites.items 1 before.pool.functions

    own : IsOwned (length before.pool.functions) now
    own =
        let o : IsOwned (length before.pool.functions) old = subst (IsOwned (length before.pool.functions)) c.was (All-get_or (IsOwned (length before.pool.functions)) before.sites.items i no_site c.within k.owned) in rw c.function o

    wider : (sites : List Site) → All (λ site. length site.environment.stand.members ≤ before.widest) sites
        → All (λ site. length site.environment.stand.members ≤ after.widest) sites
    wider sites all = λ j d lt. omega (arith, all j d lt, c.widest)

    placed : i + 1 ≤ length before.places
    placed = rw (k.places, length-map before.sites.items site_place) (omega (arith, c.within))

    here : site_place now ≡ record (placement.place_at before.places (i + 1)) { class = class_of now.environment.stand.phase }
    here = ap (λ (f : ℕ). let p : Place = record { function = f; class = class_of now.environment.stand.phase } in p)
        (c.function ∙ sym (ap (λ (p : Place). p.function) (place_is_at before.places (i + 1) placement.no_place (omega arith) placed ∙ index ∙ get_or-map site_place before.sites.items i no_site placement.no_place c.within ∙ ap site_place c.was)))
      where
        index : get_or before.places (i + 1 - 1) placement.no_place ≡ get_or (map site_place before.sites.items) i placement.no_place
        index =
            let e : i + 1 - 1 ≡ i = omega arith in ap (λ (n : ℕ). get_or before.places n placement.no_place) e ∙ ap (λ (ps : List Place). get_or ps i placement.no_place) k.places

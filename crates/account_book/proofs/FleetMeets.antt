-- What is kept beside the environments of a history is what the history says.
use Rattle.std.proofs.Common.{◌≡◌, ℕ, zero, suc, ◌+◌, ◌≤◌, Bool, true, false, cond, List, [], ◌∷◌, length, map}
use Rattle.std.proofs.Common.{filter_map, Option, Some, None, sym, refl, ap, ap₂, ◌∙◌, arith, ◌&&◌, ◌==◌, nat_le}
use Rattle.std.proofs.Common.{count_by, if◌then◌else◌, option_map}
use Rattle.std.specs.List.{cons_option}
use Rattle.std.proofs.lemmas.List.Sums.{sum_by-cons}
use Rattle.std.proofs.lemmas.List.{length-map}
use Rattle.arn_ids.specs.declared.config.Config.{Config}
use Rattle.arn_ids.specs.Environments.{environments, function_of, count_from, owners}
use Rattle.call_model.proofs.Basics.{map_map, none-some}
use Rattle.call_types.specs.declared.answer.Phase.{Phase}
use Rattle.call_types.specs.declared.call.Entry.{Entry}
use Rattle.call_model.specs.Laws.{is_taken}
use Rattle.call_model.specs.Life.{phase, seen}
use Rattle.call_model.specs.Limits.{in_flight, by_limits, reservation}
use Rattle.call_model.specs.Next.{IsLegal, due, due_at, has_come, deadline_of, by_deadline, first}
use Rattle.call_model.proofs.Deadlines.{by_deadline_length}
use Rattle.call_model.proofs.Flight.{flight}
use Rattle.concurrency_pool.specs.declared.pool.Usage.{Usage}
use Rattle.concurrency_pool.specs.Meets.{numbers, usage, by_throttle}
use Rattle.concurrency_pool.specs.Pools.{throttle}
use Rattle.concurrency_pool.proofs.History as pool
use Rattle.deadlines.specs.Due.{first_due, come, due_among}
use Rattle.deadlines.specs.Meets.{deadlines}
use Rattle.deadlines.proofs.Order.{first_is}
use Rattle.placement.specs.Meets.{places}
use Rattle.placement.specs.Places.{place_among}
use Rattle.placement.proofs.Lowest.{place_is}
use Rattle.fleet.specs.declared.site.Site.{Site}
use Rattle.account_book.specs.Fleets.{serves_function, flown_from, flown, deadline_at, site_place, is_site_due}
use Rattle.fleet.specs.Sites.{site, sites}
use Rattle.fleet.proofs.Loops.{count_length}

pub sites_length : (config : Config) (h : List Entry) → length (sites config h) ≡ length (owners config)
sites_length config h = length-map (environments config) (site config h) ∙ count_length 1 (length (owners config))

pub deadlines_are : (config : Config) (h : List Entry) → map deadline_at (sites config h) ≡ deadlines config h
unfolding seen
deadlines_are config h = sym (map_map deadline_at (site config h) (environments config))

pub places_are : (config : Config) (h : List Entry) → map site_place (sites config h) ≡ places config h
unfolding seen
places_are config h = sym (map_map site_place (site config h) (environments config))

-- counts over the environments are counts over the sites
count_sites : (p : ℕ → Bool) (q : Site → Bool) (g : ℕ → Site) → ((e : ℕ) → q (g e) ≡ p e) → (es : List ℕ) → count_by q (map g es) ≡ count_by p es
count_sites p q g same [] = refl
count_sites p q g same (e ∷ es) =
    sum_by-cons (λ s. cond (q s) 1 0) (g e) (map g es)
    ∙ ap₂ (λ (b : Bool) (n : ℕ). cond b 1 0 + n) (same e) (count_sites p q g same es)
    ∙ sym (sum_by-cons (λ d. cond (p d) 1 0) e es)

pub in_flight_is : (config : Config) (h : List Entry) (f : ℕ) → IsLegal config h → in_flight config h f ≡ count_by (serves_function f) (sites config h)
unfolding seen
in_flight_is config h f l =
    flight config h f l
    ∙ sym (count_sites (λ e. (function_of config e == f) && is_taken (phase config h e)) (serves_function f) (site config h) (λ e. refl) (environments config))

-- functions from a on
flown_each : (g : ℕ → Usage) (sites : List Site) → ((f : ℕ) → (g f).in_flight ≡ count_by (serves_function f) sites)
    → (a n : ℕ) → map g (count_from a n) ≡ flown_from sites a (map g (count_from a n))
flown_each g sites same a zero = refl
flown_each g sites same a (suc n) = ap₂ ◌∷◌ (ap (λ (m : ℕ). record (g a) { in_flight = m }) (same a)) (flown_each g sites same (suc a) n)

-- what the history gives the functions in flight is how many environments serve them
pub numbers_flown : (config : Config) (h : List Entry) → IsLegal config h → numbers config h ≡ flown (sites config h) (numbers config h)
numbers_flown config h l =
    ap (λ (us : List Usage). record (numbers config h) { functions = us })
    (flown_each (usage config h) (sites config h) (λ f. in_flight_is config h f l) 1 (length config.functions))

-- the functions from a on, where their reservations are the same after an entry
flown_next : (g k : ℕ → Usage) (sites : List Site)
    → ((f : ℕ) → k f ≡ record (g f) { in_flight = count_by (serves_function f) sites }) → (a n : ℕ)
    → flown_from sites a (map g (count_from a n)) ≡ map k (count_from a n)
flown_next g k sites same a zero = refl
flown_next g k sites same a (suc n) = ap₂ ◌∷◌ (sym (same a)) (flown_next g k sites same (suc a) n)

pub numbers_next : (config : Config) (h : List Entry) (entry : Entry) → IsLegal config (entry ∷ h)
    → ((f : ℕ) → reservation config (entry ∷ h) f ≡ reservation config h f)
    → flown (sites config (entry ∷ h)) (numbers config h) ≡ numbers config (entry ∷ h)
numbers_next config h entry l same =
    ap (λ (us : List Usage). record (numbers config h) { functions = us })
    (flown_next (usage config h) (usage config (entry ∷ h)) (sites config (entry ∷ h)) (λ f. ap₂ (λ (r : Option ℕ) (n : ℕ). record (usage config h f) { reserved = r; in_flight = n }) (same f) (in_flight_is config (entry ∷ h) f l)) 1 (length config.functions))

-- what is due
pub first_due_is : (config : Config) (h : List Entry) (m : ℕ) → first_due m (map deadline_at (sites config h)) ≡ first (due config h m)
first_due_is config h m = ap (first_due m) (deadlines_are config h) ∙ first_is config h m

-- how many deadlines have come
come_length : (m e : ℕ) (sites : List Site) → length (come m e (map deadline_at sites)) ≡ count_by (is_site_due m) sites
come_length m e [] = refl
come_length m e (s ∷ ss) = go (deadline_at s) (come_length m (suc e) ss) ∙ sym (sum_by-cons (λ x. cond (is_site_due m x) 1 0) s ss)
  where
    rest : List (ℕ × ℕ)
    rest = come m (suc e) (map deadline_at ss)

    tested : (d : ℕ) (b : Bool) → length (cons_option (if b then Some (d, e) else None) rest) ≡ cond b 1 0 + length rest
    tested d true = omega arith
    tested d false = omega arith

    go : (o : Option ℕ) → length rest ≡ count_by (is_site_due m) ss
        → length (cons_option (due_at m e o) rest) ≡ cond (has_come m o) 1 0 + count_by (is_site_due m) ss
    go None ih = rw (sym ih) (omega arith)
    go (Some d) ih = rw (sym ih) (tested d (nat_le d m))

pub due_count : (m : ℕ) (sites : List Site) → length (due_among m 1 (map deadline_at sites)) ≡ count_by (is_site_due m) sites
due_count m sites = by_deadline_length (come m 1 (map deadline_at sites)) ∙ come_length m 1 sites

-- none is due where there is no first
pub none_due : (m : ℕ) (sites : List Site) → first_due m (map deadline_at sites) ≡ None → count_by (is_site_due m) sites ≡ 0
unfolding first_due
none_due m sites q = sym (due_count m sites) ∙ empty (due_among m 1 (map deadline_at sites)) q
  where
    empty : (xs : List (ℕ × ℕ)) → option_map (λ a. a.1) (first xs) ≡ None → length xs ≡ 0
    empty [] r = refl
    empty (x ∷ xs) r = absurd (none-some (sym r))

come_is : (m : ℕ) (P : ℕ → Phase) (g : ℕ → Site) → ((e : ℕ) → deadline_at (g e) ≡ deadline_of (P e)) → (a n : ℕ)
    → come m a (map deadline_at (map g (count_from a n))) ≡ filter_map (λ e. due_at m e (deadline_of (P e))) (count_from a n)
come_is m P g same a zero = refl
come_is m P g same a (suc n) = ap₂ (λ (o : Option ℕ) rest. cons_option (due_at m a o) rest) (same a) (come_is m P g same (suc a) n)

pub due_count_is : (config : Config) (h : List Entry) (m : ℕ) → count_by (is_site_due m) (sites config h) ≡ length (due config h m)
unfolding due seen
due_count_is config h m =
    sym (due_count m (sites config h))
    ∙ ap (λ xs. length (by_deadline xs)) (come_is m (phase config h) (site config h) (λ e. refl) 1 (length (owners config)))
    ∙ sym (length-map (by_deadline (filter_map (λ e. due_at m e (deadline_of (phase config h e))) (environments config))) (λ (a : ℕ × ℕ). a.1))

-- whether an Invoke is admitted, and where
pub limits_are : (config : Config) (h : List Entry) (f : ℕ) → 1 ≤ f → f ≤ length config.functions
    → by_limits config h f (reservation config h f) ≡ by_throttle (throttle (numbers config h) f) (place_among (map site_place (sites config h)) f)
limits_are config h f low high =
    pool.verdict_is config h f low high
    ∙ ap (by_throttle (throttle (numbers config h) f)) (sym (ap (λ ps. place_among ps f) (places_are config h) ∙ place_is config h f))

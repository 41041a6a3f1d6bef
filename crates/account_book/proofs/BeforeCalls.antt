-- What a journal keeps before any call.
use Rattle.std.proofs.Common.{◌≡◌, ℕ, zero, suc, ◌+◌, ◌≤◌, [], length, map, sym, ap, ap₂, ◌∙◌, arith, ◌<◌, None, All, get_or}
use Rattle.arn_ids.specs.declared.config.Config.{Config}
use Rattle.arn_ids.specs.Environments.{owners, count_from}
use Rattle.arn_ids.proofs.Bounds.{owner_is_function}
use Rattle.call_model.specs.Generation.{members}
use Rattle.call_model.specs.Life.{seen, life}
use Rattle.fleet.specs.Sites.{site, sites}
use Rattle.std.proofs.lemmas.List.{length-map}
use Rattle.std.proofs.lemmas.List.Elements.{All-map}
use Rattle.arn_ids.proofs.Bounds.{environments_256}
use Rattle.arn_ids.specs.Environments.{environments, function_numbers}
use Rattle.arn_ids.specs.Faults.{first_fault}
use Rattle.concurrency_pool.specs.Meets.{numbers, usage}
use Rattle.concurrency_pool.specs.Numbers.{Numbers}
use Rattle.deadlines.specs.Meets.{deadlines}
use Rattle.placement.specs.Meets.{places}
use Rattle.account_book.specs.declared.crew.Fleet.TheInside.{Inside}
use Rattle.fleet.specs.declared.site.Site.{Site}
use Rattle.account_book.specs.Fleets.{IsFleet, IsOwned, deadline_at, site_place, flown}
use Rattle.fleet.proofs.Loops.{count_length}
use Rattle.account_book.proofs.FleetMeets.{sites_length, deadlines_are, places_are, numbers_flown}

count_at : (a n i d : ℕ) → i < n → get_or (count_from a n) i d ≡ a + i
count_at a zero i d lt = absurd (omega (arith, lt))
count_at a (suc n) zero d lt = omega arith
count_at a (suc n) (suc i) d lt = count_at (suc a) n i d (omega (arith, lt)) ∙ (let same : suc a + i ≡ a + suc i = omega arith in same)

nobody : (config : Config) (e : ℕ) → length (site config [] e).environment.stand.members ≤ 0
unfolding seen life members
nobody config e = omega arith

-- what is kept beside the environments of a configuration before any call
pub fleet_opened : (f : Inside) (config : Config) → first_fault config ≡ None → f.sites.items ≡ sites config []
    → f.due ≡ deadlines config [] → f.places ≡ places config [] → f.pool ≡ numbers config [] → f.widest ≡ 0 → IsFleet f
fleet_opened f config sound is due place pool none = record {
  due = due ∙ sym (deadlines_are config []) ∙ ap (map deadline_at) (sym is);
  places = place ∙ sym (places_are config []) ∙ ap (map site_place) (sym is);
  pool = pool ∙ numbers_flown config [] tt ∙ ap₂ flown (sym is) (sym pool);
  owned = rw (is, many) (All-map (IsOwned (length config.functions)) (site config []) (environments config) own);
  narrow =
      rw (is, none)
      (All-map (λ (s : Site). length s.environment.stand.members ≤ 0) (site config []) (environments config) (λ i d lt. nobody config (get_or (environments config) i d)));
  ten = rw none (omega arith);
  few = rw (is, sites_length config []) (environments_256 config sound);
}
  where
    many : length f.pool.functions ≡ length config.functions
    many = ap (λ (p : Numbers). length p.functions) pool ∙ length-map (function_numbers config) (usage config []) ∙ count_length 1 (length config.functions)

    own : All (λ e. IsOwned (length config.functions) (site config [] e)) (environments config)
    own i d lt =
        let below : i < length (owners config) = rw (sym (count_length 1 (length (owners config)))) lt in
        let number : get_or (environments config) i d ≡ 1 + i = count_at 1 (length (owners config)) i d below in
        let owner = owner_is_function config (1 + i) (omega arith) (omega (arith, below)) in
        rw number (owner.0, owner.1)

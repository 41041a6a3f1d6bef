-- A loop in which one environment after the other takes a call.
use Rattle.std.proofs.Common.{◌≡◌, ℕ, suc, ◌+◌, ◌*◌, ◌<◌, ◌≤◌, List, [], ◌∷◌, ◌++◌, length, map, take, drop, get_or}
use Rattle.std.proofs.Common.{set, sym, refl, ap, ap₂, ◌∙◌, arith, drop-cons, add-one, count_by}
use Rattle.call_types.specs.declared.answer.Answer.{Answer}
use Rattle.concurrency_pool.specs.declared.pool.Usage.{Usage}
use Rattle.fleet.proofs.Loops.{one_more}
use Rattle.account_book.specs.Crew.{Crew}
use Rattle.fleet.specs.declared.site.Site.{Site}
use Rattle.account_book.specs.Fleets.{no_site, put_all, merged, flown, flown_from, serves_function}

-- The first so many environments have taken the call: their answers are among the answers.
pub record IsVisited (move : Site → Site) (moves : Site → List (ℕ × Answer)) (n : ℕ) (first now : Crew) (old new : List (ℕ × Answer) × ℕ) : Type 0 where
  pub sites : now.sites ≡ map move (take n first.sites) ++ drop n first.sites
  pub pool : now.pool ≡ flown now.sites first.pool
  pub widest : now.widest ≡ first.widest
  pub answers : merged moves (drop n first.sites) new.0 ≡ merged moves first.sites old.0
  pub room : old.1 ≤ new.1 + 13 * n

flown_again : (s t : List Site) (a : ℕ) (us : List Usage) → flown_from t a (flown_from s a us) ≡ flown_from t a us
flown_again s t a [] = refl
flown_again s t a (u ∷ us) = ap (λ vs. record u { in_flight = count_by (serves_function a) t } ∷ vs) (flown_again s t (suc a) us)

pub visit_one : (move : Site → Site) (moves : Site → List (ℕ × Answer)) (n : ℕ) (first now after : Crew) (old new then : List (ℕ × Answer) × ℕ) (s : Site)
    → IsVisited move moves n first now old new → n < length first.sites
    → s ≡ get_or first.sites n no_site → after.sites ≡ set now.sites n (move s)
    → after.pool ≡ flown after.sites now.pool → after.widest ≡ now.widest → then.0 ≡ put_all (moves s) new.0
    → then.1 + length (moves s) ≡ new.1 → length (moves s) ≤ 13 → IsVisited move moves (n + 1) first after old then
visit_one move moves n first now after old new then s k lt is sites pool widest answers room few = record {
  sites =
      sites ∙ ap₂ (λ xs x. set xs n (move x)) k.sites is ∙ one_more move first.sites n no_site lt
      ∙ ap (λ m. map move (take m first.sites) ++ drop m first.sites) (sym (add-one n));
  pool =
      pool ∙ ap (flown after.sites) k.pool
      ∙ ap (λ (us : List Usage). record first.pool { functions = us }) (flown_again now.sites after.sites 1 first.pool.functions);
  widest = widest ∙ k.widest;
  answers =
      ap₂ (λ m a. merged moves (drop m first.sites) a) (add-one n) (answers ∙ ap (λ x. put_all (moves x) new.0) is)
      ∙ ap (λ xs. merged moves xs new.0) (sym (drop-cons first.sites n no_site lt)) ∙ k.answers;
  room = omega (arith, k.room, room, few);
}

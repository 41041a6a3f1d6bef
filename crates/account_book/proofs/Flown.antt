-- What is in flight of each function follows from the environments, one changed environment after the other.
use Rattle.std.proofs.Common.{◌≡◌, ◌≢◌, ℕ, zero, suc, ◌+◌, ◌-◌, ◌<◌, ◌≤◌, Bool, false, cond, List, [], ◌∷◌, length}
use Rattle.std.proofs.Common.{get_or, set, count_by, sym, refl, ap, ap₂, ◌∙◌, arith, ◌&&◌, ◌==◌, drop, Option}
use Rattle.std.proofs.lemmas.Bool.Decides.{nat_tests}
use Rattle.std.proofs.lemmas.List.{set-get_or}
use Rattle.std.proofs.lemmas.List.Sums.{sum_by-set}
use Rattle.call_model.specs.Laws.{is_taken}
use Rattle.concurrency_pool.proofs.Numbered.{usage_is_at}
use Rattle.concurrency_pool.specs.declared.pool.Usage.{Usage}
use Rattle.concurrency_pool.specs.Numbers.{Numbers}
use Rattle.concurrency_pool.specs.Pools.{usage_at, with_in_flight, with_reserved}
use Rattle.concurrency_pool.specs.Usages.{no_usage}
use Rattle.fleet.specs.declared.site.Site.{Site}
use Rattle.account_book.specs.Fleets.{serves_function, flown_from, flown}

-- as many in flight as there are
pub same_count : (pool : Numbers) (f n : ℕ) → 1 ≤ f → f ≤ length pool.functions → n ≡ (usage_at pool f).in_flight → with_in_flight pool f n ≡ pool
same_count pool f n from_one there same =
    ap (λ (functions : List Usage). record pool { functions = functions })
    (ap (λ (m : ℕ). set pool.functions (f - 1) (record (usage_at pool f) { in_flight = m })) same
    ∙ ap (set pool.functions (f - 1)) (usage_is_at pool f no_usage from_one there)
    ∙ set-get_or pool.functions (f - 1) no_usage)

-- how many environments serve a function, where one of them changes
serving_set : (sites : List Site) (i : ℕ) (now d : Site) (f : ℕ) → i < length sites
    → count_by (serves_function f) (set sites i now) + cond (serves_function f (get_or sites i d)) 1 0 ≡ count_by (serves_function f) sites + cond (serves_function f now) 1 0
serving_set sites i now d f lt = sum_by-set (λ s. cond (serves_function f s) 1 0) sites i now d lt

-- a function that the changed environment doesn't belong to
serving_other : (sites : List Site) (i : ℕ) (now d : Site) (f : ℕ) → i < length sites
    → now.function ≡ (get_or sites i d).function → f ≢ now.function
    → count_by (serves_function f) (set sites i now) ≡ count_by (serves_function f) sites
serving_other sites i now d f lt same ne = level _ _ _ _ (serving_set sites i now d f lt) (none (get_or sites i d) (sym same)) (none now refl)
  where
    none : (s : Site) → s.function ≡ now.function → serves_function f s ≡ false
    none s q = ap (λ (b : Bool). b && is_taken s.environment.stand.phase) (let no : (s.function == f) ≡ false = grind (arith, nat_tests, ne, q) in no)

    level : (m n : ℕ) (b c : Bool) → m + cond b 1 0 ≡ n + cond c 1 0 → b ≡ false → c ≡ false → m ≡ n
    level m n b c q r s = let k : m + cond false 1 0 ≡ n + cond false 1 0 = rw (r, s) at q in omega (arith, k)

-- the functions from a on, where the environment at i changes, which belongs to one of them
pub flown_change : (sites : List Site) (i : ℕ) (now d : Site) (a : ℕ) (usages : List Usage) (j : ℕ) → i < length sites
    → now.function ≡ (get_or sites i d).function → a + j ≡ now.function → j < length usages
    → flown_from (set sites i now) a usages ≡ set (flown_from sites a usages) j (record (get_or (flown_from sites a usages) j no_usage) { in_flight = count_by (serves_function now.function) (set sites i now) })
flown_change sites i now d a [] j lt same at within = absurd (omega arith)
flown_change sites i now d a (u ∷ us) zero lt same at within =
    let here : a ≡ now.function = omega (arith, at) in
    ap₂ ◌∷◌ (ap (λ (f : ℕ). record u { in_flight = count_by (serves_function f) (set sites i now) }) here) (rest (suc a) us (λ f le. serving_other sites i now d f lt same (λ q. past f le q here)))
  where
    past : (f : ℕ) → suc a ≤ f → f ≡ now.function → a ≡ now.function → ⊥
    past f le q r = omega (arith, le, q, r)

    rest : (b : ℕ) (vs : List Usage)
        → ((f : ℕ) → b ≤ f → count_by (serves_function f) (set sites i now) ≡ count_by (serves_function f) sites)
        → flown_from (set sites i now) b vs ≡ flown_from sites b vs
    rest b [] others = refl
    rest b (v ∷ vs) others =
        ap₂ ◌∷◌ (ap (λ (n : ℕ). record v { in_flight = n }) (others b (omega arith))) (rest (suc b) vs (λ f le. others f (omega (arith, le))))
flown_change sites i now d a (u ∷ us) (suc j) lt same at within =
    ap₂ ◌∷◌ (ap (λ (n : ℕ). record u { in_flight = n }) (serving_other sites i now d a lt same (λ q. before q))) (flown_change sites i now d (suc a) us j lt same (omega (arith, at)) (omega (arith, within)))
  where
    before : a ≡ now.function → ⊥
    before q = omega (arith, at, q)

flown_set : (sites : List Site) (a : ℕ) (us : List Usage) (j : ℕ) (u : Usage)
    → u.in_flight ≡ count_by (serves_function (a + j)) sites → us ≡ flown_from sites a us
    → set us j u ≡ flown_from sites a (set us j u)
flown_set sites a [] j u same k = refl
flown_set sites a (v ∷ vs) zero u same k =
    let here : a + 0 ≡ a = omega arith in
    ap₂ ◌∷◌ (ap (λ (n : ℕ). record u { in_flight = n }) (same ∙ ap (λ (f : ℕ). count_by (serves_function f) sites) here)) (ap (drop 1) k)
flown_set sites a (v ∷ vs) (suc j) u same k =
    let there : a + suc j ≡ suc a + j = omega arith in
    ap₂ ◌∷◌ (ap (λ (xs : List Usage). get_or xs 0 v) k) (flown_set sites (suc a) vs j u (same ∙ ap (λ (f : ℕ). count_by (serves_function f) sites) there) (ap (drop 1) k))

-- another reservation leaves what is in flight
pub flown_reserved : (sites : List Site) (pool : Numbers) (f : ℕ) (count : Option ℕ) → 1 ≤ f
    → (usage_at pool f).in_flight ≡ count_by (serves_function f) sites → pool ≡ flown sites pool
    → with_reserved pool f count ≡ flown sites (with_reserved pool f count)
flown_reserved sites pool f count low same k =
    let back : f ≡ 1 + (f - 1) = omega (arith, low) in
    ap (λ (us : List Usage). record pool { functions = us })
    (flown_set sites 1 pool.functions (f - 1) (record (usage_at pool f) { reserved = count }) (same ∙ ap (λ (g : ℕ). count_by (serves_function g) sites) back) (ap (λ (p : Numbers). p.functions) k))

-- The stands of all environments after an entry that concerns one of them.
use Rattle.std.proofs.Common.{◌≡◌, ℕ, zero, suc, ◌+◌, ◌<◌, ◌≤◌, List, ◌∷◌, sym, refl, ap, ap₂, ◌∙◌, subst, arith, ◌≢◌, map, set}
use Rattle.call_types.specs.declared.call.Entry.{Entry}
use Rattle.arn_ids.specs.declared.config.Config.{Config}
use Rattle.arn_ids.specs.Environments.{count_from, environments}
use Rattle.call_model.specs.Life.{stand}
use Rattle.call_model.specs.Stand.{Stand}

pub all_same : {A : Type 0} (f g : ℕ → A) (first n : ℕ) → ((d : ℕ) → first ≤ d → f d ≡ g d) → map f (count_from first n) ≡ map g (count_from first n)
all_same f g first zero e = refl
all_same f g first (suc n) e = ap₂ ◌∷◌ (e first (omega arith)) (all_same f g (suc first) n (λ d le. e d (omega (arith, le))))

pub one_changes : {A : Type 0} (f g : ℕ → A) (first n i : ℕ) → ((d : ℕ) → d ≢ first + i → f d ≡ g d) → i < n
    → map f (count_from first n) ≡ set (map g (count_from first n)) i (f (first + i))
one_changes f g first zero i e lt = absurd (omega (arith, lt))
one_changes f g first (suc n) zero e lt =
    let same : first + 0 ≡ first = omega arith in ap₂ ◌∷◌ (ap f (sym same)) (all_same f g (suc first) n (λ d le. e d (λ q. no first d (omega (arith, q, same)) le)))
  where
    no : (a d : ℕ) → d ≡ a → suc a ≤ d → ⊥
    no a d q le = omega (arith, q, le)
one_changes f g first (suc n) (suc i) e lt =
    let same : suc first + i ≡ first + suc i = omega arith in ap₂ ◌∷◌ (e first (λ q. no first i q)) (subst (λ m. map f (count_from (suc first) n) ≡ set (map g (count_from (suc first) n)) i (f m)) same (one_changes f g (suc first) n i (λ d ne. e d (λ q. ne (q ∙ sym same))) (omega (arith, lt))))
  where
    no : (a b : ℕ) → a ≡ a + suc b → ⊥
    no a b q = omega (arith, q)

-- the stands of all environments
abbrev pub stands : Config → List Entry → List Stand
stands config h = map (stand config h) (environments config)

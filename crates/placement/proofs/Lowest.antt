-- The lowest numbered environment of a class is the definitions' one.
use Rattle.std.proofs.Common.{◌≡◌, ℕ, zero, suc, ◌+◌, Bool, true, false, cond, not, List, [], ◌∷◌, length, map, Option}
use Rattle.std.proofs.Common.{Some, None, sym, refl, ap, ap₂, ◌∙◌, arith, ◌&&◌, ◌==◌, nat_lt, option_map}
use Rattle.std.specs.List.{find, position, position_or_len}
use Rattle.std.proofs.lemmas.Bool.Decides.{nat_tests}
use Rattle.arn_ids.specs.declared.config.Config.{Config}
use Rattle.arn_ids.specs.Environments.{function_of, count_from, owners}
use Rattle.call_types.specs.declared.answer.Phase.{Phase}
use Rattle.call_types.specs.declared.answer.Phase.TheVariants as phases
use Rattle.call_types.specs.declared.call.Entry.{Entry}
use Rattle.call_model.specs.History.{or_else}
use Rattle.call_model.specs.Life.{phase, life}
use Rattle.call_model.specs.Limits.{lowest, place, is_free_starting, is_free_closing}
use Rattle.call_model.specs.Stand.{is_idle}
use Rattle.placement.specs.declared.class.Class.{Class}
use Rattle.placement.specs.declared.class.Class.TheVariants.{Idle, StartingFree, ClosingFree}
use Rattle.placement.specs.Class.{class_of, is_class}
use Rattle.placement.specs.Places.{is_of, lowest_of, place_among, opened}
use Rattle.placement.specs.Meets.{place_of, places}

-- the first index that passes, one element on
position_cons : {X : Type 0} (q : X → Bool) (x : X) (xs : List X) → position q (x ∷ xs) ≡ cond (q x) (Some 0) (option_map suc (position q xs))
position_cons q x xs = go (q x)
  where
    k : ℕ
    k = position_or_len q xs

    later : (b : Bool) → nat_lt (1 + k) (suc (length xs)) ≡ b → nat_lt k (length xs) ≡ b
        → cond (nat_lt (1 + k) (suc (length xs))) (Some (1 + k)) None ≡ option_map suc (cond (nat_lt k (length xs)) (Some k) None)
    later true p r = let one : 1 + k ≡ suc k = omega arith in rw (p, r, one) refl
    later false p r = rw (p, r) refl

    same : nat_lt (1 + k) (suc (length xs)) ≡ nat_lt k (length xs)
    same = grind (arith, nat_tests)

    zero_less : nat_lt 0 (suc (length xs)) ≡ true
    zero_less = grind (arith, nat_tests)

    go : (b : Bool)
        → cond (nat_lt (cond (not b) (1 + k) 0) (suc (length xs))) (Some (cond (not b) (1 + k) 0)) None ≡ cond b (Some 0) (option_map suc (position q xs))
    go true = rw zero_less refl
    go false = later (nat_lt k (length xs)) same refl

-- a search over numbers from a on is one over what they number
find_numbered : {X : Type 0} (p : ℕ → Bool) (q : X → Bool) (g : ℕ → X) → ((e : ℕ) → q (g e) ≡ p e) → (a n : ℕ)
    → find p (count_from a n) ≡ option_map (λ i. a + i) (position q (map g (count_from a n)))
find_numbered p q g same a zero = refl
find_numbered p q g same a (suc n) =
    rw (position_cons q (g a) (map g (count_from (suc a) n)), same a, find_numbered p q g same (suc a) n) (go (p a) (position q (map g (count_from (suc a) n))))
  where
    shift : (o : Option ℕ) → option_map (λ i. suc a + i) o ≡ option_map (λ i. a + i) (option_map suc o)
    shift None = refl
    shift (Some i) = let e : suc a + i ≡ a + suc i = omega arith in ap (λ (k : ℕ). Some k) e

    go : (b : Bool) (o : Option ℕ) → cond b (Some a) (option_map (λ i. suc a + i) o) ≡ option_map (λ i. a + i) (cond b (Some 0) (option_map suc o))
    go true o = let e : a ≡ a + 0 = omega arith in ap (λ (k : ℕ). Some k) e
    go false o = shift o

lowest_is : (config : Config) (h : List Entry) (f : ℕ) (class : Class) (passes : Phase → Bool)
    → ((P : Phase) → is_class class (class_of P) ≡ passes P)
    → lowest_of f class (places config h) ≡ lowest config h f passes
lowest_is config h f class passes same =
    sym
    (find_numbered (λ e. (function_of config e == f) && passes (phase config h e)) (is_of f class) (place_of config h) (λ e. ap (λ (b : Bool). (function_of config e == f) && b) (same (phase config h e))) 1 (length (owners config))
    ∙ one (position (is_of f class) (places config h)))
  where
    one : (o : Option ℕ) → option_map (λ i. 1 + i) o ≡ option_map suc o
    one None = refl
    one (Some i) = let e : 1 + i ≡ suc i = omega arith in ap (λ (k : ℕ). Some k) e

idle : (P : Phase) → is_class Idle (class_of P) ≡ is_idle P
idle phases.Idle = refl
idle (phases.Starting d None) = refl
idle (phases.Starting d (Some t)) = refl
idle (phases.Closing r u None) = refl
idle (phases.Closing r u (Some t)) = refl
idle (phases.Busy p d) = refl
idle phases.Off = refl

starting : (P : Phase) → is_class StartingFree (class_of P) ≡ is_free_starting P
starting phases.Idle = refl
starting (phases.Starting d None) = refl
starting (phases.Starting d (Some t)) = refl
starting (phases.Closing r u None) = refl
starting (phases.Closing r u (Some t)) = refl
starting (phases.Busy p d) = refl
starting phases.Off = refl

closing : (P : Phase) → is_class ClosingFree (class_of P) ≡ is_free_closing P
closing phases.Idle = refl
closing (phases.Starting d None) = refl
closing (phases.Starting d (Some t)) = refl
closing (phases.Closing r u None) = refl
closing (phases.Closing r u (Some t)) = refl
closing (phases.Busy p d) = refl
closing phases.Off = refl

-- where an invocation goes
pub place_is : (config : Config) (h : List Entry) (f : ℕ) → place_among (places config h) f ≡ place config h f
unfolding place place_among
place_is config h f =
    ap₂ or_else (lowest_is config h f Idle is_idle idle)
    (ap₂ or_else (lowest_is config h f StartingFree is_free_starting starting) (lowest_is config h f ClosingFree is_free_closing closing))

pub opened_is : (config : Config) → opened config ≡ places config []
unfolding life
opened_is config = refl

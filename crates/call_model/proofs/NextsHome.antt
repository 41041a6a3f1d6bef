-- The Nexts of a generation were made at its environment.
use Rattle.std.proofs.Common.{◌≡◌, ℕ, true, List, [], ◌∷◌, Some, length, arith, None, sym, refl, true≢false, ap, Bool, false, Option, ◌∙◌, ◌||◌, if◌then◌else◌}
use Rattle.std.proofs.lemmas.Bool.{eqb-true}
use Rattle.call_types.specs.declared.call.Call.{Call}
use Rattle.call_types.specs.declared.call.Call.TheVariants.{Invoke, RuntimeNext, ExtNext}
use Rattle.call_types.specs.declared.call.Entry.{Entry}
use Rattle.arn_ids.specs.declared.config.Config.{Config}
use Rattle.call_model.specs.History.{or_else}
use Rattle.call_types.specs.Calls.{env_of}
use Rattle.call_model.specs.Generation.{Generation, Actor, asks, TheRuntime, TheExtension, last_next}
use Rattle.call_model.specs.Stand.{is_number}
use Rattle.call_model.specs.Life.{names, life, concerns, lived, after, ends_here}
use Rattle.call_model.specs.Limits.{place_for}
use Rattle.call_model.specs.Answers.{home}
use Rattle.call_model.specs.Next.{IsLegal}
use Rattle.call_model.proofs.Pairs.{eqb-other}
use Rattle.call_model.proofs.BoundWaits.{IsPart, generation_part}
use Rattle.call_model.proofs.Basics.{eqb-self, some-none}
use Rattle.call_model.proofs.Visits.{visit, if_concerned, if_ended}

-- each Next of a generation is one at the environment
abbrev pub AreHome : List Entry → ℕ → Generation → Type 0
AreHome h e [] = Unit {0}
AreHome h e (taken ∷ g) = ((actor : Actor) → asks actor taken.1.call ≡ true → home h taken.0 ≡ Some e) × AreHome h e g

home_older : (entry : Entry) (h : List Entry) (e : ℕ) (g : Generation) → IsPart h g → AreHome h e g → AreHome (entry ∷ h) e g
home_older entry h e [] p o = tt
home_older entry h e (taken ∷ g) p o = (λ actor a. rw (eqb-other taken.0 (length h) (omega (arith, p.0.0))) (o.0 actor a), home_older entry h e g p.1 o.1)

asks_place : (config : Config) (h : List Entry) (call : Call) (actor : Actor) → asks actor call ≡ true → place_for config h call ≡ None
asks_place config h (Invoke f qualified trace body) TheRuntime a = absurd (true≢false (sym a))
asks_place config h (Invoke f qualified trace body) (TheExtension x) a = absurd (true≢false (sym a))
asks_place config h call actor a = refl

asks_env : (h : List Entry) (e : ℕ) (call : Call) (actor : Actor) → asks actor call ≡ true → names h e call ≡ true → env_of call ≡ Some e
asks_env h e (RuntimeNext d) TheRuntime a n = ap (λ (k : ℕ). Some k) (eqb-true d e n)
asks_env h e (ExtNext d x) (TheExtension y) a n = ap (λ (k : ℕ). Some k) (eqb-true d e n)
asks_env h e (RuntimeNext d) (TheExtension y) a n = absurd (true≢false (sym a))
asks_env h e (ExtNext d x) TheRuntime a n = absurd (true≢false (sym a))
asks_env h e call TheRuntime a n = absurd (true≢false (sym a))
asks_env h e call (TheExtension y) a n = absurd (true≢false (sym a))

pub nexts_home : (config : Config) (h : List Entry) (e : ℕ) → IsLegal config h → AreHome h e (life config h e).generation
unfolding life lived after
nexts_home config [] e l = tt
nexts_home config (entry ∷ h) e l =
    go (concerns h e entry) refl (home_older entry h e (life config h e).generation (generation_part config h e) (nexts_home config h e l.0))
  where
    no_place : (o : Option ℕ) → o ≡ None → (is_number o e || names h e entry.call) ≡ true → names h e entry.call ≡ true
    no_place None q c = c
    no_place (Some d) q c = absurd (some-none q)

    or_none : (o : Option ℕ) → o ≡ None → or_else o (env_of entry.call) ≡ env_of entry.call
    or_none None q = refl
    or_none (Some d) q = absurd (some-none q)

    new : concerns h e entry ≡ true → (actor : Actor) → asks actor entry.call ≡ true → home (entry ∷ h) (length h) ≡ Some e
    new c actor a =
        let none : entry.place ≡ None = l.1.place ∙ asks_place config h entry.call actor a in
        rw (eqb-self (length h)) (or_none entry.place none ∙ asks_env h e entry.call actor a (no_place entry.place none c))

    at_end : (b : Bool) → concerns h e entry ≡ true → AreHome (entry ∷ h) e (life config h e).generation
        → AreHome (entry ∷ h) e (if_ended b (visit config h e entry)).generation
    at_end true c k = tt
    at_end false c k = (new c, k)

    go : (b : Bool) → concerns h e entry ≡ b → AreHome (entry ∷ h) e (life config h e).generation
        → AreHome (entry ∷ h) e (if_concerned b (visit config h e entry)).generation
    go false c k = k
    go true c k = at_end (ends_here (visit config h e entry)) c k

last_home : (h : List Entry) (e : ℕ) (g : Generation) (actor : Actor) (t : ℕ) → AreHome h e g → last_next g actor ≡ Some t → home h t ≡ Some e
last_home h e [] actor t o q = absurd (some-none (sym q))
last_home h e (taken ∷ g) actor t o q = go (asks actor taken.1.call) refl (last_home h e g actor t o.1) q
  where
    go : (b : Bool) → asks actor taken.1.call ≡ b → (last_next g actor ≡ Some t → home h t ≡ Some e)
        → (if b then Some taken.0 else last_next g actor) ≡ Some t → home h t ≡ Some e
    go true a ih r = let same : taken.0 ≡ t = cc in ap (home h) (sym same) ∙ o.0 actor a
    go false a ih r = ih r

-- the environment of an actor's last Next
pub next_home : (config : Config) (h : List Entry) (e : ℕ) (actor : Actor) (t : ℕ) → IsLegal config h
    → last_next (life config h e).generation actor ≡ Some t → home h t ≡ Some e
next_home config h e actor t l q = last_home h e (life config h e).generation actor t (nexts_home config h e l) q

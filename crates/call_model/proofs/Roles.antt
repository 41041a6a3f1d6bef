-- The roles of what an environment has at hand and of its runtime's parked Next.
use Rattle.std.proofs.Common.{◌≡◌, ℕ, Bool, true, false, List, Option, Some, None, sym, refl, ap, ◌∙◌, subst, is_some, ◌&&◌, true≢false, if◌then◌else◌}
use Rattle.std.proofs.lemmas.Bool.{eqb-true}
use Rattle.call_types.specs.declared.call.Call.{Call}
use Rattle.call_types.specs.declared.call.Call.TheVariants.{RuntimeNext, ExtNext}
use Rattle.call_types.specs.declared.call.Entry.{Entry}
use Rattle.arn_ids.specs.declared.config.Config.{Config}
use Rattle.call_model.specs.History.{call_of, pending}
use Rattle.call_model.specs.Generation.{Generation, Actor, TheRuntime, TheExtension, parked, if_pending, last_next, asks}
use Rattle.call_model.specs.Stand.{is_number, at_hand, role, RuntimePoll, waits_as}
use Rattle.call_model.specs.Life.{life, phase, stand, seen, request_at}
use Rattle.call_model.specs.Next.{IsLegal}
use Rattle.call_model.proofs.Pairs.{eqb-other}
use Rattle.call_model.proofs.AtHand.{held}
use Rattle.call_model.proofs.BoundWaits.{IsPart, generation_part, last_asks, invoke_asks}
use Rattle.call_model.proofs.Basics.{eqb-self, some-none}

-- a parked Next is a Next of its actor
pub parked_asks_for : (h : List Entry) (g : Generation) (actor : Actor) (t : ℕ) → IsPart h g → parked h g actor ≡ Some t → asks actor (call_of h t) ≡ true
parked_asks_for h g actor t p q = go (last_next g actor) refl q
  where
    go : (o : Option ℕ) → last_next g actor ≡ o → if_pending h o ≡ Some t → asks actor (call_of h t) ≡ true
    go None r k = absurd (some-none (sym k))
    go (Some u) r k = both (pending h u) k
      where
        both : (b : Bool) → (if b then Some u else None) ≡ Some t → asks actor (call_of h t) ≡ true
        both true m = let same : u ≡ t = cc in subst (λ n. asks actor (call_of h n) ≡ true) same (last_asks h g actor u p r)
        both false m = absurd (some-none (sym m))

pub one_asker : (call : Call) (x y : ℕ) → asks (TheExtension x) call ≡ true → asks (TheExtension y) call ≡ true → x ≡ y
one_asker (ExtNext e z) x y a b = sym (eqb-true z x a) ∙ eqb-true z y b
one_asker call x y a b = absurd (true≢false (sym a))

pub not_both : (call : Call) (x : ℕ) → asks TheRuntime call ≡ true → asks (TheExtension x) call ≡ true → ⊥
not_both (RuntimeNext e) x a b = true≢false (sym b)
not_both call x a b = true≢false (sym a)

-- an option is no number that it can't be
pub other_number : (o : Option ℕ) (t : ℕ) → (o ≡ Some t → ⊥) → is_number o t ≡ false
other_number None t e = refl
other_number (Some u) t e = eqb-other u t (λ same. e (ap (λ (n : ℕ). Some n) same))

-- what is at hand isn't a Next
pub not_waiting : (config : Config) (h : List Entry) (e t : ℕ) (actor : Actor) → IsLegal config h
    → asks actor (call_of h t) ≡ true → waits_as (stand config h e) t ≡ false
unfolding seen
not_waiting config h e t actor l a = go (is_some (request_at config h e (at_hand (phase config h e))))
  where
    go : (b : Bool) → (b && is_number (at_hand (phase config h e)) t) ≡ false
    go false = refl
    go true = other_number (at_hand (phase config h e)) t (λ q. invoke_asks actor (call_of h t) ((held config h e t l q).invoke) a)

-- The role of the runtime's parked Next.
pub role_runtime : (config : Config) (h : List Entry) (e t : ℕ) → IsLegal config h
    → parked h (life config h e).generation TheRuntime ≡ Some t → role (stand config h e) t ≡ RuntimePoll
unfolding role seen
role_runtime config h e t l q =
    rw (not_waiting config h e t TheRuntime l (parked_asks_for h (life config h e).generation TheRuntime t (generation_part config h e) q), q, eqb-self t) refl

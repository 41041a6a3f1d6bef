-- Where invocations live and Nexts stand, as the public law states it.
use Rattle.std.proofs.Common.{◌≡◌, ℕ, true, false, List, Some, sym, refl, ◌∙◌, true≢false}
use Rattle.call_types.specs.declared.call.Entry.{Entry}
use Rattle.arn_ids.specs.declared.config.Config.{Config}
use Rattle.call_model.specs.History.{pending, place_of, call_of, poll_env}
use Rattle.call_model.specs.Generation.{Actor, asks}
use Rattle.call_model.specs.Stand.{at_hand, bound_of, is_number}
use Rattle.call_model.specs.Life.{phase}
use Rattle.call_model.specs.Laws.{lives, is_open}
use Rattle.call_model.specs.Next.{IsLegal}
use Rattle.call_model.proofs.AtHand.{held}
use Rattle.call_model.proofs.BoundWaits.{bound_waits}
use Rattle.call_model.proofs.Lives as L
use Rattle.call_model.proofs.ParkedNexts.{standing, one_standing, poll_of, some_actor, polled_by}
use Rattle.call_model.proofs.Basics.{eqb-self, and_right, number_some}
use Rattle.std.proofs.lemmas.Option.{same_Some}

-- an invocation lives in one place
pub lives_there : (config : Config) (h : List Entry) (p e : ℕ) → IsLegal config h → place_of h p ≡ Some e → pending h p ≡ true → lives config h p e ≡ true
lives_there config h p e l q w = rw (w, L.lives config h e p l (rw q (eqb-self e)) w, eqb-self p) refl

at_place : (config : Config) (h : List Entry) (p e : ℕ) → lives config h p e ≡ true → at_hand (phase config h e) ≡ Some p
at_place config h p e q = number_some (at_hand (phase config h e)) p (and_right (pending h p) (is_number (at_hand (phase config h e)) p) q)

pub lives_only_there : (config : Config) (h : List Entry) (p e : ℕ) → IsLegal config h → lives config h p e ≡ true → place_of h p ≡ Some e
lives_only_there config h p e l q = number_some (place_of h p) e ((held config h e p l (at_place config h p e q)).placed)

-- of those that were placed in one environment, one waits
pub waits_alone : (config : Config) (h : List Entry) (p q e : ℕ) → IsLegal config h → place_of h p ≡ Some e
    → pending h p ≡ true → place_of h q ≡ Some e → pending h q ≡ true → q ≡ p
waits_alone config h p q e l a w b v = same_Some q p (sym (L.lives config h e q l (rw b (eqb-self e)) v) ∙ L.lives config h e p l (rw a (eqb-self e)) w)

-- one that waits no more is bound nowhere
pub bound_nowhere : (config : Config) (h : List Entry) (p e : ℕ) → IsLegal config h → pending h p ≡ false → bound_of (phase config h e) ≡ Some p → ⊥
bound_nowhere config h p e l w q = true≢false (sym (bound_waits config h e p l q) ∙ w)

-- parked polls
pub stands_open : (config : Config) (h : List Entry) (e t : ℕ) → IsLegal config h → poll_env (call_of h t) ≡ Some e
    → pending h t ≡ true → is_open (phase config h e) ≡ true
stands_open config h e t l q w =
    let who : (actor : Actor) × (poll_of (call_of h t) ≡ Some (e, actor)) = some_actor (call_of h t) e q in
    (standing config h e t who.0 l who.1 w).opened

pub stands_alone : (config : Config) (h : List Entry) (e t u : ℕ) (actor : Actor) → IsLegal config h
    → poll_env (call_of h t) ≡ Some e → asks actor (call_of h t) ≡ true → pending h t ≡ true
    → poll_env (call_of h u) ≡ Some e → asks actor (call_of h u) ≡ true → pending h u ≡ true → t ≡ u
stands_alone config h e t u actor l p a w q b v =
    one_standing config h e t u actor l (polled_by (call_of h t) e actor p a) w (polled_by (call_of h u) e actor q b) v

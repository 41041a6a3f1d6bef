-- The invocation whose charge an entry ends at an environment.
use Rattle.std.proofs.Common.{◌≡◌, ℕ, ◌<◌, ◌≤◌, Bool, true, false, eqb, List, [], ◌∷◌, length, Option, Some, None, sym}
use Rattle.std.proofs.Common.{refl, ap, ap₂, ◌∙◌, inl, inr, arith, not, ◌&&◌, true≢false, if◌then◌else◌}
use Rattle.std.proofs.lemmas.Bool.{cases_lt}
use Rattle.std.proofs.lemmas.Bool.Decides.{eqb_tells}
use Rattle.call_types.specs.declared.call.Entry.{Entry}
use Rattle.arn_ids.specs.declared.config.Config.{Config}
use Rattle.call_model.specs.History.{call_of, place_of}
use Rattle.call_model.specs.Stand.{at_hand, is_number}
use Rattle.call_model.specs.Life.{phase}
use Rattle.call_model.specs.Limits.{is_charged}
use Rattle.call_model.specs.Laws.{ended_by, no_longer}
use Rattle.call_model.specs.Next.{IsLegal}
use Rattle.call_model.proofs.Pairs.{eqb-other}
use Rattle.call_model.proofs.AfterEntry.{place_of_old}
use Rattle.call_model.proofs.AtHand.{held}
use Rattle.call_model.proofs.Charges.{charged_here}

-- a ticket with what the history has of it
with_ticket : List Entry → ℕ → ℕ × Entry
with_ticket h t = (t, record { moment = 0; call = call_of h t; answers = []; place = place_of h t })

charged_ticket : (config : Config) (h : List Entry) (e t : ℕ) → IsLegal config h → t < length h
    → (is_number (place_of h t) e && is_charged config h t) ≡ is_number (at_hand (phase config h e)) t
unfolding with_ticket
charged_ticket config h e t l lt = charged_here config h e (with_ticket h t) l (lt, refl, refl)

no_longer_is : (a b : Option ℕ) (t : ℕ) → is_number (no_longer a b) t ≡ (is_number a t && not (is_number b t))
no_longer_is None b t = refl
no_longer_is (Some p) b t = elim (eqb_tells p t) [
  | inl q ↦ rw q.0 (at_it (is_number b p) (is_number b t) q.0 (ap (is_number b) q.1))
  | inr q ↦ rw q.0 (away (is_number b p) q.0)
]
  where
    at_it : (x y : Bool) → eqb p t ≡ true → x ≡ y → is_number (if x then None else Some p) t ≡ (true && not y)
    at_it true true k e = refl
    at_it false false k e = k
    at_it true false k e = absurd (true≢false e)
    at_it false true k e = absurd (true≢false (sym e))

    away : (x : Bool) → eqb p t ≡ false → is_number (if x then None else Some p) t ≡ false
    away true e = refl
    away false e = e

-- An invocation of the environment was charged before the entry and isn't after just where the phases tell it.
pub ended : (config : Config) (h : List Entry) (entry : Entry) (e t : ℕ) → IsLegal config (entry ∷ h)
    → (is_number (place_of h t) e && (is_charged config h t && not (is_charged config (entry ∷ h) t))) ≡ is_number (ended_by (phase config h e) (phase config (entry ∷ h) e)) t
ended config h entry e t l = elim (cases_lt t (length h)) [
  | inl lt ↦ old lt
  | inr ge ↦ rw (nowhere h ge) (sym (no_longer_is (at_hand (phase config h e)) (at_hand (phase config (entry ∷ h) e)) t ∙ ap (λ (b : Bool). b && not (is_number (at_hand (phase config (entry ∷ h) e)) t)) (not_held (at_hand (phase config h e)) refl ge)))
]
  where
    both : (n c c' a b : Bool) → (n && c) ≡ a → (n && c') ≡ b → (n && (c && not c')) ≡ (a && not b)
    both true c c' a b p q = ap₂ (λ (x y : Bool). x && not y) p q
    both false c c' a b p q = ap (λ (x : Bool). x && not b) p

    old : t < length h
        → (is_number (place_of h t) e && (is_charged config h t && not (is_charged config (entry ∷ h) t))) ≡ is_number (ended_by (phase config h e) (phase config (entry ∷ h) e)) t
    old lt =
        let here : is_number (place_of h t) e ≡ is_number (place_of (entry ∷ h) t) e = ap (λ (o : Option ℕ). is_number o e) (sym (place_of_old entry h t lt)) in
        both (is_number (place_of h t) e) (is_charged config h t) (is_charged config (entry ∷ h) t)
        (is_number (at_hand (phase config h e)) t) (is_number (at_hand (phase config (entry ∷ h) e)) t)
        (charged_ticket config h e t l.0 lt)
        (ap (λ (b : Bool). b && is_charged config (entry ∷ h) t) here ∙ charged_ticket config (entry ∷ h) e t l (omega (arith, lt)))
        ∙ sym (no_longer_is (at_hand (phase config h e)) (at_hand (phase config (entry ∷ h) e)) t)

    nowhere : (k : List Entry) → length k ≤ t → place_of k t ≡ None
    nowhere [] ge = refl
    nowhere (x ∷ k) ge = rw (eqb-other t (length k) (omega (arith, ge))) (nowhere k (omega (arith, ge)))

    not_held : (o : Option ℕ) → at_hand (phase config h e) ≡ o → length h ≤ t → is_number o t ≡ false
    not_held None q ge = refl
    not_held (Some p) q ge = eqb-other p t (omega (arith, ge, (held config h e p l.0 q).older))

-- The invocation that an environment has at hand was placed there.
use Rattle.std.proofs.Common.{◌≡◌, ℕ, ◌<◌, Bool, true, false, List, [], ◌∷◌, length, Option, Some, None, sym, refl, ap}
use Rattle.std.proofs.Common.{◌∙◌, subst, inl, inr, arith, ◌≢◌, ◌⊎◌, ◌||◌, true≢false, if◌then◌else◌}
use Rattle.std.proofs.lemmas.Bool.Decides.{nat_tests}
use Rattle.call_types.specs.declared.answer.Reason.{Reason}
use Rattle.call_types.specs.declared.answer.Phase.{Phase}
use Rattle.call_types.specs.declared.answer.Phase.TheVariants.{Starting, Idle, Busy, Closing, Off}
use Rattle.call_types.specs.declared.call.Call.{Call}
use Rattle.call_types.specs.declared.call.Call.TheVariants.{Invoke, RuntimeNext, Response, ResponseTooLarge, Failure}
use Rattle.call_types.specs.declared.call.Call.TheVariants.{InitFailure, Register, ExtNext, ExtInitFailure}
use Rattle.call_types.specs.declared.call.Call.TheVariants.{ExtExitFailure, Tick, Withdraw, Spindown, Stop, Expire}
use Rattle.call_types.specs.declared.call.Call.TheVariants.{Reserve}
use Rattle.call_types.specs.declared.call.Entry.{Entry}
use Rattle.arn_ids.specs.declared.config.Config.{Config}
use Rattle.call_model.specs.History.{call_of, place_of}
use Rattle.call_types.specs.Calls.{is_invoke}
use Rattle.call_model.specs.Stand.{Stand, at_hand, bound_of, is_number, is_known}
use Rattle.call_model.specs.Table.{reborn, settled, kept, closes, or_closing, placed, clock_started, unbound, is_registered, own_answer}
use Rattle.call_model.specs.Life.{Lifecycle, life, phase, stand, seen, concerns, names, limit_of}
use Rattle.call_model.specs.Next.{IsLegal, IsLegalBy, Follows, FollowsBy, IsTimely, Rule}
use Rattle.call_model.proofs.Pairs.{eqb-other}
use Rattle.call_model.proofs.Once.{fresh_by}
use Rattle.call_model.proofs.Scans.{silent_by}
use Rattle.call_model.proofs.PhaseStep.{phase_step, cell_of}
use Rattle.call_model.specs.Limits.{is_busy_with}
use Rattle.std.proofs.lemmas.Bool.{eqb-true}
use Rattle.call_model.proofs.Basics.{some-none, eqb-self}
use Rattle.call_model.proofs.Elsewhere.{life_elsewhere}
use Rattle.std.proofs.Math.Bool.{or-false}

pub bound_at_hand : (P : Phase) (p : ℕ) → bound_of P ≡ Some p → at_hand P ≡ Some p
bound_at_hand (Busy q d) p e = absurd (some-none (sym e))
bound_at_hand (Starting d b) p e = e
bound_at_hand (Closing reason until b) p e = e
bound_at_hand Idle p e = e
bound_at_hand Off p e = e

from_settled : (limit : ℕ) (r w : Bool) (P : Phase) (p : ℕ) → at_hand (settled limit r w P) ≡ Some p → at_hand P ≡ Some p
from_settled limit true w (Starting d None) p e = e
from_settled limit true w (Starting d (Some q)) p e = e
from_settled limit true false (Busy q d) p e = absurd (some-none (sym e))
from_settled limit true true (Busy q d) p e = e
from_settled limit true w Idle p e = e
from_settled limit true w (Closing reason until b) p e = e
from_settled limit true w Off p e = e
from_settled limit false w Idle p e = e
from_settled limit false w (Starting d b) p e = e
from_settled limit false w (Busy q d) p e = e
from_settled limit false w (Closing reason until b) p e = e
from_settled limit false w Off p e = e

from_reborn : (over : Bool) (now : ℕ) (b : Option ℕ) (p : ℕ) → at_hand (reborn over now b) ≡ Some p → b ≡ Some p
from_reborn true now b p e = absurd (some-none (sym e))
from_reborn false now None p e = e
from_reborn false now (Some q) p e = e

pub from_closing : (now : ℕ) (c : Option Reason) (P : Phase) (p : ℕ) → at_hand (or_closing now c P) ≡ Some p → (c ≡ None) × (at_hand P ≡ Some p)
from_closing now None P p e = (refl, e)
from_closing now (Some reason) P p e = absurd (some-none (sym e))

from_clock : (now : ℕ) (P : Phase) (p : ℕ) → at_hand (clock_started now P) ≡ Some p → at_hand P ≡ Some p
from_clock now (Starting d b) p e = e
from_clock now Idle p e = e
from_clock now (Busy q d) p e = e
from_clock now (Closing reason until b) p e = e
from_clock now Off p e = e

from_unbound : (P : Phase) (p : ℕ) → at_hand (unbound P) ≡ Some p → at_hand P ≡ Some p
from_unbound (Starting d b) p e = e
from_unbound Idle p e = e
from_unbound (Busy q d) p e = e
from_unbound (Closing reason until b) p e = absurd (some-none (sym e))
from_unbound Off p e = e

from_placed : (now limit n : ℕ) (P : Phase) (p : ℕ) → at_hand (placed now limit n P) ≡ Some p → (n ≡ p) ⊎ (at_hand P ≡ Some p)
from_placed now limit n Idle p e = inl (cc)
from_placed now limit n (Starting d b) p e = inl (cc)
from_placed now limit n (Closing reason until b) p e = inl (cc)
from_placed now limit n (Busy q d) p e = inr e
from_placed now limit n Off p e = inr e

choice : (P Q : Phase) (b : Bool) (p : ℕ) → (at_hand P ≡ Some p → at_hand Q ≡ Some p) → at_hand (if b then P else Q) ≡ Some p → at_hand Q ≡ Some p
choice P Q true p f e = f e
choice P Q false p f e = e

-- what is at hand after the table's cell was at hand, or is the Invoke that is placed
pub from_kept : (now limit n : ℕ) (s : Stand) (call : Call) (p : ℕ) → at_hand (kept now limit n s call) ≡ Some p
    → ((n ≡ p) × (is_invoke call ≡ true)) ⊎ (at_hand s.phase ≡ Some p)
unfolding kept
from_kept now limit n s (Invoke f qualified trace body) p e = elim (from_placed now limit n s.phase p e) [ inl q ↦ inl (q, refl) | inr q ↦ inr q ]
from_kept now limit n s (RuntimeNext d) p e = inr (from_clock now s.phase p e)
from_kept now limit n s (ExtNext d x) p e = inr (choice (clock_started now s.phase) s.phase (is_known s x) p (from_clock now s.phase p) e)
from_kept now limit n s (Register d name invoke shutdown account) p e =
    inr (choice (clock_started now s.phase) s.phase (is_registered (own_answer s (Register d name invoke shutdown account))) p (from_clock now s.phase p) e)
from_kept now limit n s Stop p e = inr (two s.stopped e)
  where
    two : (b : Bool) → at_hand (if b then s.phase else unbound s.phase) ≡ Some p → at_hand s.phase ≡ Some p
    two true q = q
    two false q = from_unbound s.phase p q
from_kept now limit n s (Response d id body) p e = inr e
from_kept now limit n s (ResponseTooLarge d id) p e = inr e
from_kept now limit n s (Failure d id body) p e = inr e
from_kept now limit n s (InitFailure d body) p e = inr e
from_kept now limit n s (ExtInitFailure d x body) p e = inr e
from_kept now limit n s (ExtExitFailure d x body) p e = inr e
from_kept now limit n s Tick p e = inr e
from_kept now limit n s (Withdraw t) p e = inr e
from_kept now limit n s (Spindown d) p e = inr e
from_kept now limit n s (Expire d) p e = inr e
from_kept now limit n s (Reserve f count) p e = inr e

pub from_after : (b over r w : Bool) (now limit : ℕ) (cell : Phase) (p : ℕ)
    → at_hand (if b then reborn over now (bound_of cell) else settled limit r w cell) ≡ Some p → at_hand cell ≡ Some p
from_after true over r w now limit cell p e = bound_at_hand cell p (from_reborn over now (bound_of cell) p e)
from_after false over r w now limit cell p e = from_settled limit r w cell p e

-- what is at hand after an entry
pub from_entry_by : (rule : Rule) (config : Config) (h : List Entry) (entry : Entry) (e p : ℕ) → IsLegalBy rule config h
    → FollowsBy rule config h entry → at_hand (phase config (entry ∷ h) e) ≡ Some p
    → ((length h ≡ p) × (is_invoke entry.call ≡ true) × (concerns h e entry ≡ true)) ⊎ (at_hand (phase config h e) ≡ Some p)
unfolding seen
from_entry_by rule config h entry e p l f q = go (concerns h e entry) refl
  where
    cell : Phase
    cell = cell_of config e entry (length h) (stand config h e)

    at_cell : at_hand cell ≡ Some p → ((length h ≡ p) × (is_invoke entry.call ≡ true)) ⊎ (at_hand (phase config h e) ≡ Some p)
    at_cell w =
        from_kept entry.moment (limit_of config e entry.moment) (length h) (stand config h e) entry.call p
        (from_closing entry.moment (closes (stand config h e) entry.call) (kept entry.moment (limit_of config e entry.moment) (length h) (stand config h e) entry.call) p w).1

    go : (c : Bool) → concerns h e entry ≡ c
        → ((length h ≡ p) × (is_invoke entry.call ≡ true) × (concerns h e entry ≡ true)) ⊎ (at_hand (phase config h e) ≡ Some p)
    go false w = inr (ap (λ (x : Lifecycle). at_hand x.phase) (sym (life_elsewhere config h entry e w)) ∙ q)
    go true w =
        elim
        (at_cell (from_after _ _ _ _ entry.moment (limit_of config e entry.moment) cell p (sym (ap at_hand (phase_step config h entry e w (fresh_by rule config h (length h) l (omega arith)) (silent_by rule config h entry f))) ∙ q)))
        [ inl x ↦ inl (x.0, x.1, w) | inr x ↦ inr x ]

pub from_entry : (config : Config) (h : List Entry) (entry : Entry) (e p : ℕ) → IsLegal config h
    → Follows config h entry → at_hand (phase config (entry ∷ h) e) ≡ Some p
    → ((length h ≡ p) × (is_invoke entry.call ≡ true) × (concerns h e entry ≡ true)) ⊎ (at_hand (phase config h e) ≡ Some p)
from_entry config h entry e p l f q = from_entry_by IsTimely config h entry e p l f q

-- The invocation at hand is one that was placed there.
pub record IsHeld (h : List Entry) (e p : ℕ) : Type 0 where
  pub older : p < length h
  pub invoke : is_invoke (call_of h p) ≡ true
  pub placed : is_number (place_of h p) e ≡ true

kept_older : (entry : Entry) (h : List Entry) (e p : ℕ) → IsHeld h e p → IsHeld (entry ∷ h) e p
kept_older entry h e p k =
    let ne : p ≢ length h = omega (arith, k.older) in
    record { older = omega (arith, k.older); invoke = rw (eqb-other p (length h) ne) (k.invoke); placed = rw (eqb-other p (length h) ne) (k.placed) }

-- an Invoke concerns an environment only where it is placed there
pub placed_here : (h : List Entry) (entry : Entry) (e : ℕ) → is_invoke entry.call ≡ true → concerns h e entry ≡ true → is_number entry.place e ≡ true
placed_here h entry e i c = go entry.call i c
  where
    go : (call : Call) → is_invoke call ≡ true → (is_number entry.place e || names h e call) ≡ true → is_number entry.place e ≡ true
    go (Invoke f qualified trace body) a b = sym (or-false (is_number entry.place e)) ∙ b
    go call a b = absurd (true≢false (sym a))

pub held_by : (rule : Rule) (config : Config) (h : List Entry) (e p : ℕ) → IsLegalBy rule config h → at_hand (phase config h e) ≡ Some p → IsHeld h e p
unfolding life
held_by rule config [] e p l q = absurd (some-none (sym q))
held_by rule config (entry ∷ h) e p l q =
    elim (from_entry_by rule config h entry e p l.0 l.1 q) [
      | inl new ↦ newly new.0 new.1 new.2
      | inr old ↦ kept_older entry h e p (held_by rule config h e p l.0 old)
    ]
  where
    newly : length h ≡ p → is_invoke entry.call ≡ true → concerns h e entry ≡ true → IsHeld (entry ∷ h) e p
    newly at i c =
        subst (λ n. IsHeld (entry ∷ h) e n) at
        (record { older = omega arith; invoke = rw (eqb-self (length h)) i; placed = rw (eqb-self (length h)) (placed_here h entry e i c) })

pub held : (config : Config) (h : List Entry) (e p : ℕ) → IsLegal config h → at_hand (phase config h e) ≡ Some p → IsHeld h e p
held config h e p l q = held_by IsTimely config h e p l q

pub busy_at_hand : (P : Phase) (t : ℕ) → is_busy_with P t ≡ true → at_hand P ≡ Some t
busy_at_hand (Busy p d) t e = ap (λ (n : ℕ). Some n) (eqb-true p t e)
busy_at_hand P t e = absurd (true≢false (sym e))

pub at_hand_is : (P : Phase) (t : ℕ) → at_hand P ≡ Some t → (is_busy_with P t ≡ true) ⊎ (bound_of P ≡ Some t)
at_hand_is (Busy p d) t e = inl (let q : p ≡ t = cc in grind (arith, nat_tests))
at_hand_is (Starting d b) t e = inr e
at_hand_is (Closing reason until b) t e = inr e
at_hand_is Idle t e = inr e
at_hand_is Off t e = inr e

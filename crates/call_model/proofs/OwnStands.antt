-- The stand of an environment of the function is the same in the function's own history.
use Rattle.std.proofs.Common.{◌≡◌, ℕ, Bool, true, List, Option, Some, None, sym, refl, ap, ◌∙◌, if◌then◌else◌, false}
use Rattle.std.proofs.Common.{◌∷◌, length, inl, inr, ◌||◌, true≢false, subst, []}
use Rattle.call_types.specs.declared.call.Entry.{Entry}
use Rattle.arn_ids.specs.declared.config.Config.{Config}
use Rattle.arn_ids.specs.Environments.{function_of}
use Rattle.call_model.specs.History.{stopped, requests, upto}
use Rattle.call_model.specs.Stand.{at_hand, is_number}
use Rattle.call_model.specs.Life.{Lifecycle, phase, seen, request_at, registrations, events, Visit, history_with, limit}
use Rattle.call_model.specs.Life.{phase_by_table, ends_here, after, life, first_part, stand, lived, concerns, limit_of}
use Rattle.call_model.specs.Next.{IsLegal}
use Rattle.call_model.specs.Own.{own, own_entry, is_own, own_ticket}
use Rattle.call_model.proofs.OwnTickets.{own_length, foreign}
use Rattle.call_model.proofs.TwinHistories.{IsTwin, IsMine, IsSameLife, parked_alike, members_alike, IsAlike, after_alike}
use Rattle.call_model.proofs.Basics.{some-none}
use Rattle.call_types.specs.declared.answer.Phase.{Phase}
use Rattle.call_model.specs.Generation.{TheRuntime}
use Rattle.call_model.specs.Table.{after_cell, kept, closes}
use Rattle.call_model.proofs.AtHand.{from_after, from_kept, from_closing}
use Rattle.call_model.proofs.Elsewhere.{life_elsewhere}
use Rattle.call_model.proofs.Visits.{visit_from, if_ended, visit, if_concerned}
use Rattle.call_model.proofs.TicketsWithin.{IsFit, legal_fit}
use Rattle.call_model.proofs.OwnHistory.{Agrees, agrees_older, agrees_now, twin_own, twin_cons, own_same}
use Rattle.call_model.proofs.OwnHistory.{own_first_same, own_names, own_requests_upto, own_cons}
use Rattle.call_model.proofs.OwnEvents.{own_registrations, own_events, events_step}

-- what the two histories say of an environment of the function
pub seen_same : (config : Config) (f e : ℕ) (P : ℕ → Bool) (o h : List Entry) (l m : Lifecycle)
    → function_of config e ≡ f → IsTwin P o h → IsSameLife P l m → IsMine P m.phase
    → ((p : ℕ) → requests (upto o p) f ≡ requests (upto h p) f) → registrations o e ≡ registrations h e
    → events o e ≡ events h e → seen config o e l ≡ seen config h e m
unfolding seen
seen_same config f e P o h l m at w a mine asked registered told = λ i. record {
  phase = a.0 i;
  runtime = parked_alike P o h l.generation m.generation TheRuntime w a.1 i;
  members = members_alike P o h l.generation m.generation w a.1 i;
  request = request i;
  stopped = w.stop i;
  registrations = registered i;
  events = told i;
}
  where
    asks_here : (p : ℕ) → requests (upto o p) (function_of config e) ≡ requests (upto h p) (function_of config e)
    asks_here p = ap (requests (upto o p)) at ∙ asked p ∙ sym (ap (requests (upto h p)) at)

    go : (hand : Option ℕ) → ((p : ℕ) → hand ≡ Some p → P p ≡ true) → request_at config o e hand ≡ request_at config h e hand
    go None k = refl
    go (Some p) k = λ i. if w.pend p (k p refl) i then Some (asks_here p i) else None

    request : request_at config o e (at_hand l.phase) ≡ request_at config h e (at_hand m.phase)
    request = ap (λ (x : Phase). request_at config o e (at_hand x)) (a.0) ∙ go (at_hand m.phase) mine

after_mine : (config : Config) (P : ℕ → Bool) (h : List Entry) (e : ℕ) (y : Entry) (m : Lifecycle)
    → IsMine P (phase_by_table (visit_from config h e y m)) → IsMine P (after (visit_from config h e y m)).phase
unfolding after
after_mine config P h e y m mine p q = mine p (go (ends_here v) q)
  where
    v : Visit
    v = visit_from config h e y m

    go : (b : Bool) → at_hand (if_ended b v).phase ≡ Some p → at_hand (phase_by_table v) ≡ Some p
    go true r = from_after true (stopped (history_with v)) true true y.moment (limit v) (phase_by_table v) p r
    go false r = from_after false true _ _ y.moment (limit v) (phase_by_table v) p r

-- the function's own history has an environment live as the whole one
abbrev pub IsSame : Config → (ℕ → Bool) → List Entry → List Entry → ℕ → Type 0
IsSame config P o h e = IsSameLife P (life config o e) (life config h e) × IsMine P (phase config h e)

pub same_step : (config : Config) (h : List Entry) (entry : Entry) (f e : ℕ) (P : ℕ → Bool) → IsLegal config h
    → IsFit config h entry → is_own config h f entry.call ≡ true → Agrees config (entry ∷ h) f P
    → stand config (own config h f) e ≡ stand config h e → IsSame config P (own config h f) h e
    → IsSame config P (own_entry true config h f entry ∷ own config h f) (entry ∷ h) e
unfolding life seen lived
same_step config h entry f e P l fit w agrees stands ih =
    go (concerns (own config h f) e (own_entry true config h f entry)) (concerns h e entry)
    (ap (λ (b : Bool). is_number entry.place e || b) (own_names config h f e entry.call w))
  where
    x : Entry
    x = own_entry true config h f entry

    alike : IsAlike P (length (own config h f), x) (length h, entry)
    alike =
        record { ticket = own_length config h f; call = refl; own = agrees_now config entry h f P agrees ∙ w; answers = λ t k. own_same config h entry f P t (fit.within) agrees k }

    mine : IsMine P (after_cell entry.moment (limit_of config e entry.moment) (length h) (stand config h e) entry.call)
    mine p q =
        elim
        (from_kept entry.moment (limit_of config e entry.moment) (length h) (stand config h e) entry.call p (from_closing entry.moment (closes (stand config h e) entry.call) (kept entry.moment (limit_of config e entry.moment) (length h) (stand config h e) entry.call) p q).1) [
          | inl new ↦ ap P (sym (new.0)) ∙ agrees_now config entry h f P agrees ∙ w
          | inr old ↦ ih.1 p old
        ]

    lives : IsSameLife P (after (visit config (own config h f) e x)) (after (visit config h e entry))
    lives =
        after_alike config P (own config h f) h e x entry (life config (own config h f) e)
        (life config h e) refl refl stands (twin_own config h f P l (agrees_older config entry h f P agrees))
        (twin_cons config h f P (first_part x) (first_part entry) l (agrees_older config entry h f P agrees) refl (λ t k. own_first_same config h entry f P t (fit.within) agrees k))
        (alike, ih.0.1) (ih.0.0) mine

    go : (b c : Bool) → b ≡ c
        → IsSameLife P (if_concerned b (visit config (own config h f) e x)) (if_concerned c (visit config h e entry)) × IsMine P (if_concerned c (visit config h e entry)).phase
    go true true q = (lives, after_mine config P h e entry (life config h e) mine)
    go false false q = ih
    go true false q = absurd (true≢false q)
    go false true q = absurd (true≢false (sym q))

-- an entry of others
same_other : (config : Config) (h : List Entry) (entry : Entry) (f e : ℕ) (P : ℕ → Bool) → IsLegal config (entry ∷ h)
    → function_of config e ≡ f → is_own config h f entry.call ≡ false
    → IsSame config P (own config h f) h e → IsSame config P (own_entry false config h f entry ∷ own config h f) (entry ∷ h) e
same_other config h entry f e P l at w ih =
    subst
    (λ (m : Lifecycle). IsSameLife P (life config (own_entry false config h f entry ∷ own config h f) e) m × IsMine P m.phase)
    (sym (life_elsewhere config h entry e (foreign config h entry f l.1 w e at)))
    (subst (λ (m : Lifecycle). IsSameLife P m (life config h e) × IsMine P (phase config h e)) (sym (life_elsewhere config (own config h f) (own_entry false config h f entry) e refl)) ih)

stand_of_same : (config : Config) (h : List Entry) (f e : ℕ) (P : ℕ → Bool) → IsLegal config h
    → function_of config e ≡ f → Agrees config h f P → IsSame config P (own config h f) h e
    → stand config (own config h f) e ≡ stand config h e
stand_of_same config h f e P l at a same =
    seen_same config f e P (own config h f) h (life config (own config h f) e) (life config h e) at
    (twin_own config h f P l a) (same.0) (same.1) (own_requests_upto config h f) (own_registrations config h f e at)
    (own_events config h f e l at)

pub same_legal : (config : Config) (h : List Entry) (f e : ℕ) (P : ℕ → Bool) → IsLegal config h
    → function_of config e ≡ f → Agrees config h f P → IsSame config P (own config h f) h e
unfolding own life
same_legal config [] f e P l at a = ((refl, tt), λ p q. absurd (some-none (sym q)))
same_legal config (entry ∷ h) f e P l at a = go (is_own config h f entry.call) refl (same_legal config h f e P l.0 at (agrees_older config entry h f P a))
  where
    go : (b : Bool) → is_own config h f entry.call ≡ b → IsSame config P (own config h f) h e
        → IsSame config P (own_entry b config h f entry ∷ own config h f) (entry ∷ h) e
    go true w ih =
        same_step config h entry f e P l.0 (legal_fit config h entry l.1) w a (stand_of_same config h f e P l.0 at (agrees_older config entry h f P a) ih) ih
    go false w ih = same_other config h entry f e P l at w ih

-- An environment of the function stands alone as it stands in the whole history.
pub own_stand : (config : Config) (h : List Entry) (f e : ℕ) → IsLegal config h → function_of config e ≡ f → stand config (own config h f) e ≡ stand config h e
own_stand config h f e l at =
    stand_of_same config h f e (own_ticket config h f) l at (λ t lt. refl) (same_legal config h f e (own_ticket config h f) l at (λ t lt. refl))

pub own_phase : (config : Config) (h : List Entry) (f e : ℕ) → IsLegal config h → function_of config e ≡ f → phase config (own config h f) e ≡ phase config h e
own_phase config h f e l at = (same_legal config h f e (own_ticket config h f) l at (λ t lt. refl)).0.0

-- the same after an own entry that may lack its second answers
pub same_fit : (config : Config) (h : List Entry) (entry : Entry) (f e : ℕ) → IsLegal config h → IsFit config h entry
    → is_own config h f entry.call ≡ true → function_of config e ≡ f
    → IsSame config (own_ticket config (entry ∷ h) f) (own_entry true config h f entry ∷ own config h f) (entry ∷ h) e
same_fit config h entry f e l fit w at =
    let agrees : Agrees config (entry ∷ h) f (own_ticket config (entry ∷ h) f) = λ t lt. refl in
    same_step config h entry f e (own_ticket config (entry ∷ h) f) l fit w agrees (own_stand config h f e l at)
    (same_legal config h f e (own_ticket config (entry ∷ h) f) l at (agrees_older config entry h f (own_ticket config (entry ∷ h) f) agrees))

pub fit_phase : (config : Config) (h : List Entry) (entry : Entry) (f e : ℕ) → IsLegal config h → IsFit config h entry
    → is_own config h f entry.call ≡ true → function_of config e ≡ f
    → phase config (own_entry true config h f entry ∷ own config h f) e ≡ phase config (entry ∷ h) e
fit_phase config h entry f e l fit w at = (same_fit config h entry f e l fit w at).0.0

pub fit_stand : (config : Config) (h : List Entry) (entry : Entry) (f e : ℕ) → IsLegal config h → IsFit config h entry
    → is_own config h f entry.call ≡ true → function_of config e ≡ f
    → stand config (own_entry true config h f entry ∷ own config h f) e ≡ stand config (entry ∷ h) e
fit_stand config h entry f e l fit w at =
    seen_same config f e (own_ticket config (entry ∷ h) f) (own_entry true config h f entry ∷ own config h f) (entry ∷ h) _ _ at
    (twin_cons config h f (own_ticket config (entry ∷ h) f) (own_entry true config h f entry) entry l (agrees_older config entry h f (own_ticket config (entry ∷ h) f) (λ t lt. refl)) refl (λ t k. own_same config h entry f (own_ticket config (entry ∷ h) f) t (fit.within) (λ u lt. refl) k))
    (same.0) (same.1)
    (λ p. ap (λ o. requests (upto o p) f) (sym (own_cons config h entry f w)) ∙ own_requests_upto config (entry ∷ h) f p)
    (ap (λ o. registrations o e) (sym (own_cons config h entry f w)) ∙ own_registrations config (entry ∷ h) f e at)
    (events_step config h entry f e at (fit.within) w (own_events config h f e l at))
  where
    same : IsSame config (own_ticket config (entry ∷ h) f) (own_entry true config h f entry ∷ own config h f) (entry ∷ h) e
    same = same_fit config h entry f e l fit w at

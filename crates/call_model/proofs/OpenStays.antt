-- An environment that is Starting, Idle or Busy stays one of these where nothing closes, and its generation goes on.
use Rattle.std.proofs.Common.{◌≡◌, ℕ, true, refl, Bool, false, if◌then◌else◌, Some, None, sym, List, ◌∷◌, length, Option, ap, ◌∙◌, true≢false, subst, ◌&&◌}
use Rattle.call_types.specs.declared.answer.Phase.{Phase}
use Rattle.call_types.specs.declared.call.Call.{Call}
use Rattle.call_types.specs.declared.call.Call.TheVariants.{Invoke, RuntimeNext, ExtNext, Register, Stop}
use Rattle.call_types.specs.declared.call.Entry.{Entry}
use Rattle.arn_ids.specs.declared.config.Config.{Config}
use Rattle.call_model.specs.Generation.{Generation}
use Rattle.call_model.specs.Stand.{Stand, is_known, is_closing}
use Rattle.call_model.specs.Table.{clock_started, placed, unbound, own_answer, is_registered, kept, settled, after_cell, closes, or_closing}
use Rattle.call_model.specs.Life.{Lifecycle, life, stand, seen, concerns, limit_of, lived, after, phase}
use Rattle.call_types.specs.declared.answer.Reason.{Reason}
use Rattle.call_types.specs.declared.answer.Phase.TheVariants.{Starting, Idle, Closing, Busy, Off}
use Rattle.call_model.specs.Laws.{is_open}
use Rattle.call_model.proofs.Visits.{visit, if_concerned, if_ended}

on_clock : (now : ℕ) (P : Phase) → is_open P ≡ true → is_open (clock_started now P) ≡ true
on_clock now (Starting d b) e = refl
on_clock now P e = e

on_placed : (now limit n : ℕ) (P : Phase) → is_open P ≡ true → is_open (placed now limit n P) ≡ true
on_placed now limit n Idle e = refl
on_placed now limit n (Starting d b) e = refl
on_placed now limit n (Closing reason until b) e = e
on_placed now limit n P e = e

on_unbound : (P : Phase) → is_open P ≡ true → is_open (unbound P) ≡ true
on_unbound (Closing reason until b) e = e
on_unbound P e = e

on_choice : (P Q : Phase) (b : Bool) → is_open P ≡ true → is_open Q ≡ true → is_open (if b then P else Q) ≡ true
on_choice P Q true e f = e
on_choice P Q false e f = f

on_kept : (now limit n : ℕ) (s : Stand) (call : Call) → is_open s.phase ≡ true → is_open (kept now limit n s call) ≡ true
unfolding kept
on_kept now limit n s (Invoke f qualified trace body) e = on_placed now limit n s.phase e
on_kept now limit n s (RuntimeNext d) e = on_clock now s.phase e
on_kept now limit n s (ExtNext d x) e = on_choice (clock_started now s.phase) s.phase (is_known s x) (on_clock now s.phase e) e
on_kept now limit n s (Register d name invoke shutdown account) e =
    on_choice (clock_started now s.phase) s.phase (is_registered (own_answer s (Register d name invoke shutdown account))) (on_clock now s.phase e) e
on_kept now limit n s Stop e = on_choice s.phase (unbound s.phase) s.stopped e (on_unbound s.phase e)
on_kept now limit n s call e = e

on_settled : (limit : ℕ) (r w : Bool) (P : Phase) → is_open P ≡ true → is_open (settled limit r w P) ≡ true
on_settled limit true w (Starting d None) e = refl
on_settled limit true w (Starting d (Some q)) e = refl
on_settled limit true false (Busy q d) e = refl
on_settled limit true true (Busy q d) e = refl
on_settled limit true w Idle e = refl
on_settled limit true w (Closing reason until b) e = e
on_settled limit true w Off e = e
on_settled limit false w Idle e = refl
on_settled limit false w (Starting d b) e = refl
on_settled limit false w (Busy q d) e = refl
on_settled limit false w (Closing reason until b) e = e
on_settled limit false w Off e = e

open_stays : (P : Phase) → is_open P ≡ true → is_closing P ≡ false
open_stays (Starting d b) e = refl
open_stays Idle e = refl
open_stays (Busy q d) e = refl
open_stays (Closing reason until b) e = sym e
open_stays Off e = refl

abbrev IsGoing : Generation → Lifecycle → Type 0
IsGoing g x = (is_open x.phase ≡ true) × (x.generation ≡ g)

-- where nothing closes, an open environment stays so, and its generation goes on
pub open_step : (config : Config) (h : List Entry) (entry : Entry) (e : ℕ) → concerns h e entry ≡ true
    → is_open (phase config h e) ≡ true → closes (stand config h e) entry.call ≡ None
    → (is_open (phase config (entry ∷ h) e) ≡ true) × ((life config (entry ∷ h) e).generation ≡ ((length h, entry) ∷ (life config h e).generation))
unfolding life lived after seen
open_step config h entry e c o k =
    let p : is_open cell ≡ true = ap (λ (r : Option Reason). is_open (or_closing entry.moment r (kept entry.moment (limit_of config e entry.moment) (length h) (stand config h e) entry.call))) k ∙ on_kept entry.moment (limit_of config e entry.moment) (length h) (stand config h e) entry.call o in
    subst (λ (b : Bool). IsGoing g (if_concerned b (visit config h e entry))) (sym c)
    (subst (λ (b : Bool). IsGoing g (if_ended b (visit config h e entry))) (sym (no_end (is_closing cell) _ (open_stays cell p))) (on_settled (limit_of config e entry.moment) _ _ cell p, refl))
  where
    g : Generation
    g = (length h, entry) ∷ (life config h e).generation

    cell : Phase
    cell = after_cell entry.moment (limit_of config e entry.moment) (length h) (stand config h e) entry.call

    no_end : (a b : Bool) → a ≡ false → (a && b) ≡ false
    no_end true b q = absurd (true≢false q)
    no_end false b q = refl

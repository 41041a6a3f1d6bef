-- An invocation is told no event: each event stands at a ticket whose call names its environment.
use Rattle.std.proofs.lemmas.Bool.{cases_lt}
use Rattle.std.proofs.Common.{◌≡◌, ℕ, zero, suc, ◌≤◌, Bool, true, false, List, [], ◌∷◌, length, Option, Some, None, sym}
use Rattle.std.proofs.Common.{refl, ap, ◌∙◌, inl, inr, not, true≢false, if◌then◌else◌, ◌==◌}
use Rattle.call_types.specs.declared.answer.Answer.{Answer}
use Rattle.call_types.specs.declared.call.Call.{Call}
use Rattle.call_types.specs.declared.call.Call.TheVariants.{Invoke}
use Rattle.call_types.specs.declared.call.Entry.{Entry}
use Rattle.arn_ids.specs.declared.config.Config.{Config}
use Rattle.call_model.specs.History.{call_of, place_of, or_else}
use Rattle.call_types.specs.Calls.{env_of, is_invoke}
use Rattle.call_model.specs.Stand.{Stand, NoRole, Waiting, role, is_number, waits_as}
use Rattle.call_model.specs.Polls.{by_role}
use Rattle.call_model.specs.Table.{to_waiting}
use Rattle.call_model.specs.Life.{stand, names, is_event}
use Rattle.call_model.specs.Limits.{Verdict, AfterStop, Refuses, Admits, verdict}
use Rattle.call_model.specs.Answers.{first_answer, own_first, other_answer, answer_at, verdict_answer, first_entry, home, answer_to, each_from, with_answer}
use Rattle.call_model.specs.Next.{IsLegal, Follows}
use Rattle.call_model.proofs.TicketsWithin.{call_past}
use Rattle.call_model.proofs.BoundWaits.{invoke_role, invoke_second}
use Rattle.environment_step.proofs.FirstValues.{first_valued}
use Rattle.environment_step.proofs.EventNumbers.{AreAt}
use Rattle.environment_step.proofs.FirstMoves.{is_here}
use Rattle.call_model.proofs.Flight.{placed_invoke}
use Rattle.environment_step.proofs.NumberedMoves.{AreNamed}
use Rattle.call_model.proofs.Basics.{some-none}
use Rattle.call_model.proofs.Cells.{waiting_values}

abbrev is_quiet : Option Answer → Bool
is_quiet None = true
is_quiet (Some a) = not (is_event a)

quiet_waiting : (own : ℕ) (s : Stand) (call : Call) → is_quiet (to_waiting own s call) ≡ true
quiet_waiting own s call = waiting_values (λ a. is_quiet a ≡ true) own s refl refl refl refl refl refl refl call

quiet_own : (config : Config) (h : List Entry) (call : Call) → is_invoke call ≡ true → is_quiet (own_first config h call) ≡ true
unfolding own_first
quiet_own config h (Invoke f qualified trace body) i = go (verdict config h f)
  where
    go : (v : Verdict) → is_quiet (verdict_answer v) ≡ true
    go AfterStop = refl
    go (Refuses r) = refl
    go (Admits e) = refl
quiet_own config h call i = absurd (true≢false (sym i))

quiet_first : (config : Config) (h : List Entry) (entry : Entry) (t : ℕ) → is_invoke (call_of (entry ∷ h) t) ≡ true
    → is_quiet (first_answer config h entry.moment entry.call t) ≡ true
unfolding first_answer
quiet_first config h entry t i = go (t == length h) i
  where
    by : (e : ℕ) → is_invoke (call_of h t) ≡ true
        → is_quiet (by_role (length h) entry.moment (stand config h e) entry.call t (role (stand config h e) t)) ≡ true
    by e j = rw (invoke_role config h e t j) (waits (waits_as (stand config h e) t))
      where
        waits : (b : Bool) → is_quiet (by_role (length h) entry.moment (stand config h e) entry.call t (if b then Waiting else NoRole)) ≡ true
        waits true = quiet_waiting (length h) (stand config h e) entry.call
        waits false = refl

    at : (e : ℕ) (b : Bool) → is_invoke (call_of h t) ≡ true → is_quiet (answer_at config h entry.moment e entry.call t b) ≡ true
    at e true j = by e j
    at e false j = refl

    other : (o : Option ℕ) → is_invoke (call_of h t) ≡ true → is_quiet (other_answer config h entry.moment entry.call t o) ≡ true
    other None j = refl
    other (Some e) j = at e (names h e entry.call) j

    go : (b : Bool) → is_invoke (if b then entry.call else call_of h t) ≡ true
        → is_quiet (if b then own_first config h entry.call else other_answer config h entry.moment entry.call t (home h t)) ≡ true
    go true j = quiet_own config h entry.call j
    go false j = other (home h t) j

place_invoke : (config : Config) (h : List Entry) (t d : ℕ) → IsLegal config h → place_of h t ≡ Some d → is_invoke (call_of h t) ≡ true
place_invoke config [] t d l q = absurd (some-none (sym q))
place_invoke config (entry ∷ h) t d l q = go (t == length h) (place_invoke config h t d l.0) q
  where
    go : (b : Bool) → (place_of h t ≡ Some d → is_invoke (call_of h t) ≡ true)
        → (if b then entry.place else place_of h t) ≡ Some d → is_invoke (if b then entry.call else call_of h t) ≡ true
    go true ih r = placed_invoke config h entry.call d (sym (l.1.place) ∙ r)
    go false ih r = ih r

at_each : (p : ℕ → Bool) (env : ℕ → Option ℕ) (e t n : ℕ) (f : ℕ → Option Answer)
    → ((u : ℕ) (a : Answer) → f u ≡ Some a → is_event a ≡ true → p u ≡ is_number (env u) e)
    → AreAt p env e (each_from t n f)
at_each p env e t zero f k = tt
at_each p env e t (suc n) f k = go (f t) refl (at_each p env e (suc t) n f k)
  where
    go : (a : Option Answer) → f t ≡ a → AreAt p env e (each_from (suc t) n f) → AreAt p env e (with_answer t a (each_from (suc t) n f))
    go None q ih = ih
    go (Some a) q ih = (k t a q, ih)

-- Each event of an entry stands at a ticket whose call names its environment.
pub are_named : (config : Config) (h : List Entry) (entry : Entry) (e : ℕ) → IsLegal config h → Follows config h entry → AreNamed config h entry e
unfolding answer_to
are_named config h entry e l w =
    at_each (is_here (entry ∷ h) e) (λ t. env_of (call_of (entry ∷ h) t)) e 0 (suc (length h)) (answer_to config h fe)
    (λ u a q v. go u a (place_of (entry ∷ h) u) refl q v)
  where
    fe : Entry
    fe = first_entry config h entry.moment entry.call

    low : (u : ℕ) → is_invoke (call_of (entry ∷ h) u) ≡ true → u ≤ length h
    low u i = elim (cases_lt (length h) u) [
      | inl lt ↦ absurd (true≢false (sym i ∙ ap is_invoke (call_past (entry ∷ h) u lt)))
      | inr le ↦ le
    ]

    quiet : (u : ℕ) → is_invoke (call_of (entry ∷ h) u) ≡ true → is_quiet (answer_to config h fe u) ≡ true
    quiet u i =
        rw (invoke_second config h fe u i, first_valued config h entry.moment entry.call u (low u i))
        (or_quiet (first_answer config h entry.moment entry.call u) (quiet_first config h entry u i))
      where
        or_quiet : (a : Option Answer) → is_quiet a ≡ true → is_quiet (or_else a None) ≡ true
        or_quiet None z = refl
        or_quiet (Some b) z = z

    go : (u : ℕ) (a : Answer) (o : Option ℕ) → place_of (entry ∷ h) u ≡ o → answer_to config h fe u ≡ Some a
        → is_event a ≡ true
        → is_number (or_else (place_of (entry ∷ h) u) (env_of (call_of (entry ∷ h) u))) e ≡ is_number (env_of (call_of (entry ∷ h) u)) e
    go u a None q r v = ap (λ (m : Option ℕ). is_number (or_else m (env_of (call_of (entry ∷ h) u))) e) q
    go u a (Some d) q r v = absurd (true≢false (sym (quiet u (place_invoke config (entry ∷ h) u d (l, w) q)) ∙ ap is_quiet r ∙ ap not v))

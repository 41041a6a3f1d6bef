-- The request count of what is at hand, and the phase after an entry, from the stand before it.
use Rattle.std.proofs.Common.{◌≡◌, ℕ, ◌<◌, Bool, true, false, ltb, List, ◌∷◌, length, Option, Some, None, sym, refl, ap}
use Rattle.std.proofs.Common.{ap₂, ◌∙◌, subst, inl, inr, arith, ◌≢◌, ◌⊎◌, is_some, is_none, not, ◌&&◌, ◌||◌, ◌==◌}
use Rattle.std.proofs.Common.{true≢false, if◌then◌else◌}
use Rattle.std.proofs.lemmas.Bool.{eqb-true}
use Rattle.std.proofs.lemmas.Bool.Decides.{nat_tests}
use Rattle.call_types.specs.declared.answer.Answer.{Answer}
use Rattle.call_types.specs.declared.answer.Phase.{Phase}
use Rattle.call_types.specs.declared.call.Call.{Call}
use Rattle.call_types.specs.declared.call.Call.TheVariants.{Invoke}
use Rattle.call_types.specs.declared.call.Entry.{Entry}
use Rattle.arn_ids.specs.declared.config.Config.{Config}
use Rattle.arn_ids.specs.Environments.{expected_at, function_of}
use Rattle.call_model.specs.History.{answer_in, answer_of, pending, call_of, place_of, is_stop, is_expiry, stopped, upto, requests, or_else}
use Rattle.call_types.specs.Calls.{env_of, is_invoke}
use Rattle.call_model.specs.Generation.{Generation, Member, TheRuntime, parked, members, ready, awaited}
use Rattle.call_model.specs.Stand.{Stand, is_closing, is_number, at_hand, bound_of, role, Waiting}
use Rattle.call_model.specs.Table.{reborn, settled, to_waiting, closes, kept}
use Rattle.call_model.specs.Polls.{by_role}
use Rattle.call_model.specs.Life.{life, lived, after, phase, stand, seen, concerns, names, limit_of, first_part, request_at, ends_here}
use Rattle.call_model.specs.Limits.{place_for}
use Rattle.call_model.specs.Answers.{first_answer, answer_at, home, first_entry}
use Rattle.call_model.specs.Next.{IsLegal, Follows}
use Rattle.environment_step.specs.After.{Step, step_at, fixed_of, count_at, first_stand, turned, expires_now}
use Rattle.environment_step.specs.After.{request_of, cell_at, closing_ends, members_first, runtime_first, restarted}
use Rattle.environment_step.specs.After.{settled_stand, stand_after, finished}
use Rattle.call_model.proofs.Pairs.{eqb-other}
use Rattle.call_model.proofs.Once.{fresh, pending_cons}
use Rattle.call_model.proofs.Flight.{placed_silent}
use Rattle.call_model.proofs.AtHand.{IsHeld, held, placed_here, from_kept, from_closing}
use Rattle.call_model.proofs.Scans.{IsSilent, legal_silent}
use Rattle.environment_step.proofs.FirstValues.{IsFirst, plain_none, entry_is_first, first_is_first}
use Rattle.environment_step.proofs.FirstStage.{not_named_call, runtime_stage, first_silent, members_stage}
use Rattle.call_model.proofs.Basics.{eqb-self}
use Rattle.call_model.proofs.Visits.{visit, if_concerned, if_ended}

no_expiry : (call : Call) → is_invoke call ≡ true → is_expiry call ≡ false
no_expiry (Invoke f qualified trace body) i = refl
no_expiry call i = absurd (true≢false (sym i))

new_pending : (entry : Entry) (h : List Entry) → is_expiry entry.call ≡ false → answer_of h (length h) ≡ None
    → is_none (answer_in entry.answers (length h)) ≡ true → pending (entry ∷ h) (length h) ≡ true
new_pending entry h x none q = rw (eqb-self (length h), x, none) (go (answer_in entry.answers (length h)) q)
  where
    go : (a : Option Answer) → is_none a ≡ true → not (is_some (or_else a None)) ≡ true
    go None r = refl
    go (Some a) r = absurd (true≢false (sym r))

waiting_role : (config : Config) (h : List Entry) (e p : ℕ) → at_hand (phase config h e) ≡ Some p → pending h p ≡ true → role (stand config h e) p ≡ Waiting
unfolding role seen
waiting_role config h e p q r = rw (q, r, eqb-self p) refl

pub invoke_waits : (own : ℕ) (s : Stand) (call : Call) → is_invoke call ≡ true → to_waiting own s call ≡ None
unfolding to_waiting
invoke_waits own s (Invoke f qualified trace body) i = refl
invoke_waits own s call i = absurd (true≢false (sym i))

-- the first answer to the waiting call
pub waiting_value : (config : Config) (h : List Entry) (entry : Entry) (e p : ℕ) → IsLegal config h
    → Follows config h entry → concerns h e entry ≡ true → at_hand (phase config h e) ≡ Some p → pending h p ≡ true
    → first_answer config h entry.moment entry.call p ≡ to_waiting (length h) (stand config h e) entry.call
unfolding first_answer
waiting_value config h entry e p l w c q r = rw (eqb-other p (length h) ne, at) (named (names h e entry.call) refl)
  where
    k : IsHeld h e p
    k = held config h e p l q

    ne : p ≢ length h
    ne = let lt : p < length h = k.older in omega (arith, lt)

    at : home h p ≡ Some e
    at = placed (place_of h p) (k.placed)
      where
        placed : (o : Option ℕ) → is_number o e ≡ true → or_else o (env_of (call_of h p)) ≡ Some e
        placed None r = absurd (true≢false (sym r))
        placed (Some d) r = ap (λ (n : ℕ). Some n) (eqb-true d e r)

    named : (b : Bool) → names h e entry.call ≡ b → answer_at config h entry.moment e entry.call p b ≡ to_waiting (length h) (stand config h e) entry.call
    named true m = ap (by_role (length h) entry.moment (stand config h e) entry.call p) (waiting_role config h e p q r)
    named false m = sym (invoke_waits (length h) (stand config h e) entry.call (not_named_call h entry e config w c m))

-- The request count after the first answers of what is at hand then.
pub request_stage : (config : Config) (h : List Entry) (entry given : Entry) (e p : ℕ) → IsLegal config h
    → Follows config h entry → concerns h e entry ≡ true → given.call ≡ entry.call
    → IsFirst (length h) (first_answer config h entry.moment entry.call) given
    → ((length h ≡ p) × (is_invoke entry.call ≡ true)) ⊎ (at_hand (phase config h e) ≡ Some p)
    → request_at config (first_part given ∷ h) e (Some p) ≡ request_of (step_at h entry (count_at config h entry e)) (stand config h e) entry.call (Some p)
unfolding seen
request_stage config h entry given e p l w c same k which = elim which [ inl new ↦ newly new.0 new.1 | inr old ↦ older old ]
  where
    s : Stand
    s = stand config h e

    newly : length h ≡ p → is_invoke entry.call ≡ true
        → request_at config (first_part given ∷ h) e (Some p) ≡ request_of (step_at h entry (count_at config h entry e)) s entry.call (Some p)
    newly at i =
        subst
        (λ n. request_at config (first_part given ∷ h) e (Some n) ≡ request_of (step_at h entry (count_at config h entry e)) s entry.call (Some n)) at here
      where
        here : request_at config (first_part given ∷ h) e (Some (length h)) ≡ request_of (step_at h entry (count_at config h entry e)) s entry.call (Some (length h))
        here =
            if_yes (pending (first_part given ∷ h) (length h)) (Some (requests (upto (first_part given ∷ h) (length h)) (function_of config e))) None waits
            ∙ ap (λ (n : ℕ). Some n) counted
            ∙ sym (if_yes (length h == length h) (Some (count_at config h entry e)) (if is_some (to_waiting (length h) s entry.call) then None else s.request) (eqb-self (length h)))
          where
            if_yes : (b : Bool) (x y : Option ℕ) → b ≡ true → (if b then x else y) ≡ x
            if_yes true x y r = refl
            if_yes false x y r = absurd (true≢false (sym r))

            placed : is_number entry.place e ≡ true
            placed = placed_here h entry e i c

            no_answer : is_none (answer_in (first_part given).answers (length h)) ≡ true
            no_answer =
                plain_none (answer_in (first_part given).answers (length h)) (first_answer config h entry.moment entry.call (length h)) (k.first (length h) (omega arith))
                ∙ ap is_none (placed_silent config h entry e w i placed)

            waits : pending (first_part given ∷ h) (length h) ≡ true
            waits = new_pending (first_part given) h (ap is_expiry same ∙ no_expiry entry.call i) (fresh config h (length h) l (omega arith)) no_answer

            counted : requests (upto (first_part given ∷ h) (length h)) (function_of config e) ≡ count_at config h entry e
            counted = up ∙ ap (λ (call : Call). requests (record given { call = call } ∷ h) (function_of config e)) same
              where
                not_less : ltb (length h) (length h) ≡ false
                not_less = grind (arith, nat_tests)

                up : requests (upto (first_part given ∷ h) (length h)) (function_of config e) ≡ requests (given ∷ h) (function_of config e)
                up = rw not_less refl

    older : at_hand (phase config h e) ≡ Some p
        → request_at config (first_part given ∷ h) e (Some p) ≡ request_of (step_at h entry (count_at config h entry e)) s entry.call (Some p)
    older q =
        ap₂ (λ (b : Bool) (xs : List Entry). if b then Some (requests xs (function_of config e)) else None) pend same_upto
        ∙ by_pending (pending h p) refl ∙ sym right
      where
        kept_here : IsHeld h e p
        kept_here = held config h e p l q

        lt : p < length h
        lt = kept_here.older

        ne : p ≢ length h
        ne = omega (arith, lt)

        same_upto : upto (first_part given ∷ h) p ≡ upto h p
        same_upto = let yes : ltb p (length h) ≡ true = grind (arith, nat_tests, lt) in rw yes refl

        pend : pending (first_part given ∷ h) p ≡ (pending h p && is_none (first_answer config h entry.moment entry.call p))
        pend =
            pending_cons (first_part given) h p ne
            ∙ ap (λ (b : Bool). pending h p && b) (plain_none (answer_in (first_part given).answers p) (first_answer config h entry.moment entry.call p) (k.first p (omega (arith, lt))))

        right : request_of (step_at h entry (count_at config h entry e)) s entry.call (Some p) ≡ (if is_some (to_waiting (length h) s entry.call) then None else request_at config h e (Some p))
        right =
            ap (λ (b : Bool). if b then Some (count_at config h entry e) else (if is_some (to_waiting (length h) s entry.call) then None else s.request)) (eqb-other p (length h) ne)
            ∙ ap (λ (o : Option ℕ). if is_some (to_waiting (length h) s entry.call) then None else request_at config h e o) q

        by_pending : (b : Bool) → pending h p ≡ b
            → (if b && is_none (first_answer config h entry.moment entry.call p) then Some (requests (upto h p) (function_of config e)) else None)
            ≡ (if is_some (to_waiting (length h) s entry.call) then None else (if b then Some (requests (upto h p) (function_of config e)) else None))
        by_pending false r = none (is_some (to_waiting (length h) s entry.call))
          where
            nothing : Option ℕ
            nothing = None

            none : (x : Bool) → nothing ≡ (if x then nothing else nothing)
            none true = refl
            none false = refl
        by_pending true r =
            ap (λ (a : Option Answer). if is_none a then Some (requests (upto h p) (function_of config e)) else None) (waiting_value config h entry e p l w c q r)
            ∙ turn (to_waiting (length h) s entry.call)
          where
            turn : (a : Option Answer)
                → (if is_none a then Some (requests (upto h p) (function_of config e)) else None) ≡ (if is_some a then None else Some (requests (upto h p) (function_of config e)))
            turn None = refl
            turn (Some a) = refl

-- the phase after an entry, by what the first answers leave
pub phase_stage : (config : Config) (h : List Entry) (entry : Entry) (pairs : List (ℕ × Answer)) (place : Option ℕ) (e : ℕ)
    → IsLegal config h → Follows config h entry → concerns h e entry ≡ true
    → concerns h e (record { moment = entry.moment; call = entry.call; answers = pairs; place = place }) ≡ true
    → IsFirst (length h) (first_answer config h entry.moment entry.call) (record { moment = entry.moment; call = entry.call; answers = pairs; place = place })
    → IsSilent h (record { moment = entry.moment; call = entry.call; answers = pairs; place = place })
    → phase config (record { moment = entry.moment; call = entry.call; answers = pairs; place = place } ∷ h) e
    ≡ (turned (fixed_of config e) entry.moment (expires_now (stand config h e) entry.call) (phase config h e) (first_stand (fixed_of config e) (step_at h entry (count_at config h entry e)) (stand config h e) entry.call)).phase
unfolding life lived after turned first_stand seen
phase_stage config h entry pairs place e l w c d k quiet =
    ap (λ (b : Bool). (if_concerned b (visit config h e given)).phase) d
    ∙ two (ends_here (visit config h e given))
    ∙
    (λ i. made (members_stage config h entry given e count l w c refl k quiet i) (runtime_stage config h entry given e count l w c refl k i) (request_is (at_hand cell) refl i))
    ∙ sym (whole (closing_ends (expires_now s entry.call) (first_stand (fixed_of config e) step s entry.call)))
  where
    given : Entry
    given = record { moment = entry.moment; call = entry.call; answers = pairs; place = place }

    g : Generation
    g = (life config h e).generation

    s : Stand
    s = stand config h e

    count : ℕ
    count = count_at config h entry e

    step : Step
    step = step_at h entry count

    cell : Phase
    cell = cell_at (fixed_of config e) step s entry.call

    made : List Member → Option ℕ → Option ℕ → Phase
    made xs runtime request =
        if is_closing cell && ((length (awaited xs) == 0) || (is_closing (phase config h e) && is_expiry entry.call)) then reborn (is_stop entry.call || stopped h) entry.moment (bound_of cell)
        else settled (limit_of config e entry.moment) (ready runtime xs (expected_at config e)) (is_some request) cell

    request_is : (o : Option ℕ) → at_hand cell ≡ o → request_at config (first_part given ∷ h) e o ≡ request_of step s entry.call o
    request_is None q = refl
    request_is (Some p) q =
        request_stage config h entry given e p l w c refl k
        (which (from_kept entry.moment (limit_of config e entry.moment) (length h) s entry.call p (from_closing entry.moment (closes s entry.call) (kept entry.moment (limit_of config e entry.moment) (length h) s entry.call) p q).1))
      where
        which : ((length h ≡ p) × (is_invoke entry.call ≡ true)) ⊎ (at_hand s.phase ≡ Some p)
            → ((length h ≡ p) × (is_invoke entry.call ≡ true)) ⊎ (at_hand (phase config h e) ≡ Some p)
        which x = x

    two : (b : Bool) → (if_ended b (visit config h e given)).phase
        ≡ (if b then reborn (is_stop entry.call || stopped h) entry.moment (bound_of cell) else settled (limit_of config e entry.moment) (ready (parked (first_part given ∷ h) ((length h, given) ∷ g) TheRuntime) (members (first_part given ∷ h) ((length h, given) ∷ g)) (expected_at config e)) (is_some (request_at config (first_part given ∷ h) e (at_hand cell))) cell)
    two true = refl
    two false = refl

    whole : (b : Bool)
        → (if b then restarted entry.moment (first_stand (fixed_of config e) step s entry.call) else settled_stand (fixed_of config e) entry.moment (phase config h e) (first_stand (fixed_of config e) step s entry.call)).phase
        ≡ (if b then reborn (is_stop entry.call || stopped h) entry.moment (bound_of cell) else settled (limit_of config e entry.moment) (ready (runtime_first step s entry.call) (members_first step s entry.call) (expected_at config e)) (is_some (request_of step s entry.call (at_hand cell))) cell)
    whole true = refl
    whole false = refl

-- The phase after an entry that concerns the environment.
pub phase_meets : (config : Config) (h : List Entry) (entry : Entry) (e : ℕ) → IsLegal config h → Follows config h entry → concerns h e entry ≡ true
    → (stand config (entry ∷ h) e).phase ≡ (stand_after (fixed_of config e) (step_at h entry (count_at config h entry e)) (stand config h e) entry.call).phase
unfolding seen stand_after finished
phase_meets config h entry e l w c =
    phase_stage config h entry entry.answers entry.place e l w c c (entry_is_first config h entry w) (legal_silent config h entry w)

-- The phase with the first answers alone is the phase with all.
pub phase_first : (config : Config) (h : List Entry) (entry : Entry) (e : ℕ) → IsLegal config h → Follows config h entry → concerns h e entry ≡ true
    → phase config (first_entry config h entry.moment entry.call ∷ h) e ≡ phase config (entry ∷ h) e
phase_first config h entry e l w c =
    phase_stage config h entry (first_entry config h entry.moment entry.call).answers
    (place_for config h entry.call) e l w c
    (ap (λ (o : Option ℕ). is_number o e || names h e entry.call) (sym (w.place)) ∙ c)
    (first_is_first config h entry.moment entry.call) (first_silent config h entry.moment entry.call)
    ∙ sym (phase_stage config h entry entry.answers entry.place e l w c c (entry_is_first config h entry w) (legal_silent config h entry w))

-- The first answers at an environment, from its stand.
use Rattle.std.proofs.lemmas.Bool.{cases_lt}
use Rattle.std.proofs.Common.{◌≡◌, ℕ, ◌<◌, ◌≤◌, Bool, true, false, eqb, List, [], ◌∷◌, length, Option, Some, None, sym}
use Rattle.std.proofs.Common.{refl, ap, ◌∙◌, inl, inr, arith, ◌≢◌, is_some, ◌&&◌, true≢false, if◌then◌else◌}
use Rattle.call_types.specs.declared.answer.Answer.{Answer}
use Rattle.call_types.specs.declared.call.Call.{Call}
use Rattle.call_types.specs.declared.call.Entry.{Entry}
use Rattle.arn_ids.specs.declared.config.Config.{Config}
use Rattle.call_model.specs.History.{answer_in, call_of, place_of, or_else}
use Rattle.call_types.specs.Calls.{env_of, is_invoke}
use Rattle.call_model.specs.Generation.{Generation, TheRuntime, parked, extensions, members}
use Rattle.call_model.specs.Stand.{Stand, Role, NoRole, Waiting, RuntimePoll, ExtensionPoll, is_number, role, at_hand}
use Rattle.call_model.specs.Table.{own_answer, to_waiting}
use Rattle.call_model.specs.Polls.{by_role}
use Rattle.call_model.specs.Life.{life, phase, stand, seen, concerns, names, request_at}
use Rattle.call_model.specs.Answers.{first_answer, own_first, home, answer_at, other_answer}
use Rattle.call_model.specs.Next.{IsLegal, Follows}
use Rattle.environment_step.specs.After.{Step, step_at, first_moves, poll_gets, give, give_each, waiting_call}
use Rattle.call_model.proofs.Pairs.{eqb-other}
use Rattle.call_model.proofs.Once.{no_role}
use Rattle.call_model.proofs.TicketsWithin.{call_past}
use Rattle.call_model.proofs.AtHand.{held}
use Rattle.call_model.proofs.BoundWaits.{generation_part, held_home}
use Rattle.environment_step.proofs.Frame.{env_place}
use Rattle.environment_step.proofs.Extensions.{own_value, named_here, counts_fall}
use Rattle.call_model.proofs.Roles.{other_number}
use Rattle.environment_step.proofs.FirstStage.{invoke_gives, not_named_call, member_actor, runtime_actor}
use Rattle.call_model.proofs.Flight.{placed_invoke, placed_silent}
use Rattle.environment_step.proofs.PhaseAfter.{invoke_waits}
use Rattle.environment_step.proofs.Rising.{IsRising}
use Rattle.environment_step.proofs.Puts.{given_at, IsFresh, give_rising, give_answer}
use Rattle.environment_step.proofs.HeldTickets.{IsOrderly, orderly, IsRoled, roled, none_holds}
use Rattle.call_model.proofs.Basics.{eqb-self, number_some}
use Rattle.environment_step.proofs.PendingAfter.{no_own}

-- A ticket of elsewhere has no role.
pub role_away : (config : Config) (h : List Entry) (e t : ℕ) → IsLegal config h → is_number (home h t) e ≡ false → role (stand config h e) t ≡ NoRole
unfolding role seen members
role_away config h e t l away =
    rw
    (no_wait (is_some (request_at config h e (at_hand (phase config h e)))), other_number (parked h g TheRuntime) t (λ q. no ((runtime_actor config h e l).here t q)), none_holds h g t (extensions g) (λ x i q. no ((member_actor config h e x l i).here t q))) refl
  where
    g : Generation
    g = (life config h e).generation

    no : home h t ≡ Some e → ⊥
    no q = true≢false (sym (ap (λ (o : Option ℕ). is_number o e) q ∙ eqb-self e) ∙ away)

    no_wait : (b : Bool) → (b && is_number (at_hand (phase config h e)) t) ≡ false
    no_wait false = refl
    no_wait true = other_number (at_hand (phase config h e)) t (λ q. no (held_home h e t (held config h e t l q)))

-- what an environment's stand holds is orderly
pub stand_orderly : (config : Config) (h : List Entry) (e : ℕ) → IsLegal config h
    → IsOrderly (stand config h e).runtime (stand config h e).members (at_hand (stand config h e).phase)
unfolding seen
stand_orderly config h e l =
    orderly h (life config h e).generation _ (at_hand (phase config h e)) (generation_part config h e)
    (counts_fall config h e l) (λ t q. (held config h e t l q).invoke)

-- what older tickets get, by the roles that they have
abbrev pub older_moves : Step → Stand → Call → List (ℕ × Answer)
older_moves step s call =
    give_each (λ x. poll_gets step s call (ExtensionPoll x) x.next) s.members
    (give s.runtime (poll_gets step s call RuntimePoll s.runtime)
    (give (waiting_call s) (to_waiting step.ticket s call) []))

pub older_roled : (config : Config) (h : List Entry) (step : Step) (call : Call) (e : ℕ) → IsLegal config h
    → IsRoled (by_role step.ticket step.now (stand config h e) call) (stand config h e) (older_moves step (stand config h e) call)
older_roled config h step call e l =
    roled (by_role step.ticket step.now s call) s (λ x. poll_gets step s call (ExtensionPoll x) x.next)
    (poll_gets step s call RuntimePoll s.runtime) (to_waiting step.ticket s call) (stand_orderly config h e l)
    (λ x t q. ap (poll_gets step s call (ExtensionPoll x)) q) (λ t q. ap (poll_gets step s call RuntimePoll) q) (λ t q. refl) (λ t. refl)
  where
    s : Stand
    s = stand config h e

-- an Invoke gives older tickets nothing
invoke_none : (own now : ℕ) (s : Stand) (call : Call) (t : ℕ) (r : Role) → is_invoke call ≡ true → by_role own now s call t r ≡ None
invoke_none own now s call t NoRole i = refl
invoke_none own now s call t Waiting i = invoke_waits own s call i
invoke_none own now s call t RuntimePoll i = invoke_gives own now s call t RuntimePoll i refl
invoke_none own now s call t (ExtensionPoll x) i = invoke_gives own now s call t (ExtensionPoll x) i refl

-- the tickets at an environment
abbrev pub is_here : List Entry → ℕ → ℕ → Bool
is_here h e t = is_number (home h t) e

-- the call's own answer, where the call is the environment's
own_part : (config : Config) (h : List Entry) (entry : Entry) (e : ℕ) → Follows config h entry → concerns h e entry ≡ true
    → own_answer (stand config h e) entry.call ≡ (if is_number (or_else entry.place (env_of entry.call)) e then first_answer config h entry.moment entry.call (length h) else None)
own_part config h entry e w c = go (env_of entry.call) refl
  where
    s : Stand
    s = stand config h e

    A : Option Answer
    A = first_answer config h entry.moment entry.call (length h)

    nothing : Option Answer
    nothing = None

    placed : (o : Option ℕ) → entry.place ≡ o → nothing ≡ (if is_number (or_else o None) e then A else nothing)
    placed None q = refl
    placed (Some d) q = at (eqb d e) refl
      where
        at : (b : Bool) → eqb d e ≡ b → nothing ≡ (if b then A else nothing)
        at true k =
            sym (placed_silent config h entry e w (placed_invoke config h entry.call d (sym (w.place) ∙ q)) (ap (λ (o : Option ℕ). is_number o e) q ∙ k))
        at false k = refl

    go : (o : Option ℕ) → env_of entry.call ≡ o → own_answer s entry.call ≡ (if is_number (or_else entry.place o) e then A else None)
    go (Some d) q =
        let same : d ≡ e = named_here config h entry e d w q c in rw (w.place ∙ env_place config h entry.call d q, same, eqb-self e) (sym (own_value config h entry.moment entry.call e (q ∙ ap (λ (n : ℕ). Some n) same)))
    go None q = no_own s entry.call q ∙ placed entry.place refl

pub record IsMoved (config : Config) (h : List Entry) (entry : Entry) (e : ℕ) (now : List (ℕ × Answer)) (A : ℕ → Option Answer) : Type 0 where
  pub rising : IsRising 0 now
  pub value : (t : ℕ) → t ≤ length h → answer_in now t ≡ (if is_here (entry ∷ h) e t then A t else None)
  pub past : (t : ℕ) → length h < t → answer_in now t ≡ None

past_role : (config : Config) (h : List Entry) (e t : ℕ) → length h ≤ t → role (stand config h e) t ≡ NoRole
past_role config h e t le = no_role config h e (life config h e) t (rw (call_past h t le) refl)

-- The first moves are the first answers to the environment's tickets.
pub first_moved : (config : Config) (h : List Entry) (entry : Entry) (e count : ℕ) → IsLegal config h → Follows config h entry → concerns h e entry ≡ true
    → IsMoved config h entry e (first_moves (step_at h entry count) (stand config h e) entry.call) (first_answer config h entry.moment entry.call)
unfolding first_moves first_answer
first_moved config h entry e count l w c = record {
  rising = give_rising (Some (length h)) own base (k.rising) free;
  value = λ t le. elim (cases_lt t (length h)) [
    | inl lt ↦ older t lt
    | inr ge ↦ let same : t ≡ length h = omega (arith, le, ge) in rw same newest
  ];
  past =
      λ t lt. give_answer (Some (length h)) own base t (k.rising) free
      ∙ other own t (λ q. let less : length h < t = lt in omega (arith, less, q)) ∙ nobody t (omega (arith, lt));
}
  where
    s : Stand
    s = stand config h e

    step : Step
    step = step_at h entry count

    F : ℕ → Role → Option Answer
    F = by_role (length h) entry.moment s entry.call

    base : List (ℕ × Answer)
    base = older_moves step s entry.call

    own : Option Answer
    own = own_answer s entry.call

    k : IsRoled F s base
    k = older_roled config h step entry.call e l

    nobody : (t : ℕ) → length h ≤ t → answer_in base t ≡ None
    nobody t le = k.value t ∙ ap (F t) (past_role config h e t le)

    free : IsFresh (Some (length h)) base
    free t q = nobody t (let same : length h ≡ t = cc in omega (arith, same))

    other : (o : Option Answer) (t : ℕ) → length h ≢ t → given_at (Some (length h)) o t (answer_in base t) ≡ answer_in base t
    other None t ne = refl
    other (Some a) t ne = rw (eqb-other (length h) t ne) refl

    mine : (o : Option Answer) (b : Option Answer) → b ≡ None → given_at (Some (length h)) o (length h) b ≡ o
    mine None b q = q
    mine (Some a) b q = rw (eqb-self (length h)) refl

    newest : answer_in (give (Some (length h)) own base) (length h) ≡ (if is_here (entry ∷ h) e (length h) then first_answer config h entry.moment entry.call (length h) else None)
    newest =
        give_answer (Some (length h)) own base (length h) (k.rising) free
        ∙ mine own (answer_in base (length h)) (nobody (length h) (omega arith)) ∙ own_part config h entry e w c
        ∙ ap
        (λ (b : Bool). if is_number (or_else (if b then entry.place else place_of h (length h)) (env_of (if b then entry.call else call_of h (length h)))) e then first_answer config h entry.moment entry.call (length h) else None)
        (sym (eqb-self (length h)))

    named : (t : ℕ) (b : Bool) → names h e entry.call ≡ b → F t (role s t) ≡ answer_at config h entry.moment e entry.call t b
    named t true q = refl
    named t false q = invoke_none (length h) entry.moment s entry.call t (role s t) (not_named_call h entry e config w c q)

    at : (t : ℕ) (b : Bool) → is_here h e t ≡ b → F t (role s t) ≡ (if b then other_answer config h entry.moment entry.call t (home h t) else None)
    at t true q = named t (names h e entry.call) refl ∙ ap (other_answer config h entry.moment entry.call t) (sym (number_some (home h t) e q))
    at t false q = ap (F t) (role_away config h e t l q)

    older : (t : ℕ) → t < length h
        → answer_in (give (Some (length h)) own base) t ≡ (if is_here (entry ∷ h) e t then first_answer config h entry.moment entry.call t else None)
    older t lt = let ne : t ≢ length h = omega (arith, lt) in
        give_answer (Some (length h)) own base t (k.rising) free ∙ other own t (λ q. ne (sym q)) ∙ k.value t ∙ at t (is_here h e t) refl
        ∙ ap
        (λ (b : Bool). if is_number (or_else (if b then entry.place else place_of h t) (env_of (if b then entry.call else call_of h t))) e then (if b then own_first config h entry.call else other_answer config h entry.moment entry.call t (home h t)) else None)
        (sym (eqb-other t (length h) ne))

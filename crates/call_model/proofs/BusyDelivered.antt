-- The invocation that a Busy serves was delivered.
use Rattle.std.proofs.Common.{◌≡◌, ℕ, true, List, length, Option, Some, None, sym, refl, ◌≢◌, true≢false, false, ◌∷◌}
use Rattle.std.proofs.Common.{◌∙◌, suc, ◌<◌, ◌≤◌, Bool, ap, inl, inr, arith, ◌||◌, if◌then◌else◌, is_some, ◌&&◌, []}
use Rattle.std.proofs.Common.{subst, count_by, ◌+◌}
use Rattle.std.proofs.lemmas.Bool.{eq-eqb}
use Rattle.call_types.specs.declared.answer.Answer.{Answer}
use Rattle.call_types.specs.declared.answer.Phase.{Phase}
use Rattle.call_types.specs.declared.answer.Phase.TheVariants.{Busy, Starting, Idle, Closing, Off}
use Rattle.call_types.specs.declared.call.Call.{Call}
use Rattle.call_types.specs.declared.call.Call.TheVariants.{Invoke}
use Rattle.call_types.specs.declared.call.Entry.{Entry}
use Rattle.arn_ids.specs.declared.config.Config.{Config}
use Rattle.call_model.specs.History.{answer_in, pending, call_of, or_else}
use Rattle.call_model.specs.Generation.{TheRuntime, asks, Generation, parked, last_next}
use Rattle.call_model.specs.Stand.{is_busy, is_idle, RuntimePoll, Stand, is_number, role, Role, at_hand}
use Rattle.call_model.specs.Polls.{delivered, begun}
use Rattle.call_model.specs.Life.{life, phase, concerns, first_part, stand, seen, names, Lifecycle, limit_of}
use Rattle.call_model.specs.Limits.{is_busy_with}
use Rattle.call_model.specs.Answers.{first_answer, home, other_answer, answers, first_answers, first_entry, answer_to, second_answer, second_at, each_from}
use Rattle.call_model.specs.Laws.{delivers, deliveries}
use Rattle.call_model.specs.Next.{IsLegal}
use Rattle.call_model.proofs.Pairs.{eqb-other}
use Rattle.call_model.proofs.Once.{pending_cons}
use Rattle.call_types.specs.Calls.{is_invoke}
use Rattle.call_model.proofs.AtHand.{busy_at_hand, held, from_entry, placed_here}
use Rattle.call_model.proofs.BoundWaits.{generation_part, last_asks, invoke_asks}
use Rattle.call_model.proofs.Lives.{placed_free}
use Rattle.call_model.proofs.Scans.{generation_below, last_below}
use Rattle.call_model.proofs.FirstPhase.{first_in, phase_first}
use Rattle.call_model.proofs.Basics.{eqb-self, and_false, some-none, number_some}
use Rattle.call_model.proofs.Elsewhere.{life_elsewhere}
use Rattle.call_model.proofs.ParkedRoles.{is_parked, parked_is}
use Rattle.call_model.proofs.IdleParked.{IsGoing, going, some_of, pending_from, first_left, idle_parked, first_home}
use Rattle.call_model.proofs.GivenCounts.{gives, count_numbered, given_count}

-- an Invoke gives nothing to older tickets by the table
invoke_first : (config : Config) (h : List Entry) (now : ℕ) (call : Call) (t : ℕ) → is_invoke call ≡ true → t ≢ length h
    → first_answer config h now call t ≡ None
unfolding first_answer
invoke_first config h now call t i ne = rw (eqb-other t (length h) ne) (by_call call i)
  where
    by_call : (call : Call) → is_invoke call ≡ true → other_answer config h now call t (home h t) ≡ None
    by_call (Invoke f qualified trace body) k = at_home (home h t)
      where
        at_home : (o : Option ℕ) → other_answer config h now (Invoke f qualified trace body) t o ≡ None
        at_home None = refl
        at_home (Some d) = refl
    by_call call k = absurd (true≢false (sym k))

asks_invoke : (call : Call) → is_invoke call ≡ true → asks TheRuntime call ≡ false
asks_invoke (Invoke f qualified trace body) k = refl
asks_invoke call k = absurd (true≢false (sym k))

pending_none : (xs : List (ℕ × Answer)) (entry : Entry) (h : List Entry) (t : ℕ) → t ≢ length h → pending h t ≡ true
    → answer_in xs t ≡ None → pending (record entry { answers = xs } ∷ h) t ≡ true
pending_none xs entry h t ne w q = pending_cons (record entry { answers = xs }) h t ne ∙ rw (w, q) refl

is_either : (P : Phase) (p : ℕ) → is_busy_with P p ≡ true → (is_busy P || is_idle P) ≡ true
is_either (Busy r d) p k = refl
is_either P p k = absurd (true≢false (sym k))

-- where a Busy begins, the runtime's Next stands there after the first answers
begins_poll : (config : Config) (h : List Entry) (entry : Entry) (e p : ℕ) → IsLegal config (entry ∷ h)
    → concerns h e entry ≡ true → is_busy (phase config h e) ≡ false
    → is_busy_with (phase config (entry ∷ h) e) p ≡ true
    → (t : ℕ) × ((last_next ((length h, entry) ∷ (life config h e).generation) TheRuntime ≡ Some t) × (pending (first_entry config h entry.moment entry.call ∷ h) t ≡ true) × ((life config (entry ∷ h) e).generation ≡ ((length h, entry) ∷ (life config h e).generation)) × (t ≤ length h) × (first_answer config h entry.moment entry.call t ≡ None))
begins_poll config h entry e p l c b q = made (going config h entry e c b (is_either (phase config (entry ∷ h) e) p q))
  where
    g : Generation
    g = (length h, entry) ∷ (life config h e).generation

    first : Entry
    first = first_entry config h entry.moment entry.call

    by_place : (t : ℕ) → pending (first_part entry ∷ h) t ≡ true
        → answer_in (first_answers config h entry.moment entry.call) t ≡ None → pending (first ∷ h) t ≡ true
    by_place t w n =
        ap (λ (o : Option ℕ). pending (record { moment = entry.moment; call = entry.call; answers = first_answers config h entry.moment entry.call; place = o } ∷ h) t) (sym (l.1.place))
        ∙ pending_from entry h t (first_answers config h entry.moment entry.call) w n

    parks : (life config (entry ∷ h) e).generation ≡ g → (t : ℕ) × (parked (first_part entry ∷ h) g TheRuntime ≡ Some t)
        → (t : ℕ) × ((last_next g TheRuntime ≡ Some t) × (pending (first ∷ h) t ≡ true) × ((life config (entry ∷ h) e).generation ≡ g) × (t ≤ length h) × (first_answer config h entry.moment entry.call t ≡ None))
    parks y x =
        let k : (last_next g TheRuntime ≡ Some (x.0)) × (pending (first_part entry ∷ h) (x.0) ≡ true) = is_parked (first_part entry ∷ h) g TheRuntime (x.0) (x.1) in
        let lt : x.0 < suc (length h) = last_below (suc (length h)) (life config (entry ∷ h) e).generation TheRuntime (generation_below config (entry ∷ h) e) (x.0) (ap (λ (g : Generation). last_next g TheRuntime) y ∙ k.0) in
        let le : x.0 ≤ length h = omega (arith, lt) in
        let none : first_answer config h entry.moment entry.call (x.0) ≡ None = first_left config h entry (x.0) l.1 le k.1 in
        (x.0, (k.0, by_place (x.0) k.1 (first_in config h entry.moment entry.call (x.0) le ∙ none), y, le, none))

    finds : (life config (entry ∷ h) e).generation ≡ g → is_invoke entry.call ≡ true
        → (t : ℕ) × (parked h (life config h e).generation TheRuntime ≡ Some t)
        → (t : ℕ) × ((last_next g TheRuntime ≡ Some t) × (pending (first ∷ h) t ≡ true) × ((life config (entry ∷ h) e).generation ≡ g) × (t ≤ length h) × (first_answer config h entry.moment entry.call t ≡ None))
    finds y i x =
        let k : (last_next (life config h e).generation TheRuntime ≡ Some (x.0)) × (pending h (x.0) ≡ true) = is_parked h (life config h e).generation TheRuntime (x.0) (x.1) in
        let lt : x.0 < length h = last_below (length h) (life config h e).generation TheRuntime (generation_below config h e) (x.0) k.0 in
        let none : first_answer config h entry.moment entry.call (x.0) ≡ None = invoke_first config h entry.moment entry.call (x.0) i (omega (arith, lt)) in (
          x.0,
          (
            ap (λ (b : Bool). if b then Some (length h) else last_next (life config h e).generation TheRuntime) (asks_invoke entry.call i) ∙ k.0,
            pending_none (first_answers config h entry.moment entry.call) first h (x.0) (omega (arith, lt)) k.1
                (first_in config h entry.moment entry.call (x.0) (omega (arith, lt)) ∙ none),
            y,
            omega (arith, lt),
            none,
          ),
        )

    made : IsGoing config h entry e
        → (t : ℕ) × ((last_next g TheRuntime ≡ Some t) × (pending (first ∷ h) t ≡ true) × ((life config (entry ∷ h) e).generation ≡ g) × (t ≤ length h) × (first_answer config h entry.moment entry.call t ≡ None))
    made k = elim k.runtime [
      | inl r ↦ parks k.generation (some_of (parked (first_part entry ∷ h) g TheRuntime) r)
      | inr r ↦ finds k.generation r.1 (idle_parked config h e l.0 r.0)
    ]

-- the runtime's poll is given the invocation
poll_gives : (p : ℕ) (P Q : Phase) → is_busy P ≡ false → is_busy_with Q p ≡ true → gives p (delivered (begun P Q) RuntimePoll) ≡ true
poll_gives p (Busy r m) Q b q = absurd (true≢false b)
poll_gives p (Starting d k) (Busy r m) b q = q
poll_gives p Idle (Busy r m) b q = q
poll_gives p (Closing reason until k) (Busy r m) b q = q
poll_gives p Off (Busy r m) b q = q
poll_gives p P Q b q = absurd (true≢false (sym q))

-- a Busy begins, and the runtime's Next is its poll
poll_role : (s : Stand) (p t : ℕ) → is_busy_with s.phase p ≡ true → p ≢ t → s.runtime ≡ Some t → role s t ≡ RuntimePoll
unfolding role
poll_role s p t b ne q =
    rw
    (ap (λ (o : Option ℕ). is_some s.request && is_number o t) (busy_at_hand s.phase p b) ∙ ap (λ (c : Bool). is_some s.request && c) (eqb-other p t ne) ∙ and_false (is_some s.request), q, eqb-self t) refl

-- An entry in which a Busy begins delivers its invocation.
begins_delivers : (config : Config) (h : List Entry) (entry : Entry) (e p : ℕ) → IsLegal config (entry ∷ h)
    → concerns h e entry ≡ true → is_busy (phase config h e) ≡ false
    → is_busy_with (phase config (entry ∷ h) e) p ≡ true → 1 ≤ count_by (λ a. delivers p a.1) entry.answers
unfolding answers answer_to second_answer seen
begins_delivers config h entry e p l c b q = made (begins_poll config h entry e p l c b q)
  where
    g : Generation
    g = (length h, entry) ∷ (life config h e).generation

    first : Entry
    first = first_entry config h entry.moment entry.call

    busy : is_busy_with (phase config (first ∷ h) e) p ≡ true
    busy = ap (λ (P : Phase). is_busy_with P p) (phase_first config h entry e l.1) ∙ q

    made : (t : ℕ) × ((last_next g TheRuntime ≡ Some t) × (pending (first ∷ h) t ≡ true) × ((life config (entry ∷ h) e).generation ≡ g) × (t ≤ length h) × (first_answer config h entry.moment entry.call t ≡ None))
        → 1 ≤ count_by (λ a. delivers p a.1) entry.answers
    made x =
        subst (λ (n : ℕ). 1 ≤ n)
        (sym (ap (λ (xs : List (ℕ × Answer)). count_by (λ b. delivers p b.1) xs) (l.1.answers) ∙ count_numbered h first [] (each_from 0 (suc (length h)) (answer_to config h first)) p))
        (given_count 0 (suc (length h)) t p (answer_to config h first) (omega arith) (omega (arith, x.1.3)) (ap (λ (a : Option Answer). gives p (or_else a (second_answer config h first t))) (first_in config h entry.moment entry.call t (x.1.3) ∙ x.1.4) ∙ second))
      where
        t : ℕ
        t = x.0

        -- the poll is a Next, the invocation an Invoke
        asked : asks TheRuntime (call_of (entry ∷ h) t) ≡ true
        asked =
            last_asks (entry ∷ h) (life config (entry ∷ h) e).generation TheRuntime t
            (generation_part config (entry ∷ h) e) (ap (λ (g : Generation). last_next g TheRuntime) (x.1.2) ∙ x.1.0)

        other : p ≢ t
        other same =
            invoke_asks TheRuntime (call_of (entry ∷ h) t)
            (ap (λ (n : ℕ). is_invoke (call_of (entry ∷ h) n)) (sym same) ∙ (held config (entry ∷ h) e p l (busy_at_hand (phase config (entry ∷ h) e) p q)).invoke) asked

        -- the generation after the first answers
        first_going : IsGoing config h first e
        first_going =
            going config h first e
            (ap (λ (o : Option ℕ). is_number o e || names h e entry.call) (sym (l.1.place)) ∙ c) b
            (is_either (phase config (first ∷ h) e) p busy)

        runtime : (stand config (first ∷ h) e).runtime ≡ Some t
        runtime =
            parked_is (first ∷ h) (life config (first ∷ h) e).generation TheRuntime t
            (ap (λ (g : Generation). last_next g TheRuntime) (first_going.generation) ∙ x.1.0) (x.1.1)

        second : gives p (second_answer config h first t) ≡ true
        second =
            ap (λ (o : Option ℕ). gives p (second_at config h first t o)) (first_home config h entry e t l (x.1.2) (x.1.0))
            ∙ ap (λ (r : Role). gives p (delivered (begun (phase config h e) (phase config (first ∷ h) e)) r))
            (poll_role (stand config (first ∷ h) e) p t busy other runtime)
            ∙ poll_gives p (phase config h e) (phase config (first ∷ h) e) b busy

pub busy_is : (P : Phase) (p : ℕ) → is_busy P ≡ true → at_hand P ≡ Some p → is_busy_with P p ≡ true
busy_is (Busy r d) p b q = let same : r ≡ p = cc in eq-eqb r p same
busy_is P p b q = absurd (true≢false (sym b))

busy_hand : (P : Phase) → is_busy P ≡ true → at_hand P ≡ None → ⊥
busy_hand (Busy r d) b q = some-none q
busy_hand P b q = true≢false (sym b)

-- The invocation that a Busy serves was delivered.
pub busy_delivered : (config : Config) (h : List Entry) (e p : ℕ) → IsLegal config h → is_busy_with (phase config h e) p ≡ true → 1 ≤ deliveries h p
unfolding life
busy_delivered config [] e p l q = absurd (true≢false (sym q))
busy_delivered config (entry ∷ h) e p l q = go (concerns h e entry) refl (busy_delivered config h e p l.0)
  where
    here : ℕ
    here = count_by (λ a. delivers p a.1) entry.answers

    older : 1 ≤ deliveries h p → 1 ≤ here + deliveries h p
    older k = omega (arith, k)

    newly : 1 ≤ here → 1 ≤ here + deliveries h p
    newly k = omega (arith, k)

    still : concerns h e entry ≡ true → is_busy (phase config h e) ≡ true → is_busy_with (phase config h e) p ≡ true
    still c b = elim (from_entry config h entry e p l.0 l.1 (busy_at_hand (phase config (entry ∷ h) e) p q)) [
      | inl new ↦ absurd (busy_hand (phase config h e) b ((placed_free config h entry.call e entry.moment (limit_of config e entry.moment) (length h) (sym (l.1.place) ∙ number_some entry.place e (placed_here h entry e (new.1) (new.2)))).0))
      | inr old ↦ busy_is (phase config h e) p b old
    ]

    by_busy : concerns h e entry ≡ true → (b : Bool) → is_busy (phase config h e) ≡ b
        → (is_busy_with (phase config h e) p ≡ true → 1 ≤ deliveries h p) → 1 ≤ here + deliveries h p
    by_busy c true k ih = older (ih (still c k))
    by_busy c false k ih = newly (begins_delivers config h entry e p l c k q)

    go : (c : Bool) → concerns h e entry ≡ c → (is_busy_with (phase config h e) p ≡ true → 1 ≤ deliveries h p) → 1 ≤ here + deliveries h p
    go false c ih = older (ih (ap (λ (x : Lifecycle). is_busy_with x.phase p) (sym (life_elsewhere config h entry e c)) ∙ q))
    go true c ih = by_busy c (is_busy (phase config h e)) refl ih

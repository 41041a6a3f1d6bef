-- Where an environment is Idle, its runtime's Next is parked.
use Rattle.std.proofs.Common.{◌≡◌, ℕ, true, List, ◌∷◌, length, ◌⊎◌, is_some, Bool, false, if◌then◌else◌, sym, refl}
use Rattle.std.proofs.Common.{true≢false, ◌∙◌, Option, Some, None, ◌||◌, inl, inr, ap, subst, not, ◌&&◌, ◌≤◌, ◌==◌, suc}
use Rattle.std.proofs.Common.{◌<◌, [], ap₂, arith}
use Rattle.call_types.specs.declared.answer.Answer.{Answer}
use Rattle.call_types.specs.declared.answer.Answer.TheVariants.{Delivered, Told, Ending}
use Rattle.call_types.specs.declared.answer.Reason.{Reason}
use Rattle.call_types.specs.declared.answer.Phase.{Phase}
use Rattle.call_types.specs.declared.answer.Phase.TheVariants.{Starting, Closing, Idle, Busy, Off}
use Rattle.call_types.specs.declared.call.Call.{Call}
use Rattle.call_types.specs.declared.call.Call.TheVariants.{Invoke, RuntimeNext, Register, ExtNext, Stop}
use Rattle.call_types.specs.declared.call.Entry.{Entry}
use Rattle.arn_ids.specs.declared.config.Config.{Config}
use Rattle.arn_ids.specs.Environments.{expected_at}
use Rattle.call_model.specs.History.{stopped, answer_in, answer_of, pending, call_of, is_expiry, or_else, place_of}
use Rattle.call_types.specs.Calls.{env_of, is_invoke}
use Rattle.call_model.specs.Generation.{TheRuntime, parked, Generation, members, ready, last_next}
use Rattle.call_model.specs.Stand.{is_idle, is_busy, Stand, is_known, at_hand, bound_of, role, is_number}
use Rattle.call_model.specs.Table.{clock_started, unbound, placed, is_registered, own_answer, kept, or_closing, reborn, settled, closes, after_cell}
use Rattle.call_model.specs.Polls.{begun, delivered}
use Rattle.call_model.specs.Life.{life, phase, first_part, Lifecycle, stand, seen, concerns, limit_of, lived, after, request_at, ends_here, names}
use Rattle.call_model.specs.Answers.{first_answer, first_entry, home, second_answer, second_at}
use Rattle.call_model.specs.Next.{Follows, IsLegal}
use Rattle.call_model.proofs.Pairs.{is_some_none, times_in}
use Rattle.call_model.proofs.Once.{answers_once, none_given, answers_at, pending_cons}
use Rattle.call_model.proofs.Scans.{generation_below, last_below}
use Rattle.call_model.proofs.FirstPhase.{strip, first_in, first_alike, filter_strip, phase_first}
use Rattle.call_model.proofs.Basics.{and_left, some-none}
use Rattle.call_model.proofs.Elsewhere.{life_elsewhere, elsewhere}
use Rattle.call_model.proofs.Visits.{visit, if_concerned, if_ended}
use Rattle.call_model.proofs.FirstAnswers.{second, first_first}
use Rattle.call_model.proofs.NextsHome.{next_home}
use Rattle.call_model.proofs.ParkedRoles.{parked_is, is_parked}

-- what a phase after an entry says of the runtime, and of the generation
pub record IsGoing (config : Config) (h : List Entry) (entry : Entry) (e : ℕ) : Type 0 where
  pub generation : (life config (entry ∷ h) e).generation ≡ ((length h, entry) ∷ (life config h e).generation)
  pub runtime :
      (is_some (parked (first_part entry ∷ h) ((length h, entry) ∷ (life config h e).generation) TheRuntime) ≡ true) ⊎
      ((is_idle (phase config h e) ≡ true) × (is_invoke entry.call ≡ true))

idle_clock : (now : ℕ) (P : Phase) → is_busy (clock_started now P) ≡ true → is_busy P ≡ true
idle_clock now (Starting d b) q = q
idle_clock now P q = q

idle_unbound : (P : Phase) → is_busy (unbound P) ≡ true → is_busy P ≡ true
idle_unbound (Closing reason until b) q = q
idle_unbound P q = q

idle_choice : (P Q : Phase) (b : Bool) → (is_busy P ≡ true → is_busy Q ≡ true) → is_busy (if b then P else Q) ≡ true → is_busy Q ≡ true
idle_choice P Q true f q = f q
idle_choice P Q false f q = q

idle_placed : (now limit n : ℕ) (P : Phase) → is_busy P ≡ false → is_busy (placed now limit n P) ≡ true → is_idle P ≡ true
idle_placed now limit n Idle f q = refl
idle_placed now limit n (Starting d b) f q = absurd (true≢false (sym q))
idle_placed now limit n (Closing reason until b) f q = absurd (true≢false (sym q))
idle_placed now limit n (Busy p d) f q = absurd (true≢false f)
idle_placed now limit n Off f q = absurd (true≢false (sym q))

-- a cell makes a Busy only of an Invoke on Idle
busy_kept : (now limit n : ℕ) (s : Stand) (call : Call) → is_busy s.phase ≡ false
    → is_busy (kept now limit n s call) ≡ true → (is_idle s.phase ≡ true) × (is_invoke call ≡ true)
unfolding kept
busy_kept now limit n s (Invoke f qualified trace body) b q = (idle_placed now limit n s.phase b q, refl)
busy_kept now limit n s (RuntimeNext d) b q = absurd (true≢false (sym (idle_clock now s.phase q) ∙ b))
busy_kept now limit n s (ExtNext d x) b q =
    absurd (true≢false (sym (idle_choice (clock_started now s.phase) s.phase (is_known s x) (idle_clock now s.phase) q) ∙ b))
busy_kept now limit n s (Register d name invoke shutdown account) b q =
    absurd
    (true≢false (sym (idle_choice (clock_started now s.phase) s.phase (is_registered (own_answer s (Register d name invoke shutdown account))) (idle_clock now s.phase) q) ∙ b))
busy_kept now limit n s Stop b q = absurd (two s.stopped q)
  where
    two : (c : Bool) → is_busy (if c then s.phase else unbound s.phase) ≡ true → ⊥
    two true r = true≢false (sym r ∙ b)
    two false r = true≢false (sym (idle_unbound s.phase r) ∙ b)
busy_kept now limit n s call b q = absurd (true≢false (sym q ∙ b))

busy_closing : (now : ℕ) (c : Option Reason) (P : Phase) → is_busy (or_closing now c P) ≡ true → is_busy P ≡ true
busy_closing now None P q = q
busy_closing now (Some reason) P q = absurd (true≢false (sym q))

reborn_not : (over : Bool) (now : ℕ) (b : Option ℕ) → (is_busy (reborn over now b) || is_idle (reborn over now b)) ≡ false
reborn_not true now b = refl
reborn_not false now None = refl
reborn_not false now (Some p) = refl

-- a phase that is Idle or Busy after the lines that come after each entry
settled_ready : (limit : ℕ) (r w : Bool) (P : Phase) → (is_busy (settled limit r w P) || is_idle (settled limit r w P)) ≡ true → (r ≡ true) ⊎ (is_busy P ≡ true)
settled_ready limit true w P q = inl refl
settled_ready limit false w Idle q = absurd (true≢false (sym q))
settled_ready limit false w (Starting d b) q = absurd (true≢false (sym q))
settled_ready limit false w (Busy p d) q = inr refl
settled_ready limit false w (Closing reason until b) q = absurd (true≢false (sym q))
settled_ready limit false w Off q = absurd (true≢false (sym q))

abbrev IsEither : Lifecycle → Type 0
IsEither x = (is_busy x.phase || is_idle x.phase) ≡ true

-- so is the phase only where the runtime's Next is parked, or where an Invoke finds it Idle, or where it was Busy
pub going : (config : Config) (h : List Entry) (entry : Entry) (e : ℕ) → concerns h e entry ≡ true
    → is_busy (phase config h e) ≡ false
    → (is_busy (phase config (entry ∷ h) e) || is_idle (phase config (entry ∷ h) e)) ≡ true → IsGoing config h entry e
unfolding life lived after seen
going config h entry e c b q = made (subst (λ (k : Bool). IsEither (if_concerned k (visit config h e entry))) c q)
  where
    g : Generation
    g = (length h, entry) ∷ (life config h e).generation

    cell : Phase
    cell = after_cell entry.moment (limit_of config e entry.moment) (length h) (stand config h e) entry.call

    over : Bool
    over = ends_here (visit config h e entry)

    by_cell : is_busy cell ≡ true → (is_idle (phase config h e) ≡ true) × (is_invoke entry.call ≡ true)
    by_cell k =
        busy_kept entry.moment (limit_of config e entry.moment) (length h) (stand config h e) entry.call b
        (busy_closing entry.moment (closes (stand config h e) entry.call) (kept entry.moment (limit_of config e entry.moment) (length h) (stand config h e) entry.call) k)

    go : (k : Bool) → over ≡ k → IsEither (if_ended k (visit config h e entry)) → IsGoing config h entry e
    go true w r = absurd (true≢false (sym r ∙ reborn_not (stopped (first_part entry ∷ h)) entry.moment (bound_of cell)))
    go false w r = record {
      generation =
          ap (λ (k : Bool). (if_concerned k (visit config h e entry)).generation) c ∙ ap (λ (k : Bool). (if_ended k (visit config h e entry)).generation) w;
      runtime =
          elim
          (settled_ready (limit_of config e entry.moment) (ready (parked (first_part entry ∷ h) g TheRuntime) (members (first_part entry ∷ h) g) (expected_at config e)) (is_some (request_at config (first_part entry ∷ h) e (at_hand cell))) cell r) [
            | inl k ↦ inl (and_left (is_some (parked (first_part entry ∷ h) g TheRuntime)) _ k)
            | inr k ↦ inr (by_cell k)
          ];
    }

    made : IsEither (after (visit config h e entry)) → IsGoing config h entry e
    made r = go over refl r

settled_idle : (limit : ℕ) (r w : Bool) (P : Phase) → is_idle (settled limit r w P) ≡ true → r ≡ true
settled_idle limit true w P q = refl
settled_idle limit false w Idle q = absurd (true≢false (sym q))
settled_idle limit false w (Starting d b) q = absurd (true≢false (sym q))
settled_idle limit false w (Busy p d) q = absurd (true≢false (sym q))
settled_idle limit false w (Closing reason until b) q = absurd (true≢false (sym q))
settled_idle limit false w Off q = absurd (true≢false (sym q))

reborn_idle : (over : Bool) (now : ℕ) (b : Option ℕ) → is_idle (reborn over now b) ≡ false
reborn_idle true now b = refl
reborn_idle false now None = refl
reborn_idle false now (Some p) = refl

abbrev IsIdleNow : Lifecycle → Type 0
IsIdleNow x = is_idle x.phase ≡ true

-- an environment that an entry leaves Idle has the runtime's Next parked
idle_going : (config : Config) (h : List Entry) (entry : Entry) (e : ℕ) → concerns h e entry ≡ true → is_idle (phase config (entry ∷ h) e) ≡ true
    → ((life config (entry ∷ h) e).generation ≡ ((length h, entry) ∷ (life config h e).generation)) × (is_some (parked (first_part entry ∷ h) ((length h, entry) ∷ (life config h e).generation) TheRuntime) ≡ true)
unfolding life lived after seen
idle_going config h entry e c q = made (subst (λ (k : Bool). IsIdleNow (if_concerned k (visit config h e entry))) c q)
  where
    g : Generation
    g = (length h, entry) ∷ (life config h e).generation

    cell : Phase
    cell = after_cell entry.moment (limit_of config e entry.moment) (length h) (stand config h e) entry.call

    over : Bool
    over = ends_here (visit config h e entry)

    go : (k : Bool) → over ≡ k → IsIdleNow (if_ended k (visit config h e entry))
        → ((life config (entry ∷ h) e).generation ≡ ((length h, entry) ∷ (life config h e).generation)) × (is_some (parked (first_part entry ∷ h) ((length h, entry) ∷ (life config h e).generation) TheRuntime) ≡ true)
    go true w r = absurd (true≢false (sym r ∙ reborn_idle (stopped (first_part entry ∷ h)) entry.moment (bound_of cell)))
    go false w r = (
      ap (λ (k : Bool). (if_concerned k (visit config h e entry)).generation) c ∙ ap (λ (k : Bool). (if_ended k (visit config h e entry)).generation) w,
      and_left (is_some (parked (first_part entry ∷ h) g TheRuntime)) _
          (settled_idle (limit_of config e entry.moment) (ready (parked (first_part entry ∷ h) g TheRuntime) (members (first_part entry ∷ h) g) (expected_at config e)) (is_some (request_at config (first_part entry ∷ h) e (at_hand cell))) cell r),
    )

    made : IsIdleNow (after (visit config h e entry))
        → ((life config (entry ∷ h) e).generation ≡ ((length h, entry) ∷ (life config h e).generation)) × (is_some (parked (first_part entry ∷ h) ((length h, entry) ∷ (life config h e).generation) TheRuntime) ≡ true)
    made r = go over refl r

pub some_of : (o : Option ℕ) → is_some o ≡ true → (t : ℕ) × (o ≡ Some t)
some_of None q = absurd (true≢false (sym q))
some_of (Some t) q = (t, refl)

-- an entry without an answer for a ticket leaves it pending as its first answers do
pub pending_from : (entry : Entry) (h : List Entry) (t : ℕ) (xs : List (ℕ × Answer))
    → pending (first_part entry ∷ h) t ≡ true → answer_in xs t ≡ None
    → pending (record entry { answers = xs } ∷ h) t ≡ true
pending_from entry h t xs w q = go (is_expiry (call_of (entry ∷ h) t)) (answer_in (first_part entry).answers t) (answer_in xs t) (answer_of h t) q w
  where
    go : (x : Bool) (a b o : Option Answer) → b ≡ None → (not x && not (is_some (or_else a o))) ≡ true → (not x && not (is_some (or_else b o))) ≡ true
    go true a b o q r = r
    go false None None o q r = r
    go false (Some a) None o q r = absurd (true≢false (sym r))
    go false a (Some b) o q r = absurd (some-none q)

strip_none : (a : Option Answer) → strip a ≡ None → second a ≡ false → a ≡ None
strip_none None p q = refl
strip_none (Some (Delivered d m)) p q = absurd (true≢false q)
strip_none (Some (Told d m event)) p q = absurd (true≢false q)
strip_none (Some (Ending reason until event)) p q = absurd (some-none p)
strip_none (Some a) p q = absurd (some-none p)

-- a ticket that the first part of an entry leaves pending has no first answer
pub first_left : (config : Config) (h : List Entry) (entry : Entry) (t : ℕ) → Follows config h entry → t ≤ length h
    → pending (first_part entry ∷ h) t ≡ true → first_answer config h entry.moment entry.call t ≡ None
first_left config h entry t w le q =
    strip_none (first_answer config h entry.moment entry.call t)
    (ap strip (sym (first_in config h entry.moment entry.call t le)) ∙ first_alike config h entry.moment entry.call t ∙ ap (λ (xs : List (ℕ × Answer)). strip (answer_in xs t)) (sym (w.answers))
    ∙ is_some_none (strip (answer_in entry.answers t))
    (sym (filter_strip entry.answers t (subst (λ (xs : List (ℕ × Answer)). times_in xs t ≤ 1) (sym (w.answers)) (answers_once config h entry.moment entry.call t))) ∙ ap is_some (none_given (first_part entry) h t q)))
    (first_first config h entry.moment entry.call t)

begun_idle : (P Q : Phase) → is_idle Q ≡ true → begun P Q ≡ None
begun_idle (Busy q d) Q e = refl
begun_idle (Starting d b) Idle e = refl
begun_idle Idle Idle e = refl
begun_idle (Closing reason until b) Idle e = refl
begun_idle Off Idle e = refl
begun_idle P Q e = absurd (true≢false (sym e))

-- the environment of a Next that stands in the generation of the entry, with its first answers
pub first_home : (config : Config) (h : List Entry) (entry : Entry) (e t : ℕ) → IsLegal config (entry ∷ h)
    → (life config (entry ∷ h) e).generation ≡ ((length h, entry) ∷ (life config h e).generation)
    → last_next ((length h, entry) ∷ (life config h e).generation) TheRuntime ≡ Some t
    → home (first_entry config h entry.moment entry.call ∷ h) t ≡ Some e
first_home config h entry e t l g q =
    ap (λ (o : Option ℕ). or_else (if t == length h then o else place_of h t) (env_of (if t == length h then entry.call else call_of h t))) (sym (l.1.place))
    ∙ next_home config (entry ∷ h) e TheRuntime t l (ap (λ (g : Generation). last_next g TheRuntime) g ∙ q)

second_none : (config : Config) (h : List Entry) (entry : Entry) (e t : ℕ) → home (entry ∷ h) t ≡ Some e
    → begun (phase config h e) (phase config (entry ∷ h) e) ≡ None → second_answer config h entry t ≡ None
unfolding second_answer
second_none config h entry e t q b = ap (second_at config h entry t) q ∙ ap (λ (o : Option (ℕ × ℕ)). delivered o (role (stand config (entry ∷ h) e) t)) b

-- the runtime's Next is parked where an environment is Idle
pub idle_parked : (config : Config) (h : List Entry) (e : ℕ) → IsLegal config h → is_idle (phase config h e) ≡ true
    → (t : ℕ) × (parked h (life config h e).generation TheRuntime ≡ Some t)
unfolding life
idle_parked config [] e l q = absurd (true≢false (sym q))
idle_parked config (entry ∷ h) e l q = go (concerns h e entry) refl (idle_parked config h e l.0)
  where
    first : Entry
    first = first_entry config h entry.moment entry.call

    stays : concerns h e entry ≡ false → (t : ℕ) × (parked h (life config h e).generation TheRuntime ≡ Some t)
        → (t : ℕ) × (parked (entry ∷ h) (life config (entry ∷ h) e).generation TheRuntime ≡ Some t)
    stays c x =
        let k : (last_next (life config h e).generation TheRuntime ≡ Some (x.0)) × (pending h (x.0) ≡ true) = is_parked h (life config h e).generation TheRuntime (x.0) (x.1) in
        let lt : x.0 < length h = last_below (length h) (life config h e).generation TheRuntime (generation_below config h e) (x.0) k.0 in
        let none : answer_in entry.answers (x.0) ≡ None = ap (λ (xs : List (ℕ × Answer)). answer_in xs (x.0)) (l.1.answers) ∙ elsewhere config h entry.moment entry.call (x.0) e lt (next_home config h e TheRuntime (x.0) l.0 k.0) (ap (λ (o : Option ℕ). is_number o e || names h e entry.call) (sym (l.1.place)) ∙ c) in
        (x.0, parked_is (entry ∷ h) (life config (entry ∷ h) e).generation TheRuntime (x.0) (ap (λ (y : Lifecycle). last_next y.generation TheRuntime) (life_elsewhere config h entry e c) ∙ k.0) (pending_cons entry h (x.0) (omega (arith, lt)) ∙ rw (k.1, none) refl))

    comes : concerns h e entry ≡ true → (t : ℕ) × (parked (entry ∷ h) (life config (entry ∷ h) e).generation TheRuntime ≡ Some t)
    comes c = made (idle_going config h entry e c q)
      where
        g : Generation
        g = (length h, entry) ∷ (life config h e).generation

        made : ((life config (entry ∷ h) e).generation ≡ g) × (is_some (parked (first_part entry ∷ h) g TheRuntime) ≡ true)
            → (t : ℕ) × (parked (entry ∷ h) (life config (entry ∷ h) e).generation TheRuntime ≡ Some t)
        made y = at_poll (some_of (parked (first_part entry ∷ h) g TheRuntime) (y.1))
          where
            at_poll : (t : ℕ) × (parked (first_part entry ∷ h) g TheRuntime ≡ Some t)
                → (t : ℕ) × (parked (entry ∷ h) (life config (entry ∷ h) e).generation TheRuntime ≡ Some t)
            at_poll x =
                let k : (last_next g TheRuntime ≡ Some (x.0)) × (pending (first_part entry ∷ h) (x.0) ≡ true) = is_parked (first_part entry ∷ h) g TheRuntime (x.0) (x.1) in
                let lt : x.0 < suc (length h) = last_below (suc (length h)) (life config (entry ∷ h) e).generation TheRuntime (generation_below config (entry ∷ h) e) (x.0) (ap (λ (g : Generation). last_next g TheRuntime) (y.0) ∙ k.0) in
                let le : x.0 ≤ length h = omega (arith, lt) in
                let no_first : first_answer config h entry.moment entry.call (x.0) ≡ None = first_left config h entry (x.0) l.1 le k.1 in
                let no_begin : begun (phase config h e) (phase config (first ∷ h) e) ≡ None = begun_idle (phase config h e) (phase config (first ∷ h) e) (ap is_idle (phase_first config h entry e l.1) ∙ q) in
                let no_second : second_answer config h first (x.0) ≡ None = second_none config h first e (x.0) (first_home config h entry e (x.0) l (y.0) k.0) no_begin in
                let none : answer_in entry.answers (x.0) ≡ None = ap (λ (xs : List (ℕ × Answer)). answer_in xs (x.0)) (l.1.answers) ∙ is_some_none _ (answers_at config h entry.moment entry.call (x.0) le ∙ ap₂ (λ (a b : Option Answer). is_some (or_else a b)) no_first no_second) in
                (x.0, parked_is (entry ∷ h) (life config (entry ∷ h) e).generation TheRuntime (x.0) (ap (λ (g : Generation). last_next g TheRuntime) (y.0) ∙ k.0) (pending_from entry h (x.0) entry.answers k.1 none))

    go : (b : Bool) → concerns h e entry ≡ b
        → (is_idle (phase config h e) ≡ true → (t : ℕ) × (parked h (life config h e).generation TheRuntime ≡ Some t))
        → (t : ℕ) × (parked (entry ∷ h) (life config (entry ∷ h) e).generation TheRuntime ≡ Some t)
    go false c ih = stays c (ih (ap (λ (x : Lifecycle). is_idle x.phase) (sym (life_elsewhere config h entry e c)) ∙ q))
    go true c ih = comes c

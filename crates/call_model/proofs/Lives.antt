-- A placed invocation that is pending lives in its place.
use Rattle.std.proofs.Common.{◌≡◌, ℕ, Bool, true, false, List, [], ◌∷◌, length, Option, Some, None, sym, refl, ap, ◌∙◌}
use Rattle.std.proofs.Common.{inl, inr, arith, ◌≢◌, ◌⊎◌, is_some, is_none, not, ◌&&◌, ◌||◌, ◌==◌, true≢false}
use Rattle.std.proofs.Common.{if◌then◌else◌}
use Rattle.call_types.specs.declared.answer.Answer.{Answer}
use Rattle.call_types.specs.declared.answer.Reason.{Reason}
use Rattle.call_types.specs.declared.answer.Phase.{Phase}
use Rattle.call_types.specs.declared.answer.Phase.TheVariants.{Starting, Idle, Busy, Closing, Off}
use Rattle.call_types.specs.declared.call.Call.{Call}
use Rattle.call_types.specs.declared.call.Call.TheVariants.{Invoke, RuntimeNext, Register, ExtNext, Stop}
use Rattle.call_types.specs.declared.call.Entry.{Entry}
use Rattle.std.proofs.lemmas.Bool.{eqb-true, eq-eqb, or_right}
use Rattle.call_model.proofs.OwnTickets.{find_passes, admits_place}
use Rattle.arn_ids.specs.declared.config.Config.{Config}
use Rattle.arn_ids.specs.Environments.{expected_at, function_of, environments}
use Rattle.call_model.specs.History.{answer_in, answer_of, pending, call_of, place_of, is_stop, stopped, is_expiry, or_else}
use Rattle.call_model.specs.Stand.{Stand, at_hand, bound_of, is_number, is_known, is_idle, is_closing, role, Waiting, NoRole, waits_as}
use Rattle.call_model.specs.Table.{reborn, settled, kept, closes, or_closing, placed, clock_started, unbound, is_registered, own_answer, to_waiting, Cell}
use Rattle.call_model.specs.Polls.{by_role}
use Rattle.call_model.specs.Life.{Lifecycle, life, phase, stand, seen, concerns, names, ends, limit_of, first_part, is_second}
use Rattle.call_model.specs.Limits.{lowest, is_free_starting, is_free_closing, place_for, place, verdict}
use Rattle.call_model.specs.Answers.{first_answer, second_answer, first_entry}
use Rattle.call_model.specs.Next.{IsLegal, Follows}
use Rattle.call_model.proofs.Once.{fresh, pending_cons, answers_at}
use Rattle.call_model.proofs.Pairs.{eqb-other}
use Rattle.call_types.specs.Calls.{is_invoke}
use Rattle.call_model.proofs.AtHand.{IsHeld, held, from_entry, from_after, placed_here}
use Rattle.call_model.proofs.BoundWaits.{held_home, invoke_role}
use Rattle.call_model.proofs.Scans.{legal_silent}
use Rattle.call_model.proofs.PhaseStep.{phase_step, cell_of, members_after, runtime_after, filter_none}
use Rattle.call_model.specs.Generation.{Member, ready}
use Rattle.call_model.proofs.Basics.{and_left, and_right, number_some, some-none, eqb-self}
use Rattle.call_model.proofs.Elsewhere.{life_elsewhere}
use Rattle.call_model.proofs.Cells.{in_row, of_row, in_table, of_stop, first_stop}
use Rattle.std.proofs.Math.Bool.{or-false}

-- after a Stop nothing is admitted
pub not_admitted : (config : Config) (h : List Entry) (call : Call) (e : ℕ) → stopped h ≡ true → place_for config h call ≡ Some e → ⊥
unfolding verdict
not_admitted config h (Invoke f qualified trace body) e s q = some-none (sym (rw s at q))
not_admitted config h call e s q = some-none (sym q)

-- the first Stop leaves nothing at hand
pub stop_clears : (now limit n : ℕ) (s : Stand) (p : ℕ) → s.stopped ≡ false → at_hand (or_closing now (closes s Stop) (kept now limit n s Stop)) ≡ Some p → ⊥
unfolding closes kept
stop_clears now limit n s p k q =
    in_row (λ P (cell : Cell). at_hand (or_closing now cell.close (unbound P)) ≡ Some p → ⊥) s _ _ _ _ _ _
    (λ d b r. some-none (sym r)) (λ r. some-none (sym r)) (λ m d r. some-none (sym r)) (λ m d r. some-none (sym r))
    (λ reason until b r. some-none (sym r)) (λ r. some-none (sym r))
    (sym (λ i. at_hand (or_closing now (first_stop s k i).close (if k i then s.phase else unbound s.phase))) ∙ q)

-- after a Stop nothing is at hand
pub none_at_hand : (config : Config) (h : List Entry) (e p : ℕ) → IsLegal config h → stopped h ≡ true → at_hand (phase config h e) ≡ Some p → ⊥
unfolding seen
none_at_hand config [] e p l s q = true≢false (sym s)
none_at_hand config (entry ∷ h) e p l s q = go (stopped h) refl (none_at_hand config h e p l.0)
  where
    is_one : (call : Call) → is_stop call ≡ true → is_invoke call ≡ true → ⊥
    is_one Stop a b = true≢false (sym b)
    is_one call a b = true≢false (sym a)

    names_all : (call : Call) → is_stop call ≡ true → names h e call ≡ true
    names_all Stop a = refl
    names_all call a = absurd (true≢false (sym a))

    here : is_stop entry.call ≡ true → concerns h e entry ≡ true
    here k = or_right (is_number entry.place e) (names h e entry.call) (names_all entry.call k)

    at_cell : is_stop entry.call ≡ true → at_hand (cell_of config e entry (length h) (stand config h e)) ≡ Some p
    at_cell k =
        from_after _ _ _ _ entry.moment (limit_of config e entry.moment)
        (cell_of config e entry (length h) (stand config h e)) p
        (sym (ap at_hand (phase_step config h entry e (here k) (fresh config h (length h) l.0 (omega arith)) (legal_silent config h entry l.1))) ∙ q)

    first_stop : (call : Call) → is_stop call ≡ true → stopped h ≡ false
        → at_hand (or_closing entry.moment (closes (stand config h e) call) (kept entry.moment (limit_of config e entry.moment) (length h) (stand config h e) call)) ≡ Some p
        → ⊥
    first_stop Stop a k r = stop_clears entry.moment (limit_of config e entry.moment) (length h) (stand config h e) p k r
    first_stop call a k r = true≢false (sym a)

    go : (b : Bool) → stopped h ≡ b → (stopped h ≡ true → at_hand (phase config h e) ≡ Some p → ⊥) → ⊥
    go true k ih = elim (from_entry config h entry e p l.0 l.1 q) [
      | inl new ↦ not_admitted config h entry.call e k (sym (l.1.place) ∙ number_some entry.place e (placed_here h entry e new.1 new.2))
      | inr old ↦ ih k old
    ]
    go false k ih = let a : is_stop entry.call ≡ true = sym (or-false (is_stop entry.call)) ∙ rw k at s in first_stop entry.call a k (at_cell a)

to_settled : (limit : ℕ) (r : Bool) (P : Phase) (p : ℕ) → at_hand P ≡ Some p → at_hand (settled limit r true P) ≡ Some p
to_settled limit true (Starting d None) p e = e
to_settled limit true (Starting d (Some q)) p e = e
to_settled limit true (Busy q d) p e = e
to_settled limit true Idle p e = absurd (some-none (sym e))
to_settled limit true (Closing reason until b) p e = e
to_settled limit true Off p e = e
to_settled limit false Idle p e = absurd (some-none (sym e))
to_settled limit false (Starting d b) p e = e
to_settled limit false (Busy q d) p e = e
to_settled limit false (Closing reason until b) p e = e
to_settled limit false Off p e = e

to_reborn : (now : ℕ) (b : Option ℕ) (p : ℕ) → b ≡ Some p → at_hand (reborn false now b) ≡ Some p
to_reborn now None p e = e
to_reborn now (Some q) p e = e

closing_bound : (P : Phase) (p : ℕ) → is_closing P ≡ true → at_hand P ≡ Some p → bound_of P ≡ Some p
closing_bound (Closing reason until b) p k e = e
closing_bound (Starting d b) p k e = absurd (true≢false (sym k))
closing_bound Idle p k e = absurd (true≢false (sym k))
closing_bound (Busy q d) p k e = absurd (true≢false (sym k))
closing_bound Off p k e = absurd (true≢false (sym k))

-- what the cell leaves at hand stays at hand, unless a generation ends after a Stop
to_after : (b a : Bool) (r : Bool) (now limit : ℕ) (cell : Phase) (p : ℕ) → (b ≡ true → is_closing cell ≡ true)
    → at_hand cell ≡ Some p
    → at_hand (if b then reborn false now (bound_of cell) else settled limit r true cell) ≡ Some p
to_after true a r now limit cell p k e = to_reborn now (bound_of cell) p (closing_bound cell p (k refl) e)
to_after false a r now limit cell p k e = to_settled limit r cell p e

to_clock : (now : ℕ) (P : Phase) (p : ℕ) → at_hand P ≡ Some p → at_hand (clock_started now P) ≡ Some p
to_clock now (Starting d b) p e = e
to_clock now P p e = e

choice : (P Q : Phase) (b : Bool) (p : ℕ) → at_hand P ≡ Some p → at_hand Q ≡ Some p → at_hand (if b then P else Q) ≡ Some p
choice P Q true p e f = e
choice P Q false p e f = f

-- a call that is no Invoke and no first Stop, and by which nothing closes, keeps what is at hand
pub to_kept : (now limit n : ℕ) (s : Stand) (call : Call) (p : ℕ) → is_invoke call ≡ false
    → (is_stop call ≡ true → s.stopped ≡ true) → at_hand s.phase ≡ Some p → at_hand (kept now limit n s call) ≡ Some p
unfolding kept
to_kept now limit n s (Invoke f qualified trace body) p i k e = absurd (true≢false i)
to_kept now limit n s (RuntimeNext d) p i k e = to_clock now s.phase p e
to_kept now limit n s (ExtNext d x) p i k e = choice (clock_started now s.phase) s.phase (is_known s x) p (to_clock now s.phase p e) e
to_kept now limit n s (Register d name invoke shutdown account) p i k e =
    choice (clock_started now s.phase) s.phase (is_registered (own_answer s (Register d name invoke shutdown account))) p (to_clock now s.phase p e) e
to_kept now limit n s Stop p i k e = rw (k refl) e
to_kept now limit n s call p i k e = e

-- where the table closes, the waiting call gets an answer
pub closes_answers : (own : ℕ) (s : Stand) (call : Call) (p : ℕ) → at_hand s.phase ≡ Some p
    → is_some (closes s call) ≡ true → is_some (to_waiting own s call) ≡ true
unfolding closes to_waiting
closes_answers own s call p =
    in_table (λ P (cell : Cell). at_hand P ≡ Some p → is_some cell.close ≡ true → is_some (cell.waiting own) ≡ true) s (record {
      waits = λ P e k. k;
      accepts = λ P e k. k;
      refuses = λ kind P e k. k;
      registers = λ P e k. k;
      tells = λ reason until P e k. k;
      output = λ q d e k. refl;
      too_large = λ q d e k. refl;
      error = λ q d e k. refl;
      fails = λ P e k. refl;
      init_times_out = λ d b e k. refl;
      times_out = λ q d e k. refl;
      spins_down = λ e k. absurd (some-none (sym e));
    }) call (λ _. of_stop (λ (cell : Cell). at_hand s.phase ≡ Some p → is_some cell.close ≡ true
    → is_some (cell.waiting own) ≡ true) s (λ e k. k) (λ e k. refl) (λ e k. refl))

-- the first Stop answers the waiting call
pub stop_answers : (own : ℕ) (s : Stand) → s.stopped ≡ false → is_some (to_waiting own s Stop) ≡ true
unfolding to_waiting
stop_answers own s k =
    ap (λ (cell : Cell). is_some (cell.waiting own)) (first_stop s k)
    ∙ of_row (λ (cell : Cell). is_some (cell.waiting own) ≡ true) s _ _ _ _ _ _ refl refl refl refl refl refl

-- the waiting call gets what the table gives it
pub waiting_gets : (config : Config) (h : List Entry) (entry : Entry) (e p : ℕ) → Follows config h entry → IsHeld h e p
    → pending h p ≡ true → at_hand (phase config h e) ≡ Some p → names h e entry.call ≡ true
    → is_some (to_waiting (length h) (stand config h e) entry.call) ≡ true → is_some (answer_in entry.answers p) ≡ true
unfolding first_answer seen
waiting_gets config h entry e p f k w at n given =
    rw (f.answers)
    (answers_at config h entry.moment entry.call p (omega (arith, k.older)) ∙ rw first (given_first (to_waiting (length h) (stand config h e) entry.call) given))
  where
    ne : p ≢ length h
    ne = omega (arith, k.older)

    given_first : (a : Option Answer) → is_some a ≡ true → is_some (or_else a (second_answer config h (first_entry config h entry.moment entry.call) p)) ≡ true
    given_first (Some a) q = refl
    given_first None q = absurd (true≢false (sym q))

    is_waiting : waits_as (stand config h e) p ≡ true
    is_waiting = rw (at, w, eqb-self p) refl

    as_waiting : role (stand config h e) p ≡ Waiting
    as_waiting = invoke_role config h e p (k.invoke) ∙ ap (λ (b : Bool). if b then Waiting else NoRole) is_waiting

    first : first_answer config h entry.moment entry.call p ≡ to_waiting (length h) (stand config h e) entry.call
    first = rw (eqb-other p (length h) ne, held_home h e p k, n) (ap (by_role (length h) entry.moment (stand config h e) entry.call p) as_waiting)

is_none_true : {A : Type 0} (a : Option A) → is_none a ≡ true → a ≡ None
is_none_true None q = refl
is_none_true (Some a) q = absurd (true≢false (sym q))

-- an entry that leaves it pending keeps at hand what its cell leaves so
pub stays_at_hand : (config : Config) (h : List Entry) (entry : Entry) (e p : ℕ) → IsLegal config h
    → Follows config h entry → concerns h e entry ≡ true → (is_stop entry.call || stopped h) ≡ false
    → pending (first_part entry ∷ h) p ≡ true
    → at_hand (cell_of config e entry (length h) (stand config h e)) ≡ Some p → at_hand (phase config (entry ∷ h) e) ≡ Some p
unfolding seen
stays_at_hand config h entry e p l f c over w q =
    ap at_hand (phase_step config h entry e c (fresh config h (length h) l (omega arith)) (legal_silent config h entry f))
    ∙ rw (over, q, w)
    (to_after (ends (phase config h e) entry.call cell later) true (ready next later (expected_at config e)) entry.moment (limit_of config e entry.moment) cell p (and_left (is_closing cell) _) q)
  where
    cell : Phase
    cell = cell_of config e entry (length h) (stand config h e)

    later : List Member
    later = members_after h (life config h e).generation (first_part entry) entry (length h) (stand config h e).members

    next : Option ℕ
    next = runtime_after (first_part entry) entry (length h) (stand config h e).runtime

-- a place is free: an Invoke that is placed there is at hand
placed_at_hand : (now limit n : ℕ) (P : Phase)
    → (is_idle P ≡ true) ⊎ ((is_free_starting P ≡ true) ⊎ (is_free_closing P ≡ true))
    → (at_hand P ≡ None) × (at_hand (placed now limit n P) ≡ Some n)
placed_at_hand now limit n Idle f = (refl, refl)
placed_at_hand now limit n (Starting d None) f = (refl, refl)
placed_at_hand now limit n (Closing reason until None) f = (refl, refl)
placed_at_hand now limit n (Starting d (Some q)) (inl f) = absurd (true≢false (sym f))
placed_at_hand now limit n (Starting d (Some q)) (inr (inl f)) = absurd (true≢false (sym f))
placed_at_hand now limit n (Starting d (Some q)) (inr (inr f)) = absurd (true≢false (sym f))
placed_at_hand now limit n (Closing reason until (Some q)) (inl f) = absurd (true≢false (sym f))
placed_at_hand now limit n (Closing reason until (Some q)) (inr (inl f)) = absurd (true≢false (sym f))
placed_at_hand now limit n (Closing reason until (Some q)) (inr (inr f)) = absurd (true≢false (sym f))
placed_at_hand now limit n (Busy q d) (inl f) = absurd (true≢false (sym f))
placed_at_hand now limit n (Busy q d) (inr (inl f)) = absurd (true≢false (sym f))
placed_at_hand now limit n (Busy q d) (inr (inr f)) = absurd (true≢false (sym f))
placed_at_hand now limit n Off (inl f) = absurd (true≢false (sym f))
placed_at_hand now limit n Off (inr (inl f)) = absurd (true≢false (sym f))
placed_at_hand now limit n Off (inr (inr f)) = absurd (true≢false (sym f))

lowest_passes : (config : Config) (h : List Entry) (f : ℕ) (passes : Phase → Bool) (e : ℕ)
    → lowest config h f passes ≡ Some e → passes (phase config h e) ≡ true
lowest_passes config h f passes e q =
    and_right (function_of config e == f) (passes (phase config h e))
    (find_passes (λ d. (function_of config d == f) && passes (phase config h d)) (environments config) e q)

place_free : (config : Config) (h : List Entry) (f e : ℕ) → place config h f ≡ Some e
    → (is_idle (phase config h e) ≡ true) ⊎ ((is_free_starting (phase config h e) ≡ true) ⊎ (is_free_closing (phase config h e) ≡ true))
unfolding place
place_free config h f e q = go (lowest config h f is_idle) refl (lowest config h f is_free_starting) refl q
  where
    go : (a : Option ℕ) → lowest config h f is_idle ≡ a → (b : Option ℕ) → lowest config h f is_free_starting ≡ b
        → or_else a (or_else b (lowest config h f is_free_closing)) ≡ Some e
        → (is_idle (phase config h e) ≡ true) ⊎ ((is_free_starting (phase config h e) ≡ true) ⊎ (is_free_closing (phase config h e) ≡ true))
    go (Some a) p b r k = inl (lowest_passes config h f is_idle e (p ∙ k))
    go None p (Some b) r k = inr (inl (lowest_passes config h f is_free_starting e (r ∙ k)))
    go None p None r k = inr (inr (lowest_passes config h f is_free_closing e k))

-- an Invoke that is placed finds nothing at hand there, and is at hand after the cell
pub placed_free : (config : Config) (h : List Entry) (call : Call) (e now limit n : ℕ)
    → place_for config h call ≡ Some e
    → (at_hand (phase config h e) ≡ None) × (at_hand (or_closing now (closes (stand config h e) call) (kept now limit n (stand config h e) call)) ≡ Some n) × (is_stop call ≡ false)
unfolding closes kept seen
placed_free config h (Invoke f qualified trace body) e now limit n q =
    let free : (at_hand (phase config h e) ≡ None) × (at_hand (placed now limit n (phase config h e)) ≡ Some n) = placed_at_hand now limit n (phase config h e) (place_free config h f e (admits_place config h f e q)) in
    (free.0, free.1, refl)
placed_free config h call e now limit n q = absurd (some-none (sym q))

-- what is pending after an entry is so after its first answers
first_pending : (entry : Entry) (h : List Entry) (p : ℕ) → pending (entry ∷ h) p ≡ true → pending (first_part entry ∷ h) p ≡ true
first_pending entry h p w =
    go (is_expiry (call_of (entry ∷ h) p)) (answer_in entry.answers p) (answer_in (first_part entry).answers p)
    (answer_of h p) (filter_none (λ a. not (is_second a.1)) entry.answers p) w
  where
    go : (x : Bool) (a b o : Option Answer) → (a ≡ None → b ≡ None) → (not x && not (is_some (or_else a o))) ≡ true
        → (not x && not (is_some (or_else b o))) ≡ true
    go true a b o f q = q
    go false (Some a) b o f q = absurd (true≢false (sym q))
    go false None b o f q = rw (f refl) q

-- A placed invocation that is pending lives in its place.
pub lives : (config : Config) (h : List Entry) (e p : ℕ) → IsLegal config h → is_number (place_of h p) e ≡ true
    → pending h p ≡ true → at_hand (phase config h e) ≡ Some p
unfolding seen
lives config [] e p l at w = absurd (true≢false (sym at))
lives config (entry ∷ h) e p l at w = go (p == length h) refl (lives config h e p l.0)
  where
    cell : Phase
    cell = cell_of config e entry (length h) (stand config h e)

    none_stopped : (b : Bool) → stopped h ≡ b → (stopped h ≡ true → ⊥) → stopped h ≡ false
    none_stopped true q f = absurd (f q)
    none_stopped false q f = q

    over_false : (a : Bool) → a ≡ false → stopped h ≡ false → (a || stopped h) ≡ false
    over_false true q r = absurd (true≢false q)
    over_false false q r = r

    new : p ≡ length h → is_number entry.place e ≡ true → at_hand (phase config (entry ∷ h) e) ≡ Some p
    new same k =
        let at_place : place_for config h entry.call ≡ Some e = sym (l.1.place) ∙ number_some entry.place e k in
        let free : (at_hand (phase config h e) ≡ None) × (at_hand cell ≡ Some (length h)) × (is_stop entry.call ≡ false) = placed_free config h entry.call e entry.moment (limit_of config e entry.moment) (length h) at_place in
        stays_at_hand config h entry e p l.0 l.1 (rw k refl)
        (over_false (is_stop entry.call) free.2 (none_stopped (stopped h) refl (λ s. not_admitted config h entry.call e s at_place)))
        (first_pending entry h p w) (free.1 ∙ ap (λ (n : ℕ). Some n) (sym same))

    old : p ≢ length h → is_number (place_of h p) e ≡ true
        → (is_number (place_of h p) e ≡ true → pending h p ≡ true → at_hand (phase config h e) ≡ Some p)
        → at_hand (phase config (entry ∷ h) e) ≡ Some p
    old ne k ih = by_concern (concerns h e entry) refl
      where
        both : (pending h p && is_none (answer_in entry.answers p)) ≡ true
        both = sym (pending_cons entry h p ne) ∙ w

        was : pending h p ≡ true
        was = and_left (pending h p) _ both

        none : answer_in entry.answers p ≡ None
        none = is_none_true (answer_in entry.answers p) (and_right (pending h p) _ both)

        hand : at_hand (phase config h e) ≡ Some p
        hand = ih k was

        not_over : stopped h ≡ false
        not_over = none_stopped (stopped h) refl (λ s. none_at_hand config h e p l.0 s hand)

        no_place : (b : Bool) → is_number entry.place e ≡ b → is_number entry.place e ≡ false
        no_place false q = q
        no_place true q =
            absurd
            (some-none (sym hand ∙ (placed_free config h entry.call e entry.moment (limit_of config e entry.moment) (length h) (sym (l.1.place) ∙ number_some entry.place e q)).0))

        named : concerns h e entry ≡ true → names h e entry.call ≡ true
        named c = rw (no_place (is_number entry.place e) refl) at c

        gets_none : names h e entry.call ≡ true → is_some (to_waiting (length h) (stand config h e) entry.call) ≡ true → ⊥
        gets_none n g = true≢false (sym (waiting_gets config h entry e p l.1 (held config h e p l.0 hand) was hand n g) ∙ ap is_some none)

        no_close : names h e entry.call ≡ true → (o : Option Reason) → closes (stand config h e) entry.call ≡ o → closes (stand config h e) entry.call ≡ None
        no_close n None q = q
        no_close n (Some reason) q = absurd (gets_none n (closes_answers (length h) (stand config h e) entry.call p (stand_hand ∙ hand) (ap is_some q)))
          where
            stand_hand : at_hand (stand config h e).phase ≡ at_hand (phase config h e)
            stand_hand = refl

        no_stop : names h e entry.call ≡ true → (b : Bool) → is_stop entry.call ≡ b → is_stop entry.call ≡ false
        no_stop n false q = q
        no_stop n true q = absurd (gets_none n (stopping entry.call q))
          where
            stopping : (call : Call) → is_stop call ≡ true → is_some (to_waiting (length h) (stand config h e) call) ≡ true
            stopping Stop r = stop_answers (length h) (stand config h e) not_over
            stopping call r = absurd (true≢false (sym r))

        no_invoke : names h e entry.call ≡ true → is_invoke entry.call ≡ false
        no_invoke n = by_call entry.call n
          where
            by_call : (call : Call) → names h e call ≡ true → is_invoke call ≡ false
            by_call (Invoke f qualified trace body) r = absurd (true≢false (sym r))
            by_call call r = refl

        by_concern : (c : Bool) → concerns h e entry ≡ c → at_hand (phase config (entry ∷ h) e) ≡ Some p
        by_concern false c = ap (λ (x : Lifecycle). at_hand x.phase) (life_elsewhere config h entry e c) ∙ hand
        by_concern true c =
            let n : names h e entry.call ≡ true = named c in
            stays_at_hand config h entry e p l.0 l.1 c
            (over_false (is_stop entry.call) (no_stop n (is_stop entry.call) refl) not_over)
            (first_pending entry h p w)
            (ap (λ (o : Option Reason). at_hand (or_closing entry.moment o (kept entry.moment (limit_of config e entry.moment) (length h) (stand config h e) entry.call))) (no_close n (closes (stand config h e) entry.call) refl)
            ∙ to_kept entry.moment (limit_of config e entry.moment) (length h) (stand config h e) entry.call p
            (no_invoke n) (λ s. absurd (true≢false (sym s ∙ no_stop n (is_stop entry.call) refl))) hand)

    go : (b : Bool) → (p == length h) ≡ b
        → (is_number (place_of h p) e ≡ true → pending h p ≡ true → at_hand (phase config h e) ≡ Some p)
        → at_hand (phase config (entry ∷ h) e) ≡ Some p
    go true q ih = new (eqb-true p (length h) q) (rw q at at)
    go false q ih = old (λ same. true≢false (sym (eq-eqb p (length h) same) ∙ q)) (rw q at at) ih

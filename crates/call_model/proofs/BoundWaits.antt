-- A bound invocation is pending.
use Rattle.std.proofs.Common.{◌≡◌, ℕ, ◌<◌, Bool, true, false, List, [], ◌∷◌, length, Option, Some, None, sym, refl, ap}
use Rattle.std.proofs.Common.{◌∙◌, subst, inl, inr, arith, ◌≢◌, ◌⊎◌, not, ◌&&◌, map, true≢false, if◌then◌else◌}
use Rattle.std.specs.List.{find}
use Rattle.call_types.specs.declared.answer.Reason.{Reason}
use Rattle.call_types.specs.declared.answer.Phase.{Phase}
use Rattle.call_types.specs.declared.answer.Phase.TheVariants.{Starting, Idle, Busy, Closing, Off}
use Rattle.call_types.specs.declared.call.Call.{Call}
use Rattle.call_types.specs.declared.call.Call.TheVariants.{Invoke, RuntimeNext, Response, ResponseTooLarge, Failure}
use Rattle.call_types.specs.declared.call.Call.TheVariants.{InitFailure, Register, ExtNext, ExtInitFailure}
use Rattle.call_types.specs.declared.call.Call.TheVariants.{ExtExitFailure, Tick, Withdraw, Spindown, Stop, Expire}
use Rattle.call_types.specs.declared.call.Call.TheVariants.{Reserve}
use Rattle.call_types.specs.declared.call.Entry.{Entry}
use Rattle.arn_ids.specs.declared.config.Config.{Config}
use Rattle.call_model.specs.History.{answer_in, pending, call_of, place_of, is_stop, is_expiry}
use Rattle.call_model.specs.Generation.{Generation, Actor, TheRuntime, TheExtension, Extension, asks, last_next, parked}
use Rattle.call_model.specs.Generation.{if_pending, member, members, extensions}
use Rattle.call_model.specs.Stand.{Stand, bound_of, is_number, is_known, role, NoRole, Waiting, waits_as}
use Rattle.call_model.specs.Table.{reborn, settled, kept, closes, or_closing, placed, clock_started, unbound}
use Rattle.call_model.specs.Table.{is_registered, own_answer, to_waiting, Cell, row, nothing, stops, tells_stopped}
use Rattle.call_model.specs.Polls.{delivered, begun, by_role}
use Rattle.call_model.specs.Life.{Lifecycle, life, lived, after, phase, stand, seen, concerns, names, limit_of, ends_here}
use Rattle.call_model.specs.Limits.{place_for, Verdict, AfterStop, Refuses, Admits, admitted_to, verdict}
use Rattle.call_model.specs.Answers.{verdict_answer, own_first, first_answer, second_answer, second_at, first_entry, home, answer_at}
use Rattle.call_model.specs.Next.{IsLegal, Follows}
use Rattle.call_model.proofs.Pairs.{eqb-other, is_some_none}
use Rattle.call_model.proofs.Once.{fresh, answers_at, pending_cons}
use Rattle.call_types.specs.Calls.{is_invoke}
use Rattle.call_model.proofs.AtHand.{IsHeld, held, bound_at_hand, placed_here}
use Rattle.call_model.proofs.Scans.{legal_silent}
use Rattle.call_model.proofs.PhaseStep.{phase_step, cell_of}
use Rattle.call_model.proofs.Basics.{number_some, some-none, eqb-self}
use Rattle.call_model.proofs.Elsewhere.{life_elsewhere}
use Rattle.call_model.proofs.Visits.{visit, if_concerned, if_ended}
use Rattle.call_model.proofs.Cells.{in_row, in_table, first_stop}
use Rattle.std.proofs.lemmas.Bool.{or_parts}

-- each entry of a generation stands in the history under its ticket
abbrev pub IsPart : List Entry → Generation → Type 0
IsPart h [] = Unit {0}
IsPart h (taken ∷ g) = ((taken.0 < length h) × (call_of h taken.0 ≡ taken.1.call)) × IsPart h g

part_older : (entry : Entry) (h : List Entry) (g : Generation) → IsPart h g → IsPart (entry ∷ h) g
part_older entry h [] p = tt
part_older entry h (taken ∷ g) p =
    let ne : taken.0 ≢ length h = omega (arith, p.0.0) in ((omega (arith, p.0.0), rw (eqb-other taken.0 (length h) ne) (p.0.1)), part_older entry h g p.1)

pub generation_part : (config : Config) (h : List Entry) (e : ℕ) → IsPart h (life config h e).generation
unfolding life lived after
generation_part config [] e = tt
generation_part config (entry ∷ h) e = go (concerns h e entry) (part_older entry h (life config h e).generation (generation_part config h e))
  where
    at_end : (b : Bool) → IsPart (entry ∷ h) (life config h e).generation → IsPart (entry ∷ h) (if_ended b (visit config h e entry)).generation
    at_end true k = tt
    at_end false k = ((omega arith, rw (eqb-self (length h)) refl), k)

    go : (b : Bool) → IsPart (entry ∷ h) (life config h e).generation → IsPart (entry ∷ h) (if_concerned b (visit config h e entry)).generation
    go false k = k
    go true k = at_end (ends_here (visit config h e entry)) k

-- an actor's last Next is a Next
pub last_asks : (h : List Entry) (g : Generation) (actor : Actor) (t : ℕ) → IsPart h g → last_next g actor ≡ Some t → asks actor (call_of h t) ≡ true
last_asks h [] actor t p q = absurd (some-none (sym q))
last_asks h (taken ∷ g) actor t p q = go (asks actor taken.1.call) refl (last_asks h g actor t p.1) q
  where
    go : (c : Bool) → asks actor taken.1.call ≡ c → (last_next g actor ≡ Some t → asks actor (call_of h t) ≡ true)
        → (if c then Some taken.0 else last_next g actor) ≡ Some t → asks actor (call_of h t) ≡ true
    go true a ih r = let at : taken.0 ≡ t = cc in ap (λ (n : ℕ). asks actor (call_of h n)) (sym at) ∙ ap (asks actor) p.0.1 ∙ a
    go false a ih r = ih r

pub invoke_asks : (actor : Actor) (call : Call) → is_invoke call ≡ true → asks actor call ≡ true → ⊥
invoke_asks TheRuntime (Invoke f qualified trace body) i a = true≢false (sym a)
invoke_asks (TheExtension x) (Invoke f qualified trace body) i a = true≢false (sym a)
invoke_asks actor call i a = true≢false (sym i)

pub not_parked : (h : List Entry) (g : Generation) (actor : Actor) (t : ℕ) → IsPart h g → is_invoke (call_of h t) ≡ true
    → is_number (parked h g actor) t ≡ false
not_parked h g actor t p i = go (last_next g actor) refl
  where
    go : (o : Option ℕ) → last_next g actor ≡ o → is_number (if_pending h o) t ≡ false
    go None q = refl
    go (Some u) q = both (pending h u)
      where
        both : (b : Bool) → is_number (if b then Some u else None) t ≡ false
        both false = refl
        both true = eqb-other u t (λ same. invoke_asks actor (call_of h t) i (ap (λ (n : ℕ). asks actor (call_of h n)) (sym same) ∙ last_asks h g actor u p q))

no_member_at : (h : List Entry) (g : Generation) (t : ℕ) → IsPart h g → is_invoke (call_of h t) ≡ true
    → (xs : List Extension) → find (λ x. is_number x.next t) (map (member h g) xs) ≡ None
no_member_at h g t p i [] = refl
no_member_at h g t p i (x ∷ xs) = rw (not_parked h g (TheExtension x.count) t p i) (no_member_at h g t p i xs)

-- an invocation is no poll: it is the waiting call or nothing
pub invoke_role : (config : Config) (h : List Entry) (e t : ℕ) → is_invoke (call_of h t) ≡ true
    → role (stand config h e) t ≡ (if waits_as (stand config h e) t then Waiting else NoRole)
unfolding role seen members
invoke_role config h e t i =
    rw
    (not_parked h (life config h e).generation TheRuntime t (generation_part config h e) i, no_member_at h (life config h e).generation t (generation_part config h e) i (extensions (life config h e).generation)) refl

-- so no Busy that begins answers it
pub invoke_second : (config : Config) (h : List Entry) (entry : Entry) (t : ℕ)
    → is_invoke (call_of (entry ∷ h) t) ≡ true → second_answer config h entry t ≡ None
unfolding second_answer
invoke_second config h entry t i = go (home (entry ∷ h) t)
  where
    nothing : (b : Option (ℕ × ℕ)) (c : Bool) → delivered b (if c then Waiting else NoRole) ≡ None
    nothing None c = refl
    nothing (Some b) true = refl
    nothing (Some b) false = refl

    go : (d : Option ℕ) → second_at config h entry t d ≡ None
    go None = refl
    go (Some d) =
        ap (delivered (begun (phase config h d) (phase config (entry ∷ h) d))) (invoke_role config (entry ∷ h) d t i)
        ∙ nothing (begun (phase config h d) (phase config (entry ∷ h) d)) (waits_as (stand config (entry ∷ h) d) t)

from_settled : (limit : ℕ) (r w : Bool) (P : Phase) (p : ℕ) → bound_of (settled limit r w P) ≡ Some p → bound_of P ≡ Some p
from_settled limit true w (Starting d None) p e = e
from_settled limit true w (Starting d (Some q)) p e = absurd (some-none (sym e))
from_settled limit true false (Busy q d) p e = e
from_settled limit true true (Busy q d) p e = e
from_settled limit true w Idle p e = e
from_settled limit true w (Closing reason until b) p e = e
from_settled limit true w Off p e = e
from_settled limit false w Idle p e = e
from_settled limit false w (Starting d b) p e = e
from_settled limit false w (Busy q d) p e = e
from_settled limit false w (Closing reason until b) p e = e
from_settled limit false w Off p e = e

from_reborn : (over : Bool) (now : ℕ) (b : Option ℕ) (p : ℕ) → bound_of (reborn over now b) ≡ Some p → b ≡ Some p
from_reborn true now b p e = absurd (some-none (sym e))
from_reborn false now None p e = e
from_reborn false now (Some q) p e = e

pub from_after : (b over r w : Bool) (now limit : ℕ) (cell : Phase) (p : ℕ)
    → bound_of (if b then reborn over now (bound_of cell) else settled limit r w cell) ≡ Some p → bound_of cell ≡ Some p
from_after true over r w now limit cell p e = from_reborn over now (bound_of cell) p e
from_after false over r w now limit cell p e = from_settled limit r w cell p e

pub from_closing : (now : ℕ) (c : Option Reason) (P : Phase) (p : ℕ) → bound_of (or_closing now c P) ≡ Some p → (c ≡ None) × (bound_of P ≡ Some p)
from_closing now None P p e = (refl, e)
from_closing now (Some reason) P p e = absurd (some-none (sym e))

from_clock : (now : ℕ) (P : Phase) (p : ℕ) → bound_of (clock_started now P) ≡ Some p → bound_of P ≡ Some p
from_clock now (Starting d b) p e = e
from_clock now P p e = e

from_unbound : (P : Phase) (p : ℕ) → bound_of (unbound P) ≡ Some p → bound_of P ≡ Some p
from_unbound (Closing reason until b) p e = absurd (some-none (sym e))
from_unbound P p e = e

from_placed : (now limit n : ℕ) (P : Phase) (p : ℕ) → bound_of (placed now limit n P) ≡ Some p → (n ≡ p) ⊎ (bound_of P ≡ Some p)
from_placed now limit n (Starting d b) p e = inl (cc)
from_placed now limit n (Closing reason until b) p e = inl (cc)
from_placed now limit n Idle p e = absurd (some-none (sym e))
from_placed now limit n P p e = inr e

choice : (P Q : Phase) (b : Bool) (p : ℕ) → (bound_of P ≡ Some p → bound_of Q ≡ Some p) → bound_of (if b then P else Q) ≡ Some p → bound_of Q ≡ Some p
choice P Q true p f e = f e
choice P Q false p f e = e

-- a bound invocation stays so by a call that isn't the first Stop
abbrev pub Stays : Stand → Call → ℕ → Type 0
Stays s call p = (bound_of s.phase ≡ Some p) × (is_stop call ≡ true → closes s Stop ≡ None → s.stopped ≡ true)

starting_closes : (s : Stand) (p : ℕ) → bound_of (unbound s.phase) ≡ Some p → s.stopped ≡ false → closes s Stop ≡ None → ⊥
unfolding closes
starting_closes s p e q k =
    in_row (λ P (cell : Cell). bound_of (unbound P) ≡ Some p → cell.close ≡ None → ⊥) s _ _ _ _ _ _
    (λ d b x y. some-none y) (λ x y. some-none y) (λ n d x y. some-none y) (λ n d x y. some-none y)
    (λ reason until b x y. some-none (sym x)) (λ x y. some-none (sym x)) e
    (sym (ap (λ (cell : Cell). cell.close) (first_stop s q)) ∙ k)

pub from_kept : (now limit n : ℕ) (s : Stand) (call : Call) (p : ℕ) → bound_of (kept now limit n s call) ≡ Some p
    → ((n ≡ p) × (is_invoke call ≡ true)) ⊎ Stays s call p
unfolding kept
from_kept now limit n s (Invoke f qualified trace body) p e =
    elim (from_placed now limit n s.phase p e) [ inl q ↦ inl (q, refl) | inr q ↦ inr (q, λ x _. absurd (true≢false (sym x))) ]
from_kept now limit n s (RuntimeNext d) p e = inr (from_clock now s.phase p e, λ x _. absurd (true≢false (sym x)))
from_kept now limit n s (ExtNext d x) p e =
    inr (choice (clock_started now s.phase) s.phase (is_known s x) p (from_clock now s.phase p) e, λ x _. absurd (true≢false (sym x)))
from_kept now limit n s (Register d name invoke shutdown account) p e =
    inr
    (choice (clock_started now s.phase) s.phase (is_registered (own_answer s (Register d name invoke shutdown account))) p (from_clock now s.phase p) e, λ x _. absurd (true≢false (sym x)))
from_kept now limit n s Stop p e = inr (two s.stopped refl e)
  where
    two : (b : Bool) → s.stopped ≡ b → bound_of (if b then s.phase else unbound s.phase) ≡ Some p → Stays s Stop p
    two true k q = (q, λ _ _. k)
    two false k q = (from_unbound s.phase p q, λ _ c. absurd (starting_closes s p q k c))
from_kept now limit n s (Response d id body) p e = inr (e, λ x _. absurd (true≢false (sym x)))
from_kept now limit n s (ResponseTooLarge d id) p e = inr (e, λ x _. absurd (true≢false (sym x)))
from_kept now limit n s (Failure d id body) p e = inr (e, λ x _. absurd (true≢false (sym x)))
from_kept now limit n s (InitFailure d body) p e = inr (e, λ x _. absurd (true≢false (sym x)))
from_kept now limit n s (ExtInitFailure d x body) p e = inr (e, λ x _. absurd (true≢false (sym x)))
from_kept now limit n s (ExtExitFailure d x body) p e = inr (e, λ x _. absurd (true≢false (sym x)))
from_kept now limit n s Tick p e = inr (e, λ x _. absurd (true≢false (sym x)))
from_kept now limit n s (Withdraw t) p e = inr (e, λ x _. absurd (true≢false (sym x)))
from_kept now limit n s (Spindown d) p e = inr (e, λ x _. absurd (true≢false (sym x)))
from_kept now limit n s (Expire d) p e = inr (e, λ x _. absurd (true≢false (sym x)))
from_kept now limit n s (Reserve f count) p e = inr (e, λ x _. absurd (true≢false (sym x)))

-- nothing is given to a bound invocation by a call that doesn't close
pub to_none : (own : ℕ) (s : Stand) (call : Call) (p : ℕ) → closes s call ≡ None → Stays s call p → to_waiting own s call ≡ None
unfolding closes to_waiting
to_none own s call p c k =
    in_table (λ P (cell : Cell). cell.close ≡ None → bound_of P ≡ Some p → cell.waiting own ≡ None) s (record {
      waits = λ P x y. refl;
      accepts = λ P x y. refl;
      refuses = λ kind P x y. refl;
      registers = λ P x y. refl;
      tells = λ reason until P x y. refl;
      output = λ n d x y. absurd (some-none (sym y));
      too_large = λ n d x y. absurd (some-none (sym y));
      error = λ n d x y. absurd (some-none (sym y));
      fails = λ P x y. absurd (some-none x);
      init_times_out = λ d b x y. absurd (some-none x);
      times_out = λ n d x y. absurd (some-none x);
      spins_down = λ x y. refl;
    }) call (λ is x y. ap (λ (b : Bool). (if b then nothing else row s stops stops stops stops tells_stopped tells_stopped).waiting own) (k.1 is x)) c k.0

pub held_home : (h : List Entry) (e p : ℕ) → IsHeld h e p → home h p ≡ Some e
held_home h e p k = rw (number_some (place_of h p) e k.placed) refl

-- a call gives nothing to an invocation at hand, where the table gives the waiting call nothing
pub quiet_at : (config : Config) (h : List Entry) (entry : Entry) (e p : ℕ) → Follows config h entry → IsHeld h e p
    → (names h e entry.call ≡ true → to_waiting (length h) (stand config h e) entry.call ≡ None)
    → answer_in entry.answers p ≡ None
unfolding first_answer
quiet_at config h entry e p f k nothing =
    rw (f.answers)
    (is_some_none _ (answers_at config h entry.moment entry.call p (omega (arith, k.older)) ∙ rw (first, invoke_second config h (first_entry config h entry.moment entry.call) p (rw (eqb-other p (length h) ne) (k.invoke))) refl))
  where
    ne : p ≢ length h
    ne = omega (arith, k.older)

    by_waiting : (c : Bool) → to_waiting (length h) (stand config h e) entry.call ≡ None
        → by_role (length h) entry.moment (stand config h e) entry.call p (if c then Waiting else NoRole) ≡ None
    by_waiting true q = q
    by_waiting false q = refl

    at_env : (b : Bool) → names h e entry.call ≡ b → answer_at config h entry.moment e entry.call p b ≡ None
    at_env false q = refl
    at_env true q =
        ap (by_role (length h) entry.moment (stand config h e) entry.call p) (invoke_role config h e p (k.invoke))
        ∙ by_waiting (waits_as (stand config h e) p) (nothing q)

    first : first_answer config h entry.moment entry.call p ≡ None
    first = rw (eqb-other p (length h) ne, held_home h e p k) (at_env (names h e entry.call) refl)

-- an Invoke that is placed has no answer of its own
own_placed : (config : Config) (h : List Entry) (entry : Entry) (e : ℕ) → Follows config h entry
    → is_invoke entry.call ≡ true → is_number entry.place e ≡ true → answer_in entry.answers (length h) ≡ None
unfolding first_answer own_first
own_placed config h entry e f i at =
    rw (f.answers)
    (is_some_none _ (answers_at config h entry.moment entry.call (length h) (omega arith) ∙ rw (first, invoke_second config h (first_entry config h entry.moment entry.call) (length h) (rw (eqb-self (length h)) i)) refl))
  where
    admitted : (v : Verdict) → is_number (admitted_to v) e ≡ true → verdict_answer v ≡ None
    admitted (Admits d) q = refl
    admitted AfterStop q = absurd (true≢false (sym q))
    admitted (Refuses reason) q = absurd (true≢false (sym q))

    by_call : (call : Call) → is_invoke call ≡ true → is_number (place_for config h call) e ≡ true → own_first config h call ≡ None
    by_call (Invoke g qualified trace body) a q = admitted (verdict config h g) q
    by_call call a q = absurd (true≢false (sym a))

    first : first_answer config h entry.moment entry.call (length h) ≡ None
    first = rw (eqb-self (length h)) (by_call entry.call i (ap (λ (o : Option ℕ). is_number o e) (sym (f.place)) ∙ at))

-- A bound invocation is pending.
pub bound_waits : (config : Config) (h : List Entry) (e p : ℕ) → IsLegal config h → bound_of (phase config h e) ≡ Some p → pending h p ≡ true
unfolding life seen
bound_waits config [] e p l q = absurd (some-none (sym q))
bound_waits config (entry ∷ h) e p l q = go (concerns h e entry) refl (bound_waits config h e p l.0)
  where
    s : Stand
    s = stand config h e

    cell : Phase
    cell = cell_of config e entry (length h) s

    older_waits : bound_of (phase config h e) ≡ Some p → pending h p ≡ true
        → (names h e entry.call ≡ true → to_waiting (length h) s entry.call ≡ None) → pending (entry ∷ h) p ≡ true
    older_waits b w n =
        let k : IsHeld h e p = held config h e p l.0 (bound_at_hand (phase config h e) p b) in
        pending_cons entry h p (omega (arith, k.older)) ∙ rw (w, quiet_at config h entry e p l.1 k n) refl

    newly : length h ≡ p → is_invoke entry.call ≡ true → concerns h e entry ≡ true → pending (entry ∷ h) p ≡ true
    newly at i c =
        subst (λ n. pending (entry ∷ h) n ≡ true) at
        (rw (eqb-self (length h), own_placed config h entry e l.1 i (placed_here h entry e i c), fresh config h (length h) l.0 (omega arith)) (no_expiry entry.call i))
      where
        no_expiry : (call : Call) → is_invoke call ≡ true → (not (is_expiry call) && true) ≡ true
        no_expiry (Invoke g qualified trace body) a = refl
        no_expiry call a = absurd (true≢false (sym a))

    go : (c : Bool) → concerns h e entry ≡ c → (bound_of (phase config h e) ≡ Some p → pending h p ≡ true) → pending (entry ∷ h) p ≡ true
    go false w ih =
        let b : bound_of (phase config h e) ≡ Some p = ap (λ (x : Lifecycle). bound_of x.phase) (sym (life_elsewhere config h entry e w)) ∙ q in
        older_waits b (ih b) (λ n. absurd (true≢false (sym n ∙ (or_parts (is_number entry.place e) (names h e entry.call) w).1)))
    go true w ih =
        let split : (closes s entry.call ≡ None) × (bound_of (kept entry.moment (limit_of config e entry.moment) (length h) s entry.call) ≡ Some p) =
        from_closing entry.moment (closes s entry.call) (kept entry.moment (limit_of config e entry.moment) (length h) s entry.call) p
        (from_after _ _ _ _ entry.moment (limit_of config e entry.moment) cell p (sym (ap bound_of (phase_step config h entry e w (fresh config h (length h) l.0 (omega arith)) (legal_silent config h entry l.1))) ∙ q)) in
        elim (from_kept entry.moment (limit_of config e entry.moment) (length h) s entry.call p split.1) [
          | inl new ↦ newly new.0 new.1 w
          | inr stays ↦ older_waits stays.0 (ih stays.0) (λ _. to_none (length h) s entry.call p split.0 stays)
        ]

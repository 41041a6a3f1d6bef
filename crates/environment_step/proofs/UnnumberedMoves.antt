-- The moves before their events have numbers are the answers to the environment's tickets.
use Rattle.std.proofs.Common.{◌≡◌, ℕ, suc, ◌<◌, ◌≤◌, Bool, true, false, List, [], ◌∷◌, length, Option, Some, None, sym}
use Rattle.std.proofs.Common.{refl, ap, ◌∙◌, subst, arith, is_some, not, ◌&&◌, true≢false, if◌then◌else◌, map, ◌==◌}
use Rattle.std.specs.List.{cons_option}
use Rattle.call_types.specs.declared.answer.Answer.{Answer}
use Rattle.call_types.specs.declared.call.Entry.{Entry}
use Rattle.arn_ids.specs.declared.config.Config.{Config}
use Rattle.call_model.specs.History.{answer_in, answer_of, call_of, pending, is_expiry, or_else, place_of}
use Rattle.call_types.specs.Calls.{env_of}
use Rattle.call_model.specs.Generation.{Extension, Actor, TheRuntime, parked, if_pending, last_next, extensions}
use Rattle.call_model.specs.Generation.{members, as_registered, Generation, Member, TheExtension, member}
use Rattle.call_model.specs.Stand.{at_hand, Stand, Role, NoRole, RuntimePoll, ExtensionPoll, is_number, role}
use Rattle.call_model.specs.Polls.{begun, delivered}
use Rattle.call_model.specs.Life.{life, phase, stand, concerns, registrations, seen}
use Rattle.call_model.specs.Limits.{place_for}
use Rattle.call_model.specs.Answers.{first_answer, first_entry, second_answer, second_at, home}
use Rattle.call_model.specs.Next.{IsLegal, Follows, IsTimely}
use Rattle.environment_step.specs.After.{turned, first_stand, fixed_of, step_at, count_at, expires_now, give, give_each}
use Rattle.environment_step.specs.After.{served_moves, turned_moves, first_moves}
use Rattle.call_model.proofs.Scans.{IsBelow, generation_below, last_below}
use Rattle.call_model.proofs.AtHand.{held}
use Rattle.call_model.proofs.BoundWaits.{IsPart, generation_part}
use Rattle.environment_step.proofs.Frame.{AreHere, generation_here, last_here, poll_home}
use Rattle.environment_step.proofs.Extensions.{IsUnder, counts_fall}
use Rattle.environment_step.proofs.FirstValues.{first_valued, entry_is_first, first_is_first, first_registered}
use Rattle.environment_step.proofs.FirstStage.{first_silent, parked_last, runtime_stage, members_stage}
use Rattle.environment_step.proofs.PhaseAfter.{phase_stage, phase_first}
use Rattle.environment_step.proofs.HeldTickets.{IsOrderly, orderly, holder, none_holds, fresh_all, given_role}
use Rattle.environment_step.proofs.FirstMoves.{IsMoved, is_here, first_moved}
use Rattle.environment_step.proofs.SecondMoves.{generation_stays, none_all, turned_served, first_whole, poll_role, IsServed, served_by, role_poll}
use Rattle.environment_step.proofs.SecondStage.{concerns_first, with_first}
use Rattle.call_model.proofs.Basics.{some-none, eqb-self, number_some}
use Rattle.call_model.proofs.Roles.{other_number}
use Rattle.environment_step.proofs.Puts.{IsFresh, give_answer}

-- the history with the entry's first answers, as the entry's
abbrev pub early_history : Config → List Entry → Entry → List Entry
early_history config h entry = first_entry config h entry.moment entry.call ∷ h

-- the turned phase is that of the history
pub early_phase_is : (config : Config) (h : List Entry) (entry : Entry) (e : ℕ) → IsLegal config h → Follows config h entry → concerns h e entry ≡ true
    → phase config (early_history config h entry) e ≡ (turned (fixed_of config e) entry.moment (expires_now (stand config h e) entry.call) (phase config h e) (first_stand (fixed_of config e) (step_at h entry (count_at config h entry e)) (stand config h e) entry.call)).phase
early_phase_is config h entry e l w c =
    phase_stage config h entry (first_entry config h entry.moment entry.call).answers
    (place_for config h entry.call) e l w c (concerns_first config h entry e w c)
    (first_is_first config h entry.moment entry.call) (first_silent config h entry.moment entry.call)

-- what the history holds where a Busy begins, with the first answers alone
pub record IsEarly (config : Config) (h : List Entry) (entry : Entry) (e : ℕ) : Type 0 where
  pub generation : (life config (early_history config h entry) e).generation ≡ with_first config h entry e
  pub part : IsPart (early_history config h entry) (with_first config h entry e)
  pub here : AreHere e (with_first config h entry e)
  pub order : IsOrderly (parked (early_history config h entry) (with_first config h entry e) TheRuntime)
      (members (early_history config h entry) (with_first config h entry e))
      (at_hand (phase config (early_history config h entry) e))

pub is_early : (config : Config) (h : List Entry) (entry : Entry) (e : ℕ) (x : ℕ × ℕ) → IsLegal config h
    → Follows config h entry → concerns h e entry ≡ true
    → begun (phase config h e) (phase config (early_history config h entry) e) ≡ Some x → IsEarly config h entry e
is_early config h entry e x l w c q = record {
  generation = stays;
  part = part;
  here = subst (AreHere e) old (generation_here IsTimely config (entry ∷ h) e (l, w));
  order =
      orderly (early_history config h entry) (with_first config h entry e) _
      (at_hand (phase config (early_history config h entry) e)) part under
      (λ t k. (held config (entry ∷ h) e t (l, w) (ap at_hand (sym same) ∙ k)).invoke);
}
  where
    same : phase config (early_history config h entry) e ≡ phase config (entry ∷ h) e
    same = phase_first config h entry e l w c

    stays : (life config (early_history config h entry) e).generation ≡ with_first config h entry e
    stays = generation_stays config h (first_entry config h entry.moment entry.call) e x (concerns_first config h entry e w c) q

    old : (life config (entry ∷ h) e).generation ≡ (length h, entry) ∷ (life config h e).generation
    old = generation_stays config h entry e x c (ap (begun (phase config h e)) (sym same) ∙ q)

    part : IsPart (early_history config h entry) (with_first config h entry e)
    part = subst (IsPart (early_history config h entry)) stays (generation_part config (early_history config h entry) e)

    registered : as_registered entry.call (answer_in entry.answers (length h)) ≡ as_registered entry.call (answer_in (first_entry config h entry.moment entry.call).answers (length h))
    registered =
        first_registered (length h) (first_answer config h entry.moment entry.call) entry (length h) entry.call (entry_is_first config h entry w) (omega arith)
        ∙ sym
        (first_registered (length h) (first_answer config h entry.moment entry.call) (first_entry config h entry.moment entry.call) (length h) entry.call (first_is_first config h entry.moment entry.call) (omega arith))

    under : IsUnder (suc (registrations (entry ∷ h) e)) (extensions (with_first config h entry e))
    under =
        subst (IsUnder (suc (registrations (entry ∷ h) e)))
        (ap extensions old ∙ ap (λ (o : Option Extension). cons_option o (extensions (life config h e).generation)) registered)
        (counts_fall config (entry ∷ h) e (l, w))

-- a parked Next has no first answer
pub parked_free : (config : Config) (h : List Entry) (entry : Entry) (e : ℕ) (moves : List (ℕ × Answer)) (actor : Actor) (t : ℕ)
    → IsEarly config h entry e → IsMoved config h entry e moves (first_answer config h entry.moment entry.call)
    → parked (early_history config h entry) (with_first config h entry e) actor ≡ Some t → answer_in moves t ≡ None
parked_free config h entry e moves actor t k m q = m.value t low ∙ none (is_here (entry ∷ h) e t)
  where
    low : t ≤ length h
    low =
        let lt : t < suc (length h) = last_below (suc (length h)) (with_first config h entry e) actor (subst (IsBelow (suc (length h))) (k.generation) (generation_below config (early_history config h entry) e)) t (parked_last (early_history config h entry) (with_first config h entry e) actor t q) in omega (arith, lt)

    waits : pending (early_history config h entry) t ≡ true
    waits = go (last_next (with_first config h entry e) actor) q
      where
        go : (o : Option ℕ) → if_pending (early_history config h entry) o ≡ Some t → pending (early_history config h entry) t ≡ true
        go None r = absurd (some-none (sym r))
        go (Some u) r = both (pending (early_history config h entry) u) refl r
          where
            both : (b : Bool) → pending (early_history config h entry) u ≡ b → (if b then Some u else None) ≡ Some t
                → pending (early_history config h entry) t ≡ true
            both true z r = let same : u ≡ t = cc in subst (λ n. pending (early_history config h entry) n ≡ true) same z
            both false z r = absurd (some-none (sym r))

    unanswered : (a b : Option Answer) (x : Bool) → (x && not (is_some (or_else a b))) ≡ true → a ≡ None
    unanswered None b x r = refl
    unanswered (Some a) b true r = absurd (true≢false (sym r))
    unanswered (Some a) b false r = absurd (true≢false (sym r))

    silent : first_answer config h entry.moment entry.call t ≡ None
    silent =
        sym (first_valued config h entry.moment entry.call t low)
        ∙ unanswered (answer_in (first_entry config h entry.moment entry.call).answers t) (answer_of h t) (not (is_expiry (call_of (early_history config h entry) t))) waits

    none : (b : Bool) → (if b then first_answer config h entry.moment entry.call t else None) ≡ None
    none true = silent
    none false = refl

held_free : (h : List Entry) (g : Generation) (moves : List (ℕ × Answer))
    → ((actor : Actor) (t : ℕ) → parked h g actor ≡ Some t → answer_in moves t ≡ None) → (xs : List Extension) (t : ℕ)
    → (holder (map (member h g) xs) t ≡ None → ⊥) → answer_in moves t ≡ None
held_free h g moves f [] t k = absurd (k refl)
held_free h g moves f (x ∷ xs) t k = go (is_number (parked h g (TheExtension x.count)) t) refl (held_free h g moves f xs t) k
  where
    go : (b : Bool) → is_number (parked h g (TheExtension x.count)) t ≡ b
        → ((holder (map (member h g) xs) t ≡ None → ⊥) → answer_in moves t ≡ None)
        → ((if b then Some (member h g x) else holder (map (member h g) xs) t) ≡ None → ⊥) → answer_in moves t ≡ None
    go true q ih k = f (TheExtension x.count) t (number_some (parked h g (TheExtension x.count)) t q)
    go false q ih k = ih k

free_members : (h : List Entry) (g : Generation) (moves : List (ℕ × Answer))
    → ((actor : Actor) (t : ℕ) → parked h g actor ≡ Some t → answer_in moves t ≡ None) → (t : ℕ)
    → (holder (members h g) t ≡ None → ⊥) → answer_in moves t ≡ None
unfolding members
free_members h g moves f t k = held_free h g moves f (extensions g) t k

no_poll : (h : List Entry) (g : Generation) (t : ℕ) → ((actor : Actor) → parked h g actor ≡ Some t → ⊥)
    → poll_role (parked h g TheRuntime) (members h g) t ≡ NoRole
unfolding members
no_poll h g t f = rw (other_number (parked h g TheRuntime) t (f TheRuntime), none_holds h g t (extensions g) (λ x i. f (TheExtension x.count))) refl

home_early : (config : Config) (h : List Entry) (entry : Entry) (t : ℕ) → Follows config h entry → home (entry ∷ h) t ≡ home (early_history config h entry) t
home_early config h entry t w =
    ap (λ (o : Option ℕ). or_else (if t == length h then o else place_of h t) (env_of (if t == length h then entry.call else call_of h t))) (w.place)

second_here : (config : Config) (h : List Entry) (entry : Entry) (e t : ℕ) → Follows config h entry → is_here (entry ∷ h) e t ≡ true
    → second_answer config h (first_entry config h entry.moment entry.call) t ≡ delivered (begun (phase config h e) (phase config (early_history config h entry) e)) (role (stand config (early_history config h entry) e) t)
unfolding second_answer
second_here config h entry e t w q =
    ap (second_at config h (first_entry config h entry.moment entry.call) t) (sym (home_early config h entry t w) ∙ number_some (home (entry ∷ h) t) e q)

role_served : (config : Config) (h : List Entry) (entry : Entry) (e t : ℕ) (x : ℕ × ℕ) → IsEarly config h entry e
    → delivered (Some x) (role (stand config (early_history config h entry) e) t) ≡ delivered (Some x) (poll_role (parked (early_history config h entry) (with_first config h entry e) TheRuntime) (members (early_history config h entry) (with_first config h entry e)) t)
unfolding seen
role_served config h entry e t x k =
    role_poll (delivered (Some x)) refl refl (stand config (early_history config h entry) e)
    (subst (λ (g : Generation). IsOrderly (parked (early_history config h entry) g TheRuntime) (members (early_history config h entry) g) (at_hand (phase config (early_history config h entry) e))) (sym (k.generation)) (k.order)) t
    ∙ ap
    (λ (g : Generation). delivered (Some x) (poll_role (parked (early_history config h entry) g TheRuntime) (members (early_history config h entry) g) t))
    (k.generation)

pub turned_moved : (config : Config) (h : List Entry) (entry : Entry) (e : ℕ) → IsLegal config h → Follows config h entry → concerns h e entry ≡ true
    → IsMoved config h entry e (turned_moves (fixed_of config e) entry.moment (expires_now (stand config h e) entry.call) (phase config h e) (first_stand (fixed_of config e) (step_at h entry (count_at config h entry e)) (stand config h e) entry.call) (first_moves (step_at h entry (count_at config h entry e)) (stand config h e) entry.call))
    (λ t. or_else (first_answer config h entry.moment entry.call t) (second_answer config h (first_entry config h entry.moment entry.call) t))
unfolding first_stand
turned_moved config h entry e l w c =
    subst moved
    (sym (turned_served (fixed_of config e) entry.moment (expires_now (stand config h e) entry.call) (phase config h e) (phase config hF e) s1 M (early_phase_is config h entry e l w c)))
    (go (begun (phase config h e) (phase config hF e)) refl)
  where
    hF : List Entry
    hF = early_history config h entry

    gF : Generation
    gF = with_first config h entry e

    s1 : Stand
    s1 = first_stand (fixed_of config e) (step_at h entry (count_at config h entry e)) (stand config h e) entry.call

    M : List (ℕ × Answer)
    M = first_moves (step_at h entry (count_at config h entry e)) (stand config h e) entry.call

    A : ℕ → Option Answer
    A = first_answer config h entry.moment entry.call

    S : ℕ → Option Answer
    S = second_answer config h (first_entry config h entry.moment entry.call)

    moved : List (ℕ × Answer) → Type 0
    moved now = IsMoved config h entry e now (λ t. or_else (A t) (S t))

    m : IsMoved config h entry e M A
    m = first_moved config h entry e (count_at config h entry e) l w c

    or_none : (a b : Option Answer) → b ≡ None → a ≡ or_else a b
    or_none None b q = sym q
    or_none (Some d) b q = refl

    go : (o : Option (ℕ × ℕ)) → begun (phase config h e) (phase config hF e) ≡ o → moved (served_moves o s1 M)
    go None q =
        subst moved (sym (none_all s1 M)) (record { rising = m.rising; value = λ t le. m.value t le ∙ at t (is_here (entry ∷ h) e t) refl; past = m.past })
      where
        at : (t : ℕ) (b : Bool) → is_here (entry ∷ h) e t ≡ b → (if b then A t else None) ≡ (if b then or_else (A t) (S t) else None)
        at t true r = or_none (A t) (S t) (second_here config h entry e t w r ∙ ap (λ (o : Option (ℕ × ℕ)). delivered o (role (stand config hF e) t)) q)
        at t false r = refl
    go (Some x) q =
        subst moved
        (λ i. give_each (λ y. delivered (Some x) (ExtensionPoll y)) (members_are i) (give (runtime_is i) (delivered (Some x) RuntimePoll) M))
        (made (served_by D refl r0 xs0 (at_hand (phase config hF e)) M (k.order) (m.rising) free (free_members hF gF M frees) (fresh_all xs0 (give r0 (D RuntimePoll) M) fresh_first)))
      where
        k : IsEarly config h entry e
        k = is_early config h entry e x l w c q

        D : Role → Option Answer
        D r = delivered (Some x) r

        r0 : Option ℕ
        r0 = parked hF gF TheRuntime

        xs0 : List Member
        xs0 = members hF gF

        frees : (actor : Actor) (t : ℕ) → parked hF gF actor ≡ Some t → answer_in M t ≡ None
        frees actor t p = parked_free config h entry e M actor t k m p

        free : IsFresh r0 M
        free t p = frees TheRuntime t p

        fresh_first : (t : ℕ) → (holder xs0 t ≡ None → ⊥) → answer_in (give r0 (D RuntimePoll) M) t ≡ None
        fresh_first t p =
            give_answer r0 (D RuntimePoll) M t (m.rising) free
            ∙ given_role (λ u. D) RuntimePoll r0 (D RuntimePoll) t (answer_in M t) (λ u z. refl) (λ z. free t (number_some r0 t z))
            ∙ rw (other_number r0 t (λ z. p (k.order.one_runtime t z))) (free_members hF gF M frees t p)

        runtime_is : r0 ≡ s1.runtime
        runtime_is =
            ap (λ (y : Entry). parked (y ∷ h) gF TheRuntime) (sym (first_whole config h entry.moment entry.call))
            ∙ runtime_stage config h entry (first_entry config h entry.moment entry.call) e (count_at config h entry e) l w c refl (first_is_first config h entry.moment entry.call)

        members_are : xs0 ≡ s1.members
        members_are =
            ap (λ (y : Entry). members (y ∷ h) gF) (sym (first_whole config h entry.moment entry.call))
            ∙ members_stage config h entry (first_entry config h entry.moment entry.call) e (count_at config h entry e) l w c refl (first_is_first config h entry.moment entry.call) (first_silent config h entry.moment entry.call)

        low : (actor : Actor) (t : ℕ) → parked hF gF actor ≡ Some t → t < suc (length h)
        low actor t p =
            last_below (suc (length h)) gF actor
            (subst (IsBelow (suc (length h))) (k.generation) (generation_below config hF e)) t
            (parked_last hF gF actor t p)

        comes : (actor : Actor) (t : ℕ) → parked hF gF actor ≡ Some t → is_here (entry ∷ h) e t ≡ true
        comes actor t p =
            ap (λ (o : Option ℕ). is_number o e) (poll_home IsTimely config (entry ∷ h) t e (l, w) (last_here e hF gF actor t (k.here) (k.part) (parked_last hF gF actor t p)))
            ∙ eqb-self e

        made : IsServed D r0 xs0 M (give_each (λ y. D (ExtensionPoll y)) xs0 (give r0 (D RuntimePoll) M))
            → moved (give_each (λ y. D (ExtensionPoll y)) xs0 (give r0 (D RuntimePoll) M))
        made v = record {
          rising = v.rising;
          value = λ t le. v.value t ∙ ap (λ (o : Option Answer). or_else o (D (poll_role r0 xs0 t))) (m.value t le) ∙ at t (is_here (entry ∷ h) e t) refl;
          past =
              λ t lt. v.value t ∙ ap (λ (o : Option Answer). or_else o (D (poll_role r0 xs0 t))) (m.past t lt)
              ∙ ap D (no_poll hF gF t (λ actor p. let less : length h < t = lt in let small : t < suc (length h) = low actor t p in omega (arith, less, small)));
        }
          where
            at : (t : ℕ) (b : Bool) → is_here (entry ∷ h) e t ≡ b
                → or_else (if b then A t else None) (D (poll_role r0 xs0 t)) ≡ (if b then or_else (A t) (S t) else None)
            at t true r =
                ap (or_else (A t))
                (sym (second_here config h entry e t w r ∙ ap (λ (o : Option (ℕ × ℕ)). delivered o (role (stand config hF e) t)) q ∙ role_served config h entry e t x k))
            at t false r = ap D (no_poll hF gF t (λ actor p. true≢false (sym (comes actor t p) ∙ r)))

-- The phase after an entry is the one after its first answers.
use Rattle.std.proofs.Common.{◌≡◌, ℕ, suc, ◌+◌, ◌<◌, ◌≤◌, Bool, true, false, cond, eqb, List, [], ◌∷◌, length, Option}
use Rattle.std.proofs.Common.{Some, None, sym, refl, ap, ◌∙◌, subst, inl, inr, arith, is_some, not, ◌&&◌, ◌||◌, ◌==◌}
use Rattle.std.proofs.Common.{map, filter, true≢false, if◌then◌else◌}
use Rattle.std.proofs.lemmas.Bool.{cases_lt}
use Rattle.std.proofs.lemmas.Bool.Decides.{eqb_tells}
use Rattle.std.specs.List.{cons_option}
use Rattle.call_types.specs.declared.answer.Answer.{Answer}
use Rattle.call_types.specs.declared.answer.Answer.TheVariants.{Delivered, Told, Ending}
use Rattle.call_types.specs.declared.answer.Phase.{Phase}
use Rattle.call_types.specs.declared.call.Call.{Call}
use Rattle.call_types.specs.declared.call.Call.TheVariants.{Register}
use Rattle.call_types.specs.declared.call.Entry.{Entry}
use Rattle.arn_ids.specs.declared.config.Config.{Config}
use Rattle.arn_ids.specs.Environments.{expected_at}
use Rattle.call_model.specs.History.{answer_in, answer_of, pending, stopped, is_stop, is_expiry, call_of, or_else}
use Rattle.call_model.specs.Generation.{Generation, Actor, TheRuntime, TheExtension, Member, parked, if_pending}
use Rattle.call_model.specs.Generation.{last_next, extensions, member, members, told, asked_again, exited}
use Rattle.call_model.specs.Generation.{answer_to_next, is_ending, reports_exit, is_accepted, as_registered, ready}
use Rattle.call_model.specs.Generation.{asks}
use Rattle.call_model.specs.Stand.{Role, RuntimePoll, ExtensionPoll, at_hand, bound_of, role}
use Rattle.call_model.specs.Table.{reborn, settled, after_cell}
use Rattle.call_model.specs.Polls.{delivered, begun}
use Rattle.call_model.specs.Life.{life, phase, stand, lived, after, seen, concerns, ends, first_part, limit_of, is_second, request_at, ends_here}
use Rattle.call_model.specs.Answers.{answers, first_answer, first_answers, first_entry, second_answer, second_at, home}
use Rattle.call_model.specs.Next.{Follows}
use Rattle.call_model.proofs.Pairs.{in_each, past_each, times_in, times_each}
use Rattle.call_model.proofs.Once.{answers_past, answers_once}
use Rattle.call_model.proofs.PhaseStep.{filter_none}
use Rattle.call_model.proofs.Basics.{count_cons}
use Rattle.call_model.proofs.AnswerValues.{valued, plain}
use Rattle.call_model.proofs.Visits.{visit, if_concerned, if_ended}

-- an answer but for the second ones and for the number of its event
abbrev pub strip : Option Answer → Option Answer
strip None = None
strip (Some (Delivered p d)) = None
strip (Some (Told p d event)) = None
strip (Some (Ending reason until event)) = Some (Ending reason until 0)
strip (Some a) = Some a

strip_plain : (a : Option Answer) → strip (plain a) ≡ strip a
strip_plain None = refl
strip_plain (Some (Delivered p d)) = refl
strip_plain (Some (Told p d event)) = refl
strip_plain (Some (Ending reason until event)) = refl
strip_plain (Some a) = refl

strip_delivered : (b : Option (ℕ × ℕ)) (r : Role) → strip (delivered b r) ≡ None
strip_delivered (Some b) RuntimePoll = refl
strip_delivered (Some b) (ExtensionPoll x) = go (x.extension.invoke)
  where
    go : (c : Bool) → strip (if c then Some (Told b.0 b.1 0) else None) ≡ None
    go true = refl
    go false = refl
strip_delivered (Some b) r = refl
strip_delivered None r = refl

pub strip_second : (config : Config) (h : List Entry) (entry : Entry) (t : ℕ) → strip (second_answer config h entry t) ≡ None
unfolding second_answer
strip_second config h entry t = go (home (entry ∷ h) t)
  where
    go : (o : Option ℕ) → strip (second_at config h entry t o) ≡ None
    go None = refl
    go (Some e) = strip_delivered (begun (phase config h e) (phase config (entry ∷ h) e)) (role (stand config (entry ∷ h) e) t)

strip_or : (a b : Option Answer) → strip b ≡ None → strip (or_else a b) ≡ strip a
strip_or None b q = q
strip_or (Some a) b q = refl

pub first_in : (config : Config) (h : List Entry) (now : ℕ) (call : Call) (t : ℕ) → t ≤ length h
    → answer_in (first_answers config h now call) t ≡ first_answer config h now call t
unfolding first_answers
first_in config h now call t le = in_each 0 (suc (length h)) t (first_answer config h now call) (omega arith) (omega (arith, le))

pub first_past : (config : Config) (h : List Entry) (now : ℕ) (call : Call) (t : ℕ) → length h < t → answer_in (first_answers config h now call) t ≡ None
unfolding first_answers
first_past config h now call t lt = past_each 0 (suc (length h)) t (first_answer config h now call) (omega (arith, lt))

pub first_once : (config : Config) (h : List Entry) (now : ℕ) (call : Call) (t : ℕ) → times_in (first_answers config h now call) t ≤ 1
unfolding first_answers
first_once config h now call t = times_each 0 (suc (length h)) t (first_answer config h now call)

-- the answers of a call are its first ones, but for the second ones and the numbers of events
pub first_alike : (config : Config) (h : List Entry) (now : ℕ) (call : Call) (t : ℕ)
    → strip (answer_in (first_answers config h now call) t) ≡ strip (answer_in (answers config h now call) t)
first_alike config h now call t =
    elim (cases_lt (length h) t) [
      | inl lt ↦ ap strip (first_past config h now call t lt ∙ sym (answers_past config h now call t lt))
      | inr ge ↦ ap strip (first_in config h now call t (omega (arith, ge)))
          ∙ sym
          (sym (strip_plain (answer_in (answers config h now call) t)) ∙ ap strip (valued config h now call t (omega (arith, ge))) ∙ strip_plain (or_else (first_answer config h now call t) (second_answer config h (first_entry config h now call) t))
          ∙ strip_or (first_answer config h now call t) (second_answer config h (first_entry config h now call) t)
          (strip_second config h (first_entry config h now call) t))
    ]

none_times : (pairs : List (ℕ × Answer)) (t : ℕ) → times_in pairs t ≡ 0 → answer_in pairs t ≡ None
none_times [] t q = refl
none_times (a ∷ rest) t q = elim (eqb_tells a.0 t) [
  | inl p ↦ absurd (some_here (times_in rest t) (rw p.0 at (sym (count_cons (λ (b : ℕ × Answer). b.0 == t) a rest) ∙ q)))
  | inr p ↦ rw p.0 (none_times rest t (drop (times_in rest t) (rw p.0 at (sym (count_cons (λ (b : ℕ × Answer). b.0 == t) a rest) ∙ q))))
]
  where
    some_here : (n : ℕ) → 1 + n ≡ 0 → ⊥
    some_here n e = omega (arith, e)

    drop : (n : ℕ) → 0 + n ≡ 0 → n ≡ 0
    drop n e = omega (arith, e)

strip_some : (a : Answer) → is_some (strip (Some a)) ≡ not (is_second a)
strip_some (Delivered p d) = refl
strip_some (Told p d event) = refl
strip_some (Ending reason until event) = refl
strip_some a = refl

-- what is left of the first answers of an entry
pub filter_strip : (pairs : List (ℕ × Answer)) (t : ℕ) → times_in pairs t ≤ 1
    → is_some (answer_in (filter (λ a. not (is_second a.1)) pairs) t) ≡ is_some (strip (answer_in pairs t))
filter_strip [] t q = refl
filter_strip (a ∷ rest) t q = elim (eqb_tells a.0 t) [
  | inl p ↦ rw p.0 (here p.0 (is_second a.1) refl (none_times rest t (last (times_in rest t) (rw p.0 at times))))
  | inr p ↦ rw p.0 (other p.0 (not (is_second a.1)) (filter_strip rest t (drop (times_in rest t) (rw p.0 at times))))
]
  where
    times : cond (a.0 == t) 1 0 + times_in rest t ≤ 1
    times = subst (λ (n : ℕ). n ≤ 1) (count_cons (λ (b : ℕ × Answer). b.0 == t) a rest) q

    last : (n : ℕ) → 1 + n ≤ 1 → n ≡ 0
    last n e = omega (arith, e)

    drop : (n : ℕ) → 0 + n ≤ 1 → n ≤ 1
    drop n e = omega (arith, e)

    left : List (ℕ × Answer)
    left = filter (λ b. not (is_second b.1)) rest

    here : eqb a.0 t ≡ true → (b : Bool) → is_second a.1 ≡ b → answer_in rest t ≡ None
        → is_some (answer_in (if not b then a ∷ left else left) t) ≡ is_some (strip (Some a.1))
    here p true s n = ap is_some (filter_none (λ b. not (is_second b.1)) rest t n) ∙ sym (strip_some a.1 ∙ ap not s)
    here p false s n = rw p (sym (strip_some a.1 ∙ ap not s))

    other : eqb a.0 t ≡ false → (b : Bool) → is_some (answer_in left t) ≡ is_some (strip (answer_in rest t))
        → is_some (answer_in (if b then a ∷ left else left) t) ≡ is_some (strip (answer_in rest t))
    other p true ih = rw p ih
    other p false ih = ih

-- two lists of answers that are alike
abbrev IsAlike : List (ℕ × Answer) → List (ℕ × Answer) → Type 0
IsAlike xs ys = (t : ℕ) → strip (answer_in xs t) ≡ strip (answer_in ys t)

abbrev IsOnce : List (ℕ × Answer) → Type 0
IsOnce xs = (t : ℕ) → times_in xs t ≤ 1

ending_strip : (a : Option Answer) → is_ending (strip a) ≡ is_ending a
ending_strip None = refl
ending_strip (Some (Delivered p d)) = refl
ending_strip (Some (Told p d event)) = refl
ending_strip (Some (Ending reason until event)) = refl
ending_strip (Some a) = refl

accepted_strip : (a : Option Answer) → is_accepted (strip a) ≡ is_accepted a
accepted_strip None = refl
accepted_strip (Some (Delivered p d)) = refl
accepted_strip (Some (Told p d event)) = refl
accepted_strip (Some (Ending reason until event)) = refl
accepted_strip (Some a) = refl

registered_strip : (call : Call) (a : Option Answer) → as_registered call (strip a) ≡ as_registered call a
registered_strip (Register e name invoke shutdown account) None = refl
registered_strip (Register e name invoke shutdown account) (Some (Delivered p d)) = refl
registered_strip (Register e name invoke shutdown account) (Some (Told p d event)) = refl
registered_strip (Register e name invoke shutdown account) (Some (Ending reason until event)) = refl
registered_strip (Register e name invoke shutdown account) (Some a) = refl
registered_strip call a = refl

abbrev made : ℕ → Call → Option ℕ → List (ℕ × Answer) → Entry
made now call place xs = record { moment = now; call = call; answers = xs; place = place }

pending_alike : (h : List Entry) (now : ℕ) (call : Call) (place : Option ℕ) (xs ys : List (ℕ × Answer)) → IsAlike xs ys
    → IsOnce xs → IsOnce ys → (t : ℕ)
    → pending (first_part (made now call place xs) ∷ h) t ≡ pending (first_part (made now call place ys) ∷ h) t
pending_alike h now call place xs ys same a b t =
    go (is_expiry (if t == length h then call else call_of h t)) _ _ (answer_of h t)
    (filter_strip xs t (a t) ∙ ap is_some (same t) ∙ sym (filter_strip ys t (b t)))
  where
    go : (x : Bool) (p q o : Option Answer) → is_some p ≡ is_some q → (not x && not (is_some (or_else p o))) ≡ (not x && not (is_some (or_else q o)))
    go x None None o e = refl
    go x (Some p) (Some q) o e = refl
    go x None (Some q) o e = absurd (true≢false (sym e))
    go x (Some p) None o e = absurd (true≢false e)

parked_alike : (h : List Entry) (now : ℕ) (call : Call) (place : Option ℕ) (xs ys : List (ℕ × Answer)) → IsAlike xs ys
    → IsOnce xs → IsOnce ys → (g : Generation) (actor : Actor)
    → parked (first_part (made now call place xs) ∷ h) ((length h, made now call place xs) ∷ g) actor ≡ parked (first_part (made now call place ys) ∷ h) ((length h, made now call place ys) ∷ g) actor
parked_alike h now call place xs ys same a b g actor = go (if asks actor call then Some (length h) else last_next g actor)
  where
    go : (o : Option ℕ) → if_pending (first_part (made now call place xs) ∷ h) o ≡ if_pending (first_part (made now call place ys) ∷ h) o
    go None = refl
    go (Some t) = ap (λ (b : Bool). if b then Some t else None) (pending_alike h now call place xs ys same a b t)

members_alike : (h : List Entry) (now : ℕ) (call : Call) (place : Option ℕ) (xs ys : List (ℕ × Answer)) → IsAlike xs ys
    → IsOnce xs → IsOnce ys → (g : Generation)
    → members (first_part (made now call place xs) ∷ h) ((length h, made now call place xs) ∷ g) ≡ members (first_part (made now call place ys) ∷ h) ((length h, made now call place ys) ∷ g)
unfolding members
members_alike h now call place xs ys same a b g = λ i. map (one i) (cons_option (register_same i) (extensions g))
  where
    register_same : as_registered call (answer_in xs (length h)) ≡ as_registered call (answer_in ys (length h))
    register_same =
        sym (registered_strip call (answer_in xs (length h))) ∙ ap (as_registered call) (same (length h)) ∙ registered_strip call (answer_in ys (length h))

    told_same : (o : Option ℕ) → is_ending (answer_to_next (made now call place xs) o) ≡ is_ending (answer_to_next (made now call place ys) o)
    told_same None = refl
    told_same (Some t) = sym (ending_strip (answer_in xs t)) ∙ ap is_ending (same t) ∙ ending_strip (answer_in ys t)

    accept_same : is_accepted (answer_in xs (length h)) ≡ is_accepted (answer_in ys (length h))
    accept_same = sym (accepted_strip (answer_in xs (length h))) ∙ ap is_accepted (same (length h)) ∙ accepted_strip (answer_in ys (length h))

    one : member (first_part (made now call place xs) ∷ h) ((length h, made now call place xs) ∷ g) ≡ member (first_part (made now call place ys) ∷ h) ((length h, made now call place ys) ∷ g)
    one = λ i x. record {
      extension = x;
      next = parked_alike h now call place xs ys same a b g (TheExtension x.count) i;
      told = told g x.count || told_same (if asks (TheExtension x.count) call then Some (length h) else last_next g (TheExtension x.count)) i;
      again = asked_again g x.count || (told g x.count && asks (TheExtension x.count) call);
      exited = (reports_exit x.count call && accept_same i) || exited g x.count;
    }

-- The phase after an entry depends on its answers up to the second ones and the numbers of events.
phase_alike : (config : Config) (h : List Entry) (e now : ℕ) (call : Call) (place : Option ℕ) (xs ys : List (ℕ × Answer))
    → IsAlike xs ys → IsOnce xs → IsOnce ys
    → phase config (made now call place xs ∷ h) e ≡ phase config (made now call place ys ∷ h) e
unfolding life lived after
phase_alike config h e now call place xs ys same a b = go (concerns h e (made now call place xs))
  where
    g : Generation
    g = (life config h e).generation

    cell : Phase
    cell = after_cell now (limit_of config e now) (length h) (seen config h e (life config h e)) call

    waits : (zs : List (ℕ × Answer)) → Bool
    waits zs = is_some (request_at config (first_part (made now call place zs) ∷ h) e (at_hand cell))

    waits_alike : (o : Option ℕ)
        → is_some (request_at config (first_part (made now call place xs) ∷ h) e o) ≡ is_some (request_at config (first_part (made now call place ys) ∷ h) e o)
    waits_alike None = refl
    waits_alike (Some p) =
        two (pending (first_part (made now call place xs) ∷ h) p) (pending (first_part (made now call place ys) ∷ h) p)
        (pending_alike h now call place xs ys same a b p) _ _
      where
        two : (c d : Bool) → c ≡ d → (m n : ℕ) → is_some (if c then Some m else None) ≡ is_some (if d then Some n else None)
        two true true e m n = refl
        two false false e m n = refl
        two true false e m n = absurd (true≢false e)
        two false true e m n = absurd (true≢false (sym e))

    two_cases : (c : Bool) (zs : List (ℕ × Answer)) → (if_ended c (visit config h e (made now call place zs))).phase
        ≡ (if c then reborn (is_stop call || stopped h) now (bound_of cell) else settled (limit_of config e now) (ready (parked (first_part (made now call place zs) ∷ h) ((length h, made now call place zs) ∷ g) TheRuntime) (members (first_part (made now call place zs) ∷ h) ((length h, made now call place zs) ∷ g)) (expected_at config e)) (waits zs) cell)
    two_cases true zs = refl
    two_cases false zs = refl

    middle : {r q : Option ℕ} → r ≡ q → {us vs : List Member} → us ≡ vs → {c d : Bool} → c ≡ d
        → (if ends (life config h e).phase call cell us then reborn (is_stop call || stopped h) now (bound_of cell) else settled (limit_of config e now) (ready r us (expected_at config e)) c cell)
        ≡ (if ends (life config h e).phase call cell vs then reborn (is_stop call || stopped h) now (bound_of cell) else settled (limit_of config e now) (ready q vs (expected_at config e)) d cell)
    middle p s w =
        λ i. if ends (life config h e).phase call cell (s i) then reborn (is_stop call || stopped h) now (bound_of cell) else settled (limit_of config e now) (ready (p i) (s i) (expected_at config e)) (w i) cell

    go : (c : Bool) → (if_concerned c (visit config h e (made now call place xs))).phase ≡ (if_concerned c (visit config h e (made now call place ys))).phase
    go false = refl
    go true = two_cases (ends_here (visit config h e (made now call place xs))) xs
        ∙ middle (parked_alike h now call place xs ys same a b g TheRuntime) (members_alike h now call place xs ys same a b g) (waits_alike (at_hand cell))
        ∙ sym (two_cases (ends_here (visit config h e (made now call place ys))) ys)

-- The phase after an entry is the one after its first answers.
pub phase_first : (config : Config) (h : List Entry) (entry : Entry) (e : ℕ) → Follows config h entry
    → phase config (first_entry config h entry.moment entry.call ∷ h) e ≡ phase config (entry ∷ h) e
phase_first config h entry e w =
    ap (λ (o : Option ℕ). phase config (made entry.moment entry.call o (first_answers config h entry.moment entry.call) ∷ h) e) (sym (w.place))
    ∙ phase_alike config h e entry.moment entry.call entry.place (first_answers config h entry.moment entry.call) entry.answers
    (λ t. first_alike config h entry.moment entry.call t ∙ ap (λ (xs : List (ℕ × Answer)). strip (answer_in xs t)) (sym (w.answers)))
    (first_once config h entry.moment entry.call)
    (λ t. rw (w.answers) (answers_once config h entry.moment entry.call t))

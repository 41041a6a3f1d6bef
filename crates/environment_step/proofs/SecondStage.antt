-- The second answers to an environment's Nexts, and its stand after an entry that concerns it.
use Rattle.std.proofs.Common.{◌≡◌, ℕ, suc, ◌≤◌, Bool, true, false, List, [], ◌∷◌, length, Option, Some, None, sym, refl}
use Rattle.std.proofs.Common.{ap, ap₂, ◌∙◌, subst, arith, is_none, ◌&&◌, ◌||◌, ◌==◌, if◌then◌else◌, map}
use Rattle.std.specs.List.{cons_option}
use Rattle.call_types.specs.declared.answer.Answer.{Answer}
use Rattle.call_types.specs.declared.answer.Answer.TheVariants.{Told}
use Rattle.call_types.specs.declared.answer.Phase.{Phase}
use Rattle.call_types.specs.declared.call.Entry.{Entry}
use Rattle.arn_ids.specs.declared.config.Config.{Config}
use Rattle.call_model.specs.History.{pending, call_of, is_expiry, stopped, is_stop}
use Rattle.call_model.specs.Generation.{Generation, Extension, Actor, TheRuntime, TheExtension, Member, parked}
use Rattle.call_model.specs.Generation.{if_pending, last_next, extensions, member, members, awaited}
use Rattle.call_model.specs.Stand.{Role, RuntimePoll, ExtensionPoll, role, at_hand, is_closing, is_number, Stand}
use Rattle.call_model.specs.Polls.{begun, delivered}
use Rattle.call_model.specs.Life.{life, lived, after, phase, stand, seen, concerns, names, first_part, limit_of, registrations, events, request_at, ends_here}
use Rattle.call_model.specs.Limits.{place_for}
use Rattle.call_model.specs.Answers.{first_answer, second_answer, second_at, first_entry, home}
use Rattle.call_model.specs.Next.{IsLegal, Follows, IsTimely}
use Rattle.environment_step.specs.After.{fixed_of, step_at, count_at, first_stand, expires_now, closing_ends, cell_at}
use Rattle.environment_step.specs.After.{left, Step, stand_after, finished, turned, restarted, settled_stand}
use Rattle.environment_step.specs.After.{settled_phase, member_second, if_held, runtime_first, members_first}
use Rattle.environment_step.specs.After.{with_events}
use Rattle.call_model.proofs.Scans.{IsSilent, legal_silent, last_below, generation_below}
use Rattle.environment_step.proofs.Frame.{AreHere, poll_home, generation_here, last_here}
use Rattle.call_types.specs.Calls.{is_invoke}
use Rattle.call_model.proofs.AtHand.{held, from_after}
use Rattle.call_model.proofs.BoundWaits.{IsPart, generation_part}
use Rattle.environment_step.proofs.Extensions.{IsUnder, counts_fall}
use Rattle.environment_step.proofs.FirstValues.{IsFirst, entry_is_first, first_is_first, first_registered}
use Rattle.environment_step.proofs.MemberRoles.{IsIn, member_poll, runtime_poll, map_in}
use Rattle.environment_step.proofs.FirstStage.{asked_below, first_silent, members_stage, runtime_stage}
use Rattle.environment_step.proofs.PhaseAfter.{phase_first, phase_meets}
use Rattle.environment_step.proofs.PendingAfter.{pending_second, pending_first, request_final, registrations_final}
use Rattle.call_model.proofs.Basics.{map_map}
use Rattle.call_model.proofs.Visits.{visit, if_concerned, if_ended}

left_none : (a : Option Answer) → None ≡ left a None
left_none None = refl
left_none (Some a) = refl

left_some : (a : Option Answer) (t : ℕ) → (if is_none a then Some t else None) ≡ left a (Some t)
left_some None t = refl
left_some (Some a) t = refl

-- what is left of an actor's Next after the second answers
pub parked_second : (config : Config) (h : List Entry) (entry : Entry) (e : ℕ) (actor : Actor) (d : Option Answer) → IsLegal config h → Follows config h entry
    → ((t : ℕ) → last_next ((length h, entry) ∷ (life config h e).generation) actor ≡ Some t → parked (first_entry config h entry.moment entry.call ∷ h) ((length h, first_entry config h entry.moment entry.call) ∷ (life config h e).generation) actor ≡ Some t → second_answer config h (first_entry config h entry.moment entry.call) t ≡ d)
    → parked (entry ∷ h) ((length h, entry) ∷ (life config h e).generation) actor ≡ left d (parked (first_part entry ∷ h) ((length h, entry) ∷ (life config h e).generation) actor)
parked_second config h entry e actor d l w value = go (last_next G actor) refl
  where
    G : Generation
    G = (length h, entry) ∷ (life config h e).generation

    first : Entry
    first = first_entry config h entry.moment entry.call

    go : (o : Option ℕ) → last_next G actor ≡ o → if_pending (entry ∷ h) o ≡ left d (if_pending (first_part entry ∷ h) o)
    go None q = left_none d
    go (Some t) q = ap (λ (b : Bool). if b then Some t else None) (pending_second config h entry t w low) ∙ both (pending (first_part entry ∷ h) t) refl
      where
        low : t ≤ length h
        low =
            asked_below actor entry.call (length h) (last_next (life config h e).generation actor)
            (last_below (length h) (life config h e).generation actor (generation_below config h e)) t q

        both : (b : Bool) → pending (first_part entry ∷ h) t ≡ b
            → (if b && is_none (second_answer config h first t) then Some t else None) ≡ left d (if b then Some t else None)
        both false r = left_none d
        both true r =
            ap (λ (a : Option Answer). if is_none a then Some t else None) (value t q (ap (if_pending (first ∷ h)) q ∙ ap (λ (b : Bool). if b then Some t else None) (sym (pending_first config h entry t w low) ∙ r)))
            ∙ left_some d t

abbrev pub closes_now : Config → List Entry → Entry → ℕ → Bool
closes_now config h entry e =
    closing_ends (expires_now (stand config h e) entry.call)
    (first_stand (fixed_of config e) (step_at h entry (count_at config h entry e)) (stand config h e) entry.call)

abbrev pub generation_after : Bool → Generation → Generation
generation_after true g = []
generation_after false g = g

-- The generation after an entry.
pub generation_stage : (config : Config) (h : List Entry) (entry : Entry) (pairs : List (ℕ × Answer)) (place : Option ℕ) (e : ℕ)
    → IsLegal config h → Follows config h entry → concerns h e entry ≡ true
    → concerns h e (record { moment = entry.moment; call = entry.call; answers = pairs; place = place }) ≡ true
    → IsFirst (length h) (first_answer config h entry.moment entry.call) (record { moment = entry.moment; call = entry.call; answers = pairs; place = place })
    → IsSilent h (record { moment = entry.moment; call = entry.call; answers = pairs; place = place })
    → (life config (record { moment = entry.moment; call = entry.call; answers = pairs; place = place } ∷ h) e).generation ≡ generation_after (closes_now config h entry e) ((length h, record { moment = entry.moment; call = entry.call; answers = pairs; place = place }) ∷ (life config h e).generation)
unfolding life lived after first_stand seen
generation_stage config h entry pairs place e l w c d k quiet =
    ap (λ (b : Bool). (if_concerned b (visit config h e given)).generation) d
    ∙ two (ends_here (visit config h e given))
    ∙
    (λ i. generation_after (is_closing cell && ((length (awaited (members_stage config h entry given e count l w c refl k quiet i)) == 0) || (is_closing (phase config h e) && is_expiry entry.call))) G)
  where
    given : Entry
    given = record { moment = entry.moment; call = entry.call; answers = pairs; place = place }

    G : Generation
    G = (length h, given) ∷ (life config h e).generation

    count : ℕ
    count = count_at config h entry e

    cell : Phase
    cell = cell_at (fixed_of config e) (step_at h entry count) (stand config h e) entry.call

    two : (b : Bool) → (if_ended b (visit config h e given)).generation ≡ generation_after b G
    two true = refl
    two false = refl

pub same_extension : (b : Option (ℕ × ℕ)) (x y : Member) → x.extension ≡ y.extension → delivered b (ExtensionPoll x) ≡ delivered b (ExtensionPoll y)
same_extension None x y q = refl
same_extension (Some b) x y q = ap (λ (z : Extension). if z.invoke then Some (Told b.0 b.1 0) else None) q

-- the second answer to an actor's Next, by its role in the history with the first answers
pub second_value : (config : Config) (h : List Entry) (entry : Entry) (e : ℕ) (actor : Actor) (r : Role) (t : ℕ)
    → IsLegal config h → Follows config h entry → concerns h e entry ≡ true
    → (life config (entry ∷ h) e).generation ≡ (length h, entry) ∷ (life config h e).generation
    → last_next ((length h, entry) ∷ (life config h e).generation) actor ≡ Some t
    → role (stand config (first_entry config h entry.moment entry.call ∷ h) e) t ≡ r
    → second_answer config h (first_entry config h entry.moment entry.call) t ≡ delivered (begun (phase config h e) (phase config (entry ∷ h) e)) r
unfolding second_answer
second_value config h entry e actor r t l w c gen q at =
    ap (second_at config h first t) here ∙ ap₂ (λ (P : Phase) (x : Role). delivered (begun (phase config h e) P) x) (phase_first config h entry e l w c) at
  where
    first : Entry
    first = first_entry config h entry.moment entry.call

    G : Generation
    G = (length h, entry) ∷ (life config h e).generation

    here : home (first ∷ h) t ≡ Some e
    here = ap (λ (o : Option ℕ). home (record { moment = entry.moment; call = entry.call; answers = []; place = o } ∷ h) t) (sym (w.place))
        ∙ poll_home IsTimely config (entry ∷ h) t e (l, w)
        (last_here e (entry ∷ h) G actor t (subst (λ (g : Generation). AreHere e g) gen (generation_here IsTimely config (entry ∷ h) e (l, w))) (subst (λ (g : Generation). IsPart (entry ∷ h) g) gen (generation_part config (entry ∷ h) e)) q)

-- the entry's generation where none begins anew: the polls of the history with the first answers
abbrev pub with_first : Config → List Entry → Entry → ℕ → Generation
with_first config h entry e = (length h, first_entry config h entry.moment entry.call) ∷ (life config h e).generation

pub concerns_first : (config : Config) (h : List Entry) (entry : Entry) (e : ℕ) → Follows config h entry
    → concerns h e entry ≡ true → concerns h e (first_entry config h entry.moment entry.call) ≡ true
concerns_first config h entry e w c = ap (λ (o : Option ℕ). is_number o e || names h e entry.call) (sym (w.place)) ∙ c

pub first_generation : (config : Config) (h : List Entry) (entry : Entry) (e : ℕ) → IsLegal config h
    → Follows config h entry → concerns h e entry ≡ true → closes_now config h entry e ≡ false
    → (life config (first_entry config h entry.moment entry.call ∷ h) e).generation ≡ with_first config h entry e
first_generation config h entry e l w c q =
    generation_stage config h entry (first_entry config h entry.moment entry.call).answers
    (place_for config h entry.call) e l w c (concerns_first config h entry e w c)
    (first_is_first config h entry.moment entry.call) (first_silent config h entry.moment entry.call)
    ∙ ap (λ (b : Bool). generation_after b (with_first config h entry e)) q

pub entry_generation : (config : Config) (h : List Entry) (entry : Entry) (e : ℕ) (b : Bool) → IsLegal config h
    → Follows config h entry → concerns h e entry ≡ true → closes_now config h entry e ≡ b
    → (life config (entry ∷ h) e).generation ≡ generation_after b ((length h, entry) ∷ (life config h e).generation)
entry_generation config h entry e b l w c q =
    generation_stage config h entry entry.answers entry.place e l w c c (entry_is_first config h entry w) (legal_silent config h entry w)
    ∙ ap (λ (b : Bool). generation_after b ((length h, entry) ∷ (life config h e).generation)) q

-- what is at hand in the history with the first answers is an Invoke
first_held : (config : Config) (h : List Entry) (entry : Entry) (e t : ℕ) → IsLegal config h → Follows config h entry → concerns h e entry ≡ true
    → at_hand (phase config (first_entry config h entry.moment entry.call ∷ h) e) ≡ Some t
    → is_invoke (call_of (first_entry config h entry.moment entry.call ∷ h) t) ≡ true
first_held config h entry e t l w c q = (held config (entry ∷ h) e t (l, w) (sym (ap at_hand (phase_first config h entry e l w c)) ∙ q)).invoke

first_part_of : (config : Config) (h : List Entry) (entry : Entry) (e : ℕ) → IsLegal config h → Follows config h entry
    → concerns h e entry ≡ true → closes_now config h entry e ≡ false
    → IsPart (first_entry config h entry.moment entry.call ∷ h) (with_first config h entry e)
first_part_of config h entry e l w c q =
    subst (λ (g : Generation). IsPart (first_entry config h entry.moment entry.call ∷ h) g)
    (first_generation config h entry e l w c q)
    (generation_part config (first_entry config h entry.moment entry.call ∷ h) e)

same_extensions : (config : Config) (h : List Entry) (entry : Entry) (e : ℕ) → Follows config h entry
    → extensions ((length h, entry) ∷ (life config h e).generation) ≡ extensions (with_first config h entry e)
same_extensions config h entry e w = ap (λ (o : Option Extension). cons_option o (extensions (life config h e).generation))
    (first_registered (length h) A entry (length h) entry.call (entry_is_first config h entry w) (omega arith) ∙ sym (first_registered (length h) A (first_entry config h entry.moment entry.call) (length h) entry.call (first_is_first config h entry.moment entry.call) (omega arith)))
  where
    A : ℕ → Option Answer
    A = first_answer config h entry.moment entry.call

-- The role of the runtime's Next in the stand after the entry with its first answers.
pub first_runtime_role : (config : Config) (h : List Entry) (entry : Entry) (e t : ℕ) → IsLegal config h
    → Follows config h entry → concerns h e entry ≡ true → closes_now config h entry e ≡ false
    → parked (first_entry config h entry.moment entry.call ∷ h) (with_first config h entry e) TheRuntime ≡ Some t
    → role (stand config (first_entry config h entry.moment entry.call ∷ h) e) t ≡ RuntimePoll
first_runtime_role config h entry e t l w c q k =
    ap
    (λ (g : Generation). role (seen config (first ∷ h) e (record { phase = phase config (first ∷ h) e; generation = g })) t)
    (first_generation config h entry e l w c q)
    ∙ runtime_poll config (first ∷ h) e t (phase config (first ∷ h) e) (with_first config h entry e)
    (first_part_of config h entry e l w c q) (first_held config h entry e t l w c) k
  where
    first : Entry
    first = first_entry config h entry.moment entry.call

-- The role of an extension's Next there.
pub first_member_role : (config : Config) (h : List Entry) (entry : Entry) (e t : ℕ) (x : Extension) → IsLegal config h
    → Follows config h entry → concerns h e entry ≡ true → closes_now config h entry e ≡ false
    → IsIn x (extensions ((length h, entry) ∷ (life config h e).generation))
    → parked (first_entry config h entry.moment entry.call ∷ h) (with_first config h entry e) (TheExtension x.count) ≡ Some t
    → role (stand config (first_entry config h entry.moment entry.call ∷ h) e) t ≡ ExtensionPoll (member (first_entry config h entry.moment entry.call ∷ h) (with_first config h entry e) x)
first_member_role config h entry e t x l w c q i k =
    ap
    (λ (g : Generation). role (seen config (first ∷ h) e (record { phase = phase config (first ∷ h) e; generation = g })) t)
    (first_generation config h entry e l w c q)
    ∙ member_poll config (first ∷ h) e t (suc (registrations (entry ∷ h) e)) (phase config (first ∷ h) e)
    (with_first config h entry e) x (first_part_of config h entry e l w c q)
    (subst (λ (xs : List Extension). IsUnder (suc (registrations (entry ∷ h) e)) xs) (ap extensions (entry_generation config h entry e false l w c q) ∙ same_extensions config h entry e w) (counts_fall config (entry ∷ h) e (l, w)))
    (subst (λ (xs : List Extension). IsIn x xs) (same_extensions config h entry e w) i) (first_held config h entry e t l w c) k
  where
    first : Entry
    first = first_entry config h entry.moment entry.call

abbrev step_of : Config → List Entry → Entry → ℕ → Step
step_of config h entry e = step_at h entry (count_at config h entry e)

abbrev first_of : Config → List Entry → Entry → ℕ → Stand
first_of config h entry e = first_stand (fixed_of config e) (step_of config h entry e) (stand config h e) entry.call

-- by whether the present generation ends
abbrev turned_by : Config → List Entry → Entry → ℕ → Bool → Stand
turned_by config h entry e b =
    if b then restarted entry.moment (first_of config h entry e) else settled_stand (fixed_of config e) entry.moment (phase config h e) (first_of config h entry e)

after_is : (config : Config) (h : List Entry) (entry : Entry) (e : ℕ) (b : Bool) → IsLegal config h
    → Follows config h entry → concerns h e entry ≡ true → closes_now config h entry e ≡ b
    → phase config (entry ∷ h) e ≡ (turned_by config h entry e b).phase
unfolding seen stand_after finished turned
after_is config h entry e b l w c q = phase_meets config h entry e l w c ∙ ap (λ (b : Bool). (turned_by config h entry e b).phase) q

-- The runtime's Next after an entry in which the generation goes on.
pub runtime_final : (config : Config) (h : List Entry) (entry : Entry) (e : ℕ) → IsLegal config h
    → Follows config h entry → concerns h e entry ≡ true → closes_now config h entry e ≡ false
    → (stand config (entry ∷ h) e).runtime ≡ left (delivered (begun (phase config h e) (phase config (entry ∷ h) e)) RuntimePoll) (runtime_first (step_of config h entry e) (stand config h e) entry.call)
unfolding seen
runtime_final config h entry e l w c q =
    ap (λ (g : Generation). parked (entry ∷ h) g TheRuntime) gen
    ∙ parked_second config h entry e TheRuntime (delivered B RuntimePoll) l w
    (λ t n k. second_value config h entry e TheRuntime RuntimePoll t l w c gen n (first_runtime_role config h entry e t l w c q k))
    ∙ ap (left (delivered B RuntimePoll)) (runtime_stage config h entry entry e (count_at config h entry e) l w c refl (entry_is_first config h entry w))
  where
    B : Option (ℕ × ℕ)
    B = begun (phase config h e) (phase config (entry ∷ h) e)

    gen : (life config (entry ∷ h) e).generation ≡ (length h, entry) ∷ (life config h e).generation
    gen = entry_generation config h entry e false l w c q

-- The extensions after such an entry.
pub members_final : (config : Config) (h : List Entry) (entry : Entry) (e : ℕ) → IsLegal config h
    → Follows config h entry → concerns h e entry ≡ true → closes_now config h entry e ≡ false
    → (stand config (entry ∷ h) e).members ≡ map (member_second (begun (phase config h e) (phase config (entry ∷ h) e))) (members_first (step_of config h entry e) (stand config h e) entry.call)
unfolding seen members
members_final config h entry e l w c q =
    ap (λ (g : Generation). members (entry ∷ h) g) gen
    ∙ map_in (member (entry ∷ h) G) (λ x. member_second B (member (first_part entry ∷ h) G x)) (extensions G) each
    ∙ map_map (member_second B) (member (first_part entry ∷ h) G) (extensions G)
    ∙ ap (map (member_second B))
    (members_stage config h entry entry e (count_at config h entry e) l w c refl (entry_is_first config h entry w) (legal_silent config h entry w))
  where
    B : Option (ℕ × ℕ)
    B = begun (phase config h e) (phase config (entry ∷ h) e)

    G : Generation
    G = (length h, entry) ∷ (life config h e).generation

    gen : (life config (entry ∷ h) e).generation ≡ G
    gen = entry_generation config h entry e false l w c q

    next : (x : Extension) → IsIn x (extensions G)
        → parked (entry ∷ h) G (TheExtension x.count) ≡ left (delivered B (ExtensionPoll (member (first_part entry ∷ h) G x))) (parked (first_part entry ∷ h) G (TheExtension x.count))
    next x i = parked_second config h entry e (TheExtension x.count) (delivered B (ExtensionPoll (member (first_part entry ∷ h) G x))) l w
        (λ t n k. second_value config h entry e (TheExtension x.count) (ExtensionPoll (member (first ∷ h) ((length h, first) ∷ (life config h e).generation) x)) t l w c gen n (first_member_role config h entry e t x l w c q i k)
        ∙ same_extension B (member (first ∷ h) ((length h, first) ∷ (life config h e).generation) x) (member (first_part entry ∷ h) G x) refl)
      where
        first : Entry
        first = first_entry config h entry.moment entry.call

    each : (x : Extension) → IsIn x (extensions G) → member (entry ∷ h) G x ≡ member_second B (member (first_part entry ∷ h) G x)
    each x i = λ j. record (member (first_part entry ∷ h) G x) { next = next x i j }

-- what is at hand after the lines that follow an entry was at hand before them
turned_held : (config : Config) (h : List Entry) (entry : Entry) (e : ℕ) (b : Bool) (p : ℕ) → at_hand (turned_by config h entry e b).phase ≡ Some p
    → at_hand (cell_at (fixed_of config e) (step_of config h entry e) (stand config h e) entry.call) ≡ Some p
unfolding first_stand
turned_held config h entry e true p q =
    from_after true _ true true entry.moment (limit_of config e entry.moment)
    (cell_at (fixed_of config e) (step_of config h entry e) (stand config h e) entry.call) p q
turned_held config h entry e false p q =
    from_after false true _ _ entry.moment (limit_of config e entry.moment)
    (cell_at (fixed_of config e) (step_of config h entry e) (stand config h e) entry.call) p q

-- The stand after an entry that concerns the environment, but for the count of events.
pub stand_meets : (config : Config) (h : List Entry) (entry : Entry) (e : ℕ) → IsLegal config h → Follows config h entry → concerns h e entry ≡ true
    → stand config (entry ∷ h) e ≡ with_events (events (entry ∷ h) e) (stand_after (fixed_of config e) (step_at h entry (count_at config h entry e)) (stand config h e) entry.call)
unfolding seen stand_after finished turned first_stand members
stand_meets config h entry e l w c = go (closes_now config h entry e) refl
  where
    s1 : Stand
    s1 = first_of config h entry e

    request : (b : Bool) → closes_now config h entry e ≡ b
        → request_at config (entry ∷ h) e (at_hand (phase config (entry ∷ h) e)) ≡ if_held (turned_by config h entry e b).phase s1.request
    request b q =
        ap (λ (P : Phase). request_at config (entry ∷ h) e (at_hand P)) (after_is config h entry e b l w c q)
        ∙ request_final config h entry e (turned_by config h entry e b).phase l w c (turned_held config h entry e b)

    SP : Phase
    SP = settled_phase (fixed_of config e) entry.moment s1

    same : closes_now config h entry e ≡ false → begun (phase config h e) (phase config (entry ∷ h) e) ≡ begun (phase config h e) SP
    same q = ap (begun (phase config h e)) (after_is config h entry e false l w c q)

    go : (b : Bool) → closes_now config h entry e ≡ b
        → stand config (entry ∷ h) e ≡ with_events (events (entry ∷ h) e) (turned_by config h entry e (closes_now config h entry e))
    go true q = (λ i. record {
      phase = after_is config h entry e true l w c q i;
      runtime = parked (entry ∷ h) (entry_generation config h entry e true l w c q i) TheRuntime;
      members = members (entry ∷ h) (entry_generation config h entry e true l w c q i);
      request = request true q i;
      stopped = is_stop entry.call || stopped h;
      registrations = registrations_final config h entry e w c i;
      events = events (entry ∷ h) e;
    }) ∙ ap (λ (b : Bool). with_events (events (entry ∷ h) e) (turned_by config h entry e b)) (sym q)
    go false q = (λ i. record {
      phase = after_is config h entry e false l w c q i;
      runtime = runtime i;
      members = members_are i;
      request = request false q i;
      stopped = is_stop entry.call || stopped h;
      registrations = registrations_final config h entry e w c i;
      events = events (entry ∷ h) e;
    }) ∙ ap (λ (b : Bool). with_events (events (entry ∷ h) e) (turned_by config h entry e b)) (sym q)
      where
        runtime : (stand config (entry ∷ h) e).runtime ≡ left (delivered (begun (phase config h e) SP) RuntimePoll) s1.runtime
        runtime = runtime_final config h entry e l w c q ∙ ap (λ (b : Option (ℕ × ℕ)). left (delivered b RuntimePoll) s1.runtime) (same q)

        members_are : (stand config (entry ∷ h) e).members ≡ map (member_second (begun (phase config h e) SP)) s1.members
        members_are = members_final config h entry e l w c q ∙ ap (λ (b : Option (ℕ × ℕ)). map (member_second b) s1.members) (same q)

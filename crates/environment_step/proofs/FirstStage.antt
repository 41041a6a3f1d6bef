-- The first answers to an environment's Nexts, and its runtime and its extensions after them, from the stand alone.
use Rattle.std.proofs.Common.{◌≡◌, ℕ, ◌<◌, ◌≤◌, Bool, true, false, List, length, Option, Some, None, sym, refl, ap, ◌∙◌}
use Rattle.std.proofs.Common.{arith, is_none, ◌||◌, true≢false, if◌then◌else◌, ◌∷◌, ◌&&◌, suc, ◌++◌, ap₂, map}
use Rattle.call_types.specs.declared.answer.Answer.{Answer}
use Rattle.call_types.specs.declared.call.Call.{Call}
use Rattle.call_types.specs.declared.call.Call.TheVariants.{Invoke, RuntimeNext, ExtNext, ExtInitFailure, ExtExitFailure, Register}
use Rattle.call_types.specs.declared.call.Entry.{Entry}
use Rattle.arn_ids.specs.declared.config.Config.{Config}
use Rattle.call_model.specs.History.{answer_in, pending}
use Rattle.call_types.specs.Calls.{env_of, is_invoke}
use Rattle.call_model.specs.Generation.{Actor, TheRuntime, TheExtension, asks, is_ending, answer_to_next, Generation}
use Rattle.call_model.specs.Generation.{Extension, Member, parked, if_pending, last_next, extensions, member}
use Rattle.call_model.specs.Generation.{is_accepted, reports_exit, members, as_registered}
use Rattle.call_model.specs.Stand.{Stand, is_number, role, Role, NoRole, Waiting, RuntimePoll, ExtensionPoll}
use Rattle.call_model.specs.Table.{own_answer, closes}
use Rattle.call_model.specs.Polls.{by_role}
use Rattle.call_model.specs.Life.{stand, concerns, names, first_part, life, seen}
use Rattle.call_model.specs.Answers.{first_answer, home, answer_at, first_entry}
use Rattle.call_model.specs.Next.{Follows, IsLegal, IsTimely}
use Rattle.environment_step.specs.After.{left, poll_gets, actor_gets, step_at, member_first, runtime_first, member_gets, members_first, fresh_members}
use Rattle.call_model.proofs.Pairs.{eqb-other}
use Rattle.call_model.proofs.Scans.{still, asked, member_steps, parked_step, IsSilent, generation_below, last_below, member_step}
use Rattle.call_model.specs.Limits.{place_for}
use Rattle.environment_step.proofs.Extensions.{own_value, named_here, registered_count, blank, unregistered}
use Rattle.environment_step.proofs.FirstValues.{IsFirst, plain_none, first_ending, first_accepted, first_valued, first_registered}
use Rattle.call_model.proofs.Once.{fresh, silent_first}
use Rattle.call_model.proofs.BoundWaits.{generation_part}
use Rattle.environment_step.proofs.Frame.{poll_home, generation_here, last_here}
use Rattle.environment_step.proofs.MemberRoles.{IsIn, role_member, map_in}
use Rattle.call_model.proofs.Roles.{role_runtime}
use Rattle.call_model.proofs.Basics.{some-none, map_map}
use Rattle.std.specs.List.{cons_option}
use Rattle.call_types.specs.declared.answer.Answer.TheVariants.{Registered}
use Rattle.std.proofs.Math.Bool.{or-false}

abbrev pub gets : (ℕ → Option Answer) → Option ℕ → Option Answer
gets A None = None
gets A (Some t) = A t

abbrev pub is_poll_role : Role → Bool
is_poll_role RuntimePoll = true
is_poll_role (ExtensionPoll x) = true
is_poll_role r = false

-- where a call that concerns an environment doesn't name it, it is an Invoke
pub not_named_call : (h : List Entry) (entry : Entry) (e : ℕ) (config : Config) → Follows config h entry
    → concerns h e entry ≡ true → names h e entry.call ≡ false → is_invoke entry.call ≡ true
not_named_call h entry e config w c q = go entry.call refl q
  where
    placed : is_number entry.place e ≡ true
    placed = sym (or-false (is_number entry.place e)) ∙ ap (λ (b : Bool). is_number entry.place e || b) (sym q) ∙ c

    no_place : place_for config h entry.call ≡ None → ⊥
    no_place k = true≢false (sym placed ∙ ap (λ (o : Option ℕ). is_number o e) (w.place ∙ k))

    go : (call : Call) → entry.call ≡ call → names h e call ≡ false → is_invoke call ≡ true
    go (Invoke f qualified trace body) p r = refl
    go call p r = absurd (no_place (ap (place_for config h) p))

-- an Invoke gives a poll nothing
pub invoke_gives : (own now : ℕ) (s : Stand) (call : Call) (t : ℕ) (r : Role) → is_invoke call ≡ true
    → is_poll_role r ≡ true → by_role own now s call t r ≡ None
unfolding closes
invoke_gives own now s (Invoke f qualified trace body) t RuntimePoll i p = refl
invoke_gives own now s (Invoke f qualified trace body) t (ExtensionPoll x) i p = refl
invoke_gives own now s (Invoke f qualified trace body) t NoRole i p = absurd (true≢false (sym p))
invoke_gives own now s (Invoke f qualified trace body) t Waiting i p = absurd (true≢false (sym p))
invoke_gives own now s call t r i p = absurd (true≢false (sym i))

-- an actor of the environment: its role, and its parked Next
pub record IsActor (config : Config) (h : List Entry) (e : ℕ) (actor : Actor) (r : Role) (next : Option ℕ) : Type 0 where
  pub poll : is_poll_role r ≡ true
  pub below : (t : ℕ) → next ≡ Some t → t < length h
  pub here : (t : ℕ) → next ≡ Some t → home h t ≡ Some e
  pub role_is : (t : ℕ) → next ≡ Some t → role (stand config h e) t ≡ r

-- the first answer to an actor's Next
pub actor_value : (config : Config) (h : List Entry) (entry : Entry) (e : ℕ) (actor : Actor) (r : Role) (next : Option ℕ) (count : ℕ)
    → Follows config h entry → concerns h e entry ≡ true → IsActor config h e actor r next
    → gets (first_answer config h entry.moment entry.call) (asked actor entry.call (length h) next) ≡ actor_gets actor (record { ticket = length h; now = entry.moment; count = count }) (stand config h e) entry.call r next
unfolding first_answer
actor_value config h entry e actor r next count w c k = go (asks actor entry.call) refl
  where
    now : ℕ
    now = entry.moment

    asks_env : (actor : Actor) (call : Call) → asks actor call ≡ true → (d : ℕ) × (env_of call ≡ Some d)
    asks_env TheRuntime (RuntimeNext d) q = (d, refl)
    asks_env (TheExtension x) (ExtNext d y) q = (d, refl)
    asks_env TheRuntime (ExtNext d y) q = absurd (true≢false (sym q))
    asks_env (TheExtension x) (RuntimeNext d) q = absurd (true≢false (sym q))
    asks_env actor call q = absurd (true≢false (sym q))

    older : (t : ℕ) (b : Bool) → names h e entry.call ≡ b → next ≡ Some t
        → answer_at config h now e entry.call t b ≡ by_role (length h) now (stand config h e) entry.call t r
    older t true q m = ap (by_role (length h) now (stand config h e) entry.call t) (k.role_is t m)
    older t false q m = sym (invoke_gives (length h) now (stand config h e) entry.call t r (not_named_call h entry e config w c q) (k.poll))

    at_next : (o : Option ℕ) → next ≡ o
        → gets (first_answer config h now entry.call) o ≡ poll_gets (record { ticket = length h; now = now; count = count }) (stand config h e) entry.call r o
    at_next None q = refl
    at_next (Some t) q =
        rw (eqb-other t (length h) (λ same. let lt : t < length h = k.below t q in omega (arith, lt, same)), k.here t q) (older t (names h e entry.call) refl q)

    go : (b : Bool) → asks actor entry.call ≡ b
        → gets (first_answer config h now entry.call) (if b then Some (length h) else next) ≡ (if b then own_answer (stand config h e) entry.call else poll_gets (record { ticket = length h; now = now; count = count }) (stand config h e) entry.call r next)
    go true q =
        let a = asks_env actor entry.call q in own_value config h now entry.call e (a.1 ∙ ap (λ (d : ℕ). Some d) (named_here config h entry e a.0 w a.1 c))
    go false q = at_next next refl

-- what is left of a Next after the first answers
pub still_left : (n : ℕ) (A : ℕ → Option Answer) (entry : Entry) (o : Option ℕ) → IsFirst n A entry
    → ((t : ℕ) → o ≡ Some t → t ≤ n) → still (first_part entry) o ≡ left (gets A o) o
still_left n A entry None k below = refl
still_left n A entry (Some t) k below =
    ap (λ (b : Bool). if b then Some t else None) (plain_none (answer_in (first_part entry).answers t) (A t) (k.first t (below t refl))) ∙ go (A t)
  where
    go : (a : Option Answer) → (if is_none a then Some t else None) ≡ left a (Some t)
    go None = refl
    go (Some a) = refl

pub ending_gets : (n : ℕ) (A : ℕ → Option Answer) (entry : Entry) (o : Option ℕ) → IsFirst n A entry
    → ((t : ℕ) → o ≡ Some t → t ≤ n) → is_ending (answer_to_next entry o) ≡ is_ending (gets A o)
ending_gets n A entry None k below = refl
ending_gets n A entry (Some t) k below = first_ending n A entry t k (below t refl)

pub parked_last : (h : List Entry) (g : Generation) (actor : Actor) (t : ℕ) → parked h g actor ≡ Some t → last_next g actor ≡ Some t
parked_last h g actor t q = go (last_next g actor) refl q
  where
    go : (o : Option ℕ) → last_next g actor ≡ o → if_pending h o ≡ Some t → o ≡ Some t
    go None r k = absurd (some-none (sym k))
    go (Some u) r k = both (pending h u) k
      where
        both : (b : Bool) → (if b then Some u else None) ≡ Some t → Some u ≡ Some t
        both true m = m
        both false m = absurd (some-none (sym m))

pub member_actor : (config : Config) (h : List Entry) (e : ℕ) (x : Extension) → IsLegal config h → IsIn x (extensions (life config h e).generation)
    → IsActor config h e (TheExtension x.count) (ExtensionPoll (member h (life config h e).generation x)) (parked h (life config h e).generation (TheExtension x.count))
member_actor config h e x l i = record {
  poll = refl;
  below = λ t q. last_below (length h) g (TheExtension x.count) (generation_below config h e) t (parked_last h g (TheExtension x.count) t q);
  here =
      λ t q. poll_home IsTimely config h t e l (last_here e h g (TheExtension x.count) t (generation_here IsTimely config h e l) (generation_part config h e) (parked_last h g (TheExtension x.count) t q));
  role_is = λ t q. role_member config h e t x l i q;
}
  where
    g : Generation
    g = (life config h e).generation

pub runtime_actor : (config : Config) (h : List Entry) (e : ℕ) → IsLegal config h
    → IsActor config h e TheRuntime RuntimePoll (parked h (life config h e).generation TheRuntime)
runtime_actor config h e l = record {
  poll = refl;
  below = λ t q. last_below (length h) g TheRuntime (generation_below config h e) t (parked_last h g TheRuntime t q);
  here =
      λ t q. poll_home IsTimely config h t e l (last_here e h g TheRuntime t (generation_here IsTimely config h e l) (generation_part config h e) (parked_last h g TheRuntime t q));
  role_is = λ t q. role_runtime config h e t l q;
}
  where
    g : Generation
    g = (life config h e).generation

-- the last Next after a call isn't newer than the call
pub asked_below : (actor : Actor) (call : Call) (n : ℕ) (next : Option ℕ) → ((t : ℕ) → next ≡ Some t → t < n) → (t : ℕ)
    → asked actor call n next ≡ Some t → t ≤ n
asked_below actor call n next below t q = go (asks actor call) q
  where
    go : (b : Bool) → (if b then Some n else next) ≡ Some t → t ≤ n
    go true r = let same : n ≡ t = cc in omega (arith, same)
    go false r = let less : t < n = below t r in omega (arith, less)

-- The runtime's pending Next after the first answers.
pub runtime_stage : (config : Config) (h : List Entry) (entry given : Entry) (e count : ℕ) → IsLegal config h
    → Follows config h entry → concerns h e entry ≡ true → given.call ≡ entry.call
    → IsFirst (length h) (first_answer config h entry.moment entry.call) given
    → parked (first_part given ∷ h) ((length h, given) ∷ (life config h e).generation) TheRuntime ≡ runtime_first (step_at h entry count) (stand config h e) entry.call
unfolding seen
runtime_stage config h entry given e count l w c same k =
    parked_step (first_part given) given h g TheRuntime refl (generation_below config h e) (fresh config h (length h) l (omega arith))
    ∙ ap (λ (call : Call). still (first_part given) (asked TheRuntime call (length h) next)) same
    ∙ still_left (length h) A given (asked TheRuntime entry.call (length h) next) k (asked_below TheRuntime entry.call (length h) next (actor.below))
    ∙ ap (λ (a : Option Answer). left a (asked TheRuntime entry.call (length h) next))
    (actor_value config h entry e TheRuntime RuntimePoll next count w c actor)
  where
    g : Generation
    g = (life config h e).generation

    next : Option ℕ
    next = parked h g TheRuntime

    A : ℕ → Option Answer
    A = first_answer config h entry.moment entry.call

    actor : IsActor config h e TheRuntime RuntimePoll next
    actor = runtime_actor config h e l

-- An extension after the first answers.
pub member_stage : (config : Config) (h : List Entry) (entry given : Entry) (e count : ℕ) (x : Extension)
    → IsLegal config h → Follows config h entry → concerns h e entry ≡ true → given.call ≡ entry.call
    → IsFirst (length h) (first_answer config h entry.moment entry.call) given → IsSilent h given
    → IsIn x (extensions (life config h e).generation)
    → member (first_part given ∷ h) ((length h, given) ∷ (life config h e).generation) x ≡ member_first (step_at h entry count) (stand config h e) entry.call (member h (life config h e).generation x)
member_stage config h entry given e count x l w c same k quiet i =
    member_steps (first_part given) given h g refl (generation_below config h e) (fresh config h (length h) l (omega arith)) quiet x ∙ (λ j. record {
      extension = x;
      next = next_is j;
      told = y.told || told_is j;
      again = y.again || (y.told && asks (TheExtension x.count) (same j));
      exited = exited_is j || y.exited;
    })
  where
    g : Generation
    g = (life config h e).generation

    y : Member
    y = member h g x

    N : Option ℕ
    N = asked (TheExtension x.count) entry.call (length h) y.next

    A : ℕ → Option Answer
    A = first_answer config h entry.moment entry.call

    actor : IsActor config h e (TheExtension x.count) (ExtensionPoll y) y.next
    actor = member_actor config h e x l i

    low : (t : ℕ) → N ≡ Some t → t ≤ length h
    low = asked_below (TheExtension x.count) entry.call (length h) y.next (actor.below)

    value : gets A N ≡ member_gets (step_at h entry count) (stand config h e) entry.call y
    value = actor_value config h entry e (TheExtension x.count) (ExtensionPoll y) y.next count w c actor

    next_is : still (first_part given) (asked (TheExtension x.count) given.call (length h) y.next) ≡ left (member_gets (step_at h entry count) (stand config h e) entry.call y) N
    next_is =
        ap (λ (call : Call). still (first_part given) (asked (TheExtension x.count) call (length h) y.next)) same
        ∙ still_left (length h) A given N k low ∙ ap (λ (a : Option Answer). left a N) value

    told_is : is_ending (answer_to_next given (asked (TheExtension x.count) given.call (length h) y.next)) ≡ is_ending (member_gets (step_at h entry count) (stand config h e) entry.call y)
    told_is =
        ap (λ (call : Call). is_ending (answer_to_next given (asked (TheExtension x.count) call (length h) y.next))) same
        ∙ ending_gets (length h) A given N k low ∙ ap is_ending value

    exited_is : (reports_exit x.count given.call && is_accepted (answer_in given.answers (length h))) ≡ (reports_exit x.count entry.call && is_accepted (own_answer (stand config h e) entry.call))
    exited_is =
        ap (λ (call : Call). reports_exit x.count call && is_accepted (answer_in given.answers (length h))) same ∙ go (reports_exit x.count entry.call) refl
      where
        env : (call : Call) → reports_exit x.count call ≡ true → (d : ℕ) × (env_of call ≡ Some d)
        env (ExtInitFailure d z body) r = (d, refl)
        env (ExtExitFailure d z body) r = (d, refl)
        env call r = absurd (true≢false (sym r))

        go : (b : Bool) → reports_exit x.count entry.call ≡ b
            → (b && is_accepted (answer_in given.answers (length h))) ≡ (b && is_accepted (own_answer (stand config h e) entry.call))
        go false r = refl
        go true r =
            let a = env entry.call r in first_accepted (length h) A given (length h) k (omega arith) ∙ ap is_accepted (own_value config h entry.moment entry.call e (a.1 ∙ ap (λ (d : ℕ). Some d) (named_here config h entry e a.0 w a.1 c)))

pub first_silent : (config : Config) (h : List Entry) (now : ℕ) (call : Call) → IsSilent h (first_entry config h now call)
first_silent config h now call t lt e =
    first_valued config h now call t (omega (arith, lt))
    ∙ silent_first config h now call t (λ same. let less : t < length h = lt in omega (arith, less, same)) e

-- a registration is of the next count
new_count : (s : Stand) (call : Call) (x : Extension) → as_registered call (own_answer s call) ≡ Some x → s.registrations < x.count
new_count s call x q = go call (own_answer s call) refl q
  where
    go : (call : Call) (o : Option Answer) → own_answer s call ≡ o → as_registered call o ≡ Some x → s.registrations < x.count
    go (Register e name invoke shutdown account) (Some (Registered c)) p r =
        let next : c ≡ suc s.registrations = registered_count s e c name invoke shutdown account (Some (Registered c)) p refl in
        let at : c ≡ x.count = count_of (some_in r) in omega (arith, next, at)
      where
        some_in : {y z : Extension} → Some y ≡ Some z → y ≡ z
        some_in k = cc

        count_of : {y z : Extension} → y ≡ z → y.count ≡ z.count
        count_of k = ap (λ (w : Extension). w.count) k
    go call o p r = absurd (some-none (sym r))

-- The extensions after the first answers.
pub members_stage : (config : Config) (h : List Entry) (entry given : Entry) (e count : ℕ) → IsLegal config h
    → Follows config h entry → concerns h e entry ≡ true → given.call ≡ entry.call
    → IsFirst (length h) (first_answer config h entry.moment entry.call) given → IsSilent h given
    → members (first_part given ∷ h) ((length h, given) ∷ (life config h e).generation) ≡ members_first (step_at h entry count) (stand config h e) entry.call
unfolding members seen
members_stage config h entry given e count l w c same k quiet =
    go (as_registered given.call (answer_in given.answers (length h))) refl
  where
    g : Generation
    g = (life config h e).generation

    s : Stand
    s = stand config h e

    new : Extension → Member
    new x = member (first_part given ∷ h) ((length h, given) ∷ g) x

    olds : map new (extensions g) ≡ map (member_first (step_at h entry count) s entry.call) (map (member h g) (extensions g))
    olds =
        map_in new (λ x. member_first (step_at h entry count) s entry.call (member h g x)) (extensions g) (λ x i. member_stage config h entry given e count x l w c same k quiet i)
        ∙ map_map (member_first (step_at h entry count) s entry.call) (member h g) (extensions g)

    A_own : as_registered given.call (answer_in given.answers (length h)) ≡ as_registered entry.call (own_answer s entry.call)
    A_own =
        ap (λ (call : Call). as_registered call (answer_in given.answers (length h))) same
        ∙ first_registered (length h) (first_answer config h entry.moment entry.call) given (length h) entry.call k (omega arith)
        ∙ own entry.call refl
      where
        own : (call : Call) → entry.call ≡ call
            → as_registered call (first_answer config h entry.moment entry.call (length h)) ≡ as_registered call (own_answer s entry.call)
        own (Register d name invoke shutdown account) p =
            ap (as_registered (Register d name invoke shutdown account))
            (own_value config h entry.moment entry.call e (ap env_of p ∙ ap (λ (n : ℕ). Some n) (named_here config h entry e d w (ap env_of p) c)))
        own call p = refl

    fresh_member : (x : Extension) → as_registered entry.call (own_answer s entry.call) ≡ Some x → new x ≡ blank x
    fresh_member x q = member_steps (first_part given) given h g refl (generation_below config h e) (fresh config h (length h) l (omega arith)) quiet x
        ∙ ap (member_step (first_part given) given (length h)) (unregistered config h e x l (new_count s entry.call x q))
        ∙ ap (λ (call : Call). member_step (first_part given) (record given { call = call }) (length h) (blank x)) same
        ∙ at_register entry.call (own_answer s entry.call) q
      where
        at_register : (call : Call) (o : Option Answer) → as_registered call o ≡ Some x
            → member_step (first_part given) (record given { call = call }) (length h) (blank x) ≡ blank x
        at_register (Register d name invoke shutdown account) o r = refl
        at_register call o r = absurd (some-none (sym r))

    go : (o : Option Extension) → as_registered given.call (answer_in given.answers (length h)) ≡ o
        → map new (cons_option o (extensions g)) ≡ fresh_members (as_registered entry.call (own_answer s entry.call)) ++ map (member_first (step_at h entry count) s entry.call) (map (member h g) (extensions g))
    go None q =
        olds
        ∙ ap (λ (o : Option Extension). fresh_members o ++ map (member_first (step_at h entry count) s entry.call) (map (member h g) (extensions g))) (sym q ∙ A_own)
    go (Some x) q =
        ap₂ ◌∷◌ (fresh_member x (sym A_own ∙ q)) olds
        ∙ ap (λ (o : Option Extension). fresh_members o ++ map (member_first (step_at h entry count) s entry.call) (map (member h g) (extensions g))) (sym q ∙ A_own)

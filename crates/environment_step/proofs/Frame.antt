-- An entry that doesn't concern an environment leaves its stand.
use Rattle.std.proofs.lemmas.List.Sums.{sum_by-cons}
use Rattle.std.proofs.Common.{◌≡◌, ℕ, ◌+◌, ◌<◌, Bool, true, false, cond, ltb, List, [], ◌∷◌, length, Option, Some, None}
use Rattle.std.proofs.Common.{sym, refl, ap, ◌∙◌, inl, inr, arith, is_some, is_none, ◌&&◌, ◌||◌, ◌==◌, true≢false}
use Rattle.std.proofs.Common.{if◌then◌else◌, count_by}
use Rattle.std.proofs.lemmas.Bool.{eqb-true, cases_lt, or_parts}
use Rattle.std.proofs.lemmas.Bool.Decides.{nat_tests}
use Rattle.call_types.specs.declared.answer.Answer.{Answer}
use Rattle.call_types.specs.declared.call.Call.{Call}
use Rattle.call_types.specs.declared.call.Call.TheVariants.{Invoke, RuntimeNext, ExtNext, Withdraw, Stop}
use Rattle.call_types.specs.declared.call.Entry.{Entry}
use Rattle.arn_ids.specs.declared.config.Config.{Config}
use Rattle.call_model.specs.History.{answer_in, pending, call_of, place_of, poll_env, is_stop, stopped, upto, with_tickets, or_else}
use Rattle.call_types.specs.Calls.{env_of}
use Rattle.call_model.specs.Generation.{Generation, Extension, Actor, TheRuntime, TheExtension, parked, if_pending}
use Rattle.call_model.specs.Generation.{last_next, asks, extensions, member, members, told, asked_again, exited}
use Rattle.call_model.specs.Stand.{is_number, at_hand}
use Rattle.call_model.specs.Table.{is_registered}
use Rattle.call_model.specs.Life.{life, lived, after, phase, stand, seen, concerns, names, request_at, registrations, events, events_in, is_event, ends_here}
use Rattle.call_model.specs.Limits.{place_for}
use Rattle.call_model.specs.Answers.{home}
use Rattle.call_model.specs.Next.{IsLegalBy, FollowsBy, Rule}
use Rattle.call_model.proofs.Pairs.{eqb-other}
use Rattle.call_model.proofs.Once.{pending_cons, answers_past}
use Rattle.call_model.proofs.Scans.{generation_below, last_below}
use Rattle.call_model.proofs.AtHand.{IsHeld, held_by}
use Rattle.call_model.proofs.BoundWaits.{IsPart, generation_part}
use Rattle.call_model.proofs.Basics.{eqb-self, number_some, map_same, some-none, and_false}
use Rattle.call_model.proofs.Elsewhere.{life_elsewhere, elsewhere}
use Rattle.call_model.proofs.Visits.{visit, if_concerned, if_ended}

-- a poll is placed nowhere
poll_place : (config : Config) (h : List Entry) (call : Call) (d : ℕ) → poll_env call ≡ Some d → place_for config h call ≡ None
poll_place config h (RuntimeNext e) d q = refl
poll_place config h (ExtNext e x) d q = refl
poll_place config h call d q = absurd (some-none (sym q))

poll_named : (call : Call) (d : ℕ) → poll_env call ≡ Some d → env_of call ≡ Some d
poll_named (RuntimeNext e) d q = q
poll_named (ExtNext e x) d q = q
poll_named call d q = absurd (some-none (sym q))

-- the environment of a poll
pub poll_home : (rule : Rule) (config : Config) (h : List Entry) (t d : ℕ) → IsLegalBy rule config h → poll_env (call_of h t) ≡ Some d → home h t ≡ Some d
poll_home rule config h t d l q = rw (placed h l q, poll_named (call_of h t) d q) refl
  where
    placed : (h : List Entry) → IsLegalBy rule config h → poll_env (call_of h t) ≡ Some d → place_of h t ≡ None
    placed [] l q = refl
    placed (entry ∷ h) l q = go (t == length h) (placed h l.0) q
      where
        go : (b : Bool) → (poll_env (call_of h t) ≡ Some d → place_of h t ≡ None)
            → poll_env (if b then entry.call else call_of h t) ≡ Some d
            → (if b then entry.place else place_of h t) ≡ None
        go true ih r = l.1.place ∙ poll_place config h entry.call d r
        go false ih r = ih r

-- an entry that doesn't concern an environment answers none of its tickets
pub quiet_here : (rule : Rule) (config : Config) (h : List Entry) (entry : Entry) (e t : ℕ)
    → FollowsBy rule config h entry → concerns h e entry ≡ false → t < length h → home h t ≡ Some e
    → answer_in entry.answers t ≡ None
quiet_here rule config h entry e t w c lt at =
    rw (w.answers) (elsewhere config h entry.moment entry.call t e lt at (ap (λ (o : Option ℕ). is_number o e || names h e entry.call) (sym (w.place)) ∙ c))

-- the polls of a generation are those of its environment
abbrev pub AreHere : ℕ → Generation → Type 0
AreHere e [] = Unit {0}
AreHere e (taken ∷ g) = ((d : ℕ) → poll_env taken.1.call ≡ Some d → d ≡ e) × AreHere e g

poll_names : (h : List Entry) (call : Call) (e d : ℕ) → poll_env call ≡ Some d → names h e call ≡ true → d ≡ e
poll_names h (RuntimeNext b) e d q n = let same : b ≡ d = cc in sym same ∙ eqb-true b e n
poll_names h (ExtNext b x) e d q n = let same : b ≡ d = cc in sym same ∙ eqb-true b e n
poll_names h call e d q n = absurd (some-none (sym q))

pub generation_here : (rule : Rule) (config : Config) (h : List Entry) (e : ℕ) → IsLegalBy rule config h → AreHere e (life config h e).generation
unfolding life lived after
generation_here rule config [] e l = tt
generation_here rule config (entry ∷ h) e l = go (concerns h e entry) refl (generation_here rule config h e l.0)
  where
    no_place : (d : ℕ) → poll_env entry.call ≡ Some d → is_number entry.place e ≡ false
    no_place d q = ap (λ (o : Option ℕ). is_number o e) (l.1.place ∙ poll_place config h entry.call d q)

    at_end : (b : Bool) → concerns h e entry ≡ true → AreHere e (life config h e).generation → AreHere e (if_ended b (visit config h e entry)).generation
    at_end true c k = tt
    at_end false c k = ((λ d q. poll_names h entry.call e d q (ap (λ b. b || names h e entry.call) (sym (no_place d q)) ∙ c)), k)

    go : (b : Bool) → concerns h e entry ≡ b → AreHere e (life config h e).generation → AreHere e (if_concerned b (visit config h e entry)).generation
    go false c k = k
    go true c k = at_end (ends_here (visit config h e entry)) c k

asks_poll : (actor : Actor) (call : Call) → asks actor call ≡ true → (d : ℕ) × (poll_env call ≡ Some d)
asks_poll TheRuntime (RuntimeNext e) q = (e, refl)
asks_poll (TheExtension x) (ExtNext e y) q = (e, refl)
asks_poll TheRuntime (ExtNext e y) q = absurd (true≢false (sym q))
asks_poll (TheExtension x) (RuntimeNext e) q = absurd (true≢false (sym q))
asks_poll actor call q = absurd (true≢false (sym q))

-- an actor's last Next is a poll of its environment
pub last_here : (e : ℕ) (h : List Entry) (g : Generation) (actor : Actor) (t : ℕ) → AreHere e g → IsPart h g
    → last_next g actor ≡ Some t → poll_env (call_of h t) ≡ Some e
last_here e h [] actor t a p q = absurd (some-none (sym q))
last_here e h (taken ∷ g) actor t a p q = go (asks actor taken.1.call) refl (last_here e h g actor t a.1 p.1) q
  where
    go : (c : Bool) → asks actor taken.1.call ≡ c → (last_next g actor ≡ Some t → poll_env (call_of h t) ≡ Some e)
        → (if c then Some taken.0 else last_next g actor) ≡ Some t → poll_env (call_of h t) ≡ Some e
    go true k ih r =
        let at : taken.0 ≡ t = cc in let b = asks_poll actor taken.1.call k in
        ap (λ (n : ℕ). poll_env (call_of h n)) (sym at) ∙ ap poll_env p.0.1 ∙ b.1 ∙ ap (λ (n : ℕ). Some n) (a.0 b.0 b.1)
    go false k ih r = ih r

-- the pending Next of an actor of an environment that the entry doesn't concern
pub parked_elsewhere : (rule : Rule) (config : Config) (h : List Entry) (entry : Entry) (e : ℕ) (actor : Actor)
    → IsLegalBy rule config h → FollowsBy rule config h entry → concerns h e entry ≡ false
    → parked (entry ∷ h) (life config h e).generation actor ≡ parked h (life config h e).generation actor
parked_elsewhere rule config h entry e actor l w c = go (last_next (life config h e).generation actor) refl
  where
    g : Generation
    g = (life config h e).generation

    go : (o : Option ℕ) → last_next g actor ≡ o → if_pending (entry ∷ h) o ≡ if_pending h o
    go None q = refl
    go (Some t) q = ap (λ (b : Bool). if b then Some t else None) (pending_cons entry h t (λ same. omega (arith, same, below)) ∙ both (pending h t))
      where
        below : t < length h
        below = last_below (length h) g actor (generation_below config h e) t q

        none : answer_in entry.answers t ≡ None
        none =
            quiet_here rule config h entry e t w c below
            (poll_home rule config h t e l (last_here e h g actor t (generation_here rule config h e l) (generation_part config h e) q))

        both : (b : Bool) → (b && is_none (answer_in entry.answers t)) ≡ b
        both true = ap is_none none
        both false = refl

members_elsewhere : (rule : Rule) (config : Config) (h : List Entry) (entry : Entry) (e : ℕ) → IsLegalBy rule config h
    → FollowsBy rule config h entry → concerns h e entry ≡ false
    → members (entry ∷ h) (life config h e).generation ≡ members h (life config h e).generation
unfolding members
members_elsewhere rule config h entry e l w c = map_same (member (entry ∷ h) g) (member h g) each (extensions g)
  where
    g : Generation
    g = (life config h e).generation

    each : (x : Extension) → member (entry ∷ h) g x ≡ member h g x
    each x =
        λ i. record { extension = x; next = parked_elsewhere rule config h entry e (TheExtension x.count) l w c i; told = told g x.count; again = asked_again g x.count; exited = exited g x.count }

-- the request count of what is at hand
request_elsewhere : (rule : Rule) (config : Config) (h : List Entry) (entry : Entry) (e : ℕ) → IsLegalBy rule config h
    → FollowsBy rule config h entry → concerns h e entry ≡ false
    → request_at config (entry ∷ h) e (at_hand (phase config h e)) ≡ request_at config h e (at_hand (phase config h e))
request_elsewhere rule config h entry e l w c = go (at_hand (phase config h e)) refl
  where
    go : (o : Option ℕ) → at_hand (phase config h e) ≡ o → request_at config (entry ∷ h) e o ≡ request_at config h e o
    go None q = refl
    go (Some p) q = rw (same_pending, same_upto) refl
      where
        k : IsHeld h e p
        k = held_by rule config h e p l q

        at : home h p ≡ Some e
        at = placed (place_of h p) (k.placed)
          where
            placed : (o : Option ℕ) → is_number o e ≡ true → or_else o (env_of (call_of h p)) ≡ Some e
            placed None r = absurd (true≢false (sym r))
            placed (Some d) r = ap (λ (n : ℕ). Some n) (eqb-true d e r)

        both : (b : Bool) (a : Option Answer) → a ≡ None → (b && is_none a) ≡ b
        both true None r = refl
        both false None r = refl
        both b (Some a) r = absurd (some-none r)

        same_pending : pending (entry ∷ h) p ≡ pending h p
        same_pending =
            pending_cons entry h p (let lt : p < length h = k.older in omega (arith, lt))
            ∙ both (pending h p) (answer_in entry.answers p) (quiet_here rule config h entry e p w c (k.older) at)

        same_upto : upto (entry ∷ h) p ≡ upto h p
        same_upto = let yes : ltb p (length h) ≡ true = grind (arith, nat_tests, k.older) in rw yes refl

not_stop : (h : List Entry) (call : Call) (e : ℕ) → names h e call ≡ false → is_stop call ≡ false
not_stop h Stop e q = absurd (true≢false q)
not_stop h call e q = refl

pub not_named : (h : List Entry) (call : Call) (e : ℕ) → names h e call ≡ false → is_number (env_of call) e ≡ false
not_named h Stop e q = refl
not_named h (Withdraw t) e q = refl
not_named h call e q = q

-- no pair of the list is counted
uncounted : (p : ℕ × Answer → Bool) (pairs : List (ℕ × Answer)) → ((a : ℕ × Answer) → is_some (answer_in pairs a.0) ≡ true → p a ≡ false) → count_by p pairs ≡ 0
uncounted p [] e = refl
uncounted p (a ∷ rest) e =
    let none : p a ≡ false = e a (here a rest) in let less : count_by p rest ≡ 0 = uncounted p rest (λ b q. e b (there b q)) in sum_by-cons (λ (b : ℕ × Answer). cond (p b) 1 0) a rest ∙ rw none (omega (arith, less))
  where
    here : (a : ℕ × Answer) (rest : List (ℕ × Answer)) → is_some (answer_in (a ∷ rest) a.0) ≡ true
    here a rest = rw (eqb-self a.0) refl

    there : (b : ℕ × Answer) → is_some (answer_in rest b.0) ≡ true → is_some (if a.0 == b.0 then Some a.1 else answer_in rest b.0) ≡ true
    there b q = go (a.0 == b.0)
      where
        go : (c : Bool) → is_some (if c then Some a.1 else answer_in rest b.0) ≡ true
        go true = refl
        go false = q

pub env_place : (config : Config) (h : List Entry) (call : Call) (d : ℕ) → env_of call ≡ Some d → place_for config h call ≡ None
env_place config h (Invoke f qualified trace body) d q = absurd (some-none (sym q))
env_place config h call d q = refl

-- the environment of a call that names one
pub env_home : (rule : Rule) (config : Config) (h : List Entry) (t d : ℕ) → IsLegalBy rule config h → env_of (call_of h t) ≡ Some d → home h t ≡ Some d
env_home rule config h t d l q = rw (placed h l q, q) refl
  where
    placed : (h : List Entry) → IsLegalBy rule config h → env_of (call_of h t) ≡ Some d → place_of h t ≡ None
    placed [] l q = refl
    placed (entry ∷ h) l q = go (t == length h) (placed h l.0) q
      where
        go : (b : Bool) → (env_of (call_of h t) ≡ Some d → place_of h t ≡ None)
            → env_of (if b then entry.call else call_of h t) ≡ Some d → (if b then entry.place else place_of h t) ≡ None
        go true ih r = l.1.place ∙ env_place config h entry.call d r
        go false ih r = ih r

-- no event is told at an environment that the entry doesn't concern
events_elsewhere : (rule : Rule) (config : Config) (h : List Entry) (entry : Entry) (e : ℕ) → IsLegalBy rule config h
    → FollowsBy rule config h entry → concerns h e entry ≡ false → events_in (entry ∷ h) e entry.answers ≡ 0
events_elsewhere rule config h entry e l w c = uncounted (λ a. is_event a.1 && is_number (env_of (call_of (entry ∷ h) a.0)) e) entry.answers each
  where
    older : (t : ℕ) (b : Bool) → is_number (env_of (call_of h t)) e ≡ b → t < length h → is_some (answer_in entry.answers t) ≡ true → b ≡ false
    older t false q lt r = refl
    older t true q lt r =
        absurd
        (true≢false (sym r ∙ ap is_some (quiet_here rule config h entry e t w c lt (env_home rule config h t e l (number_some (env_of (call_of h t)) e q)))))

    at : (t : ℕ) → is_some (answer_in entry.answers t) ≡ true → is_number (env_of (call_of (entry ∷ h) t)) e ≡ false
    at t r = elim (cases_lt t (length h)) [
      | inl lt ↦ rw (eqb-other t (length h) (let less : t < length h = lt in omega (arith, less))) (older t (is_number (env_of (call_of h t)) e) refl lt r)
      | inr ge ↦ elim (cases_lt (length h) t) [
        | inl past ↦ absurd (true≢false (sym r ∙ ap is_some (ap (λ xs. answer_in xs t) (w.answers) ∙ answers_past config h entry.moment entry.call t past)))
        | inr le ↦ let same : t ≡ length h =
            omega (arith, ge, le) in rw (same, eqb-self (length h)) (not_named h entry.call e ((or_parts (is_number entry.place e) (names h e entry.call) c).1))
      ]
    ]

    each : (a : ℕ × Answer) → is_some (answer_in entry.answers a.0) ≡ true → (is_event a.1 && is_number (env_of (call_of (entry ∷ h) a.0)) e) ≡ false
    each a r = rw (at a.0 r) (and_false (is_event a.1))

registrations_elsewhere : (h : List Entry) (entry : Entry) (e : ℕ) → concerns h e entry ≡ false → registrations (entry ∷ h) e ≡ registrations h e
registrations_elsewhere h entry e c =
    sum_by-cons (λ (taken : ℕ × Entry). cond (is_number (env_of taken.1.call) e && is_registered (answer_in taken.1.answers taken.0)) 1 0) (length h, entry) (with_tickets h)
    ∙ rw no (omega arith)
  where
    no : is_number (env_of entry.call) e ≡ false
    no = not_named h entry.call e ((or_parts (is_number entry.place e) (names h e entry.call) c).1)

-- An entry that doesn't concern an environment leaves its stand.
pub stand_elsewhere : (rule : Rule) (config : Config) (h : List Entry) (entry : Entry) (e : ℕ) → IsLegalBy rule config h
    → FollowsBy rule config h entry → concerns h e entry ≡ false → stand config (entry ∷ h) e ≡ stand config h e
unfolding seen
stand_elsewhere rule config h entry e l w c = ap (seen config (entry ∷ h) e) (life_elsewhere config h entry e c) ∙ (λ i. record {
  phase = phase config h e;
  runtime = parked_elsewhere rule config h entry e TheRuntime l w c i;
  members = members_elsewhere rule config h entry e l w c i;
  request = request_elsewhere rule config h entry e l w c i;
  stopped = no_stop i || stopped h;
  registrations = registrations_elsewhere h entry e c i;
  events = (events_elsewhere rule config h entry e l w c i) + events h e;
}) ∙ (λ i. record (seen config h e (life config h e)) { events = zero_left (events h e) i })
  where
    no_stop : is_stop entry.call ≡ false
    no_stop = not_stop h entry.call e ((or_parts (is_number entry.place e) (names h e entry.call) c).1)

    zero_left : (n : ℕ) → 0 + n ≡ n
    zero_left n = omega arith

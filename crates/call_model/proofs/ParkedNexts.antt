-- A pending Next stands only on a Starting, Idle or Busy environment, at most one per actor.
use Rattle.std.proofs.Common.{◌≡◌, ℕ, true, List, Some, ◌∷◌, Option, None, ◌==◌, Bool, [], refl, ap, ◌||◌, map, false}
use Rattle.std.proofs.Common.{if◌then◌else◌, not, ◌&&◌, length, sym, ◌∙◌, true≢false, ◌≤◌, ◌≢◌, is_some, ◌+◌, arith}
use Rattle.std.proofs.Common.{◌<◌, subst, is_none}
use Rattle.std.proofs.lemmas.Bool.{or_right, eq-eqb, eqb-true}
use Rattle.std.specs.List.{list_any, cons_option, find}
use Rattle.call_types.specs.declared.answer.Phase.{Phase}
use Rattle.call_types.specs.declared.call.Call.{Call}
use Rattle.call_types.specs.declared.call.Call.TheVariants.{RuntimeNext, ExtNext, Invoke}
use Rattle.call_types.specs.declared.call.Entry.{Entry}
use Rattle.arn_ids.specs.declared.config.Config.{Config}
use Rattle.call_model.specs.History.{answer_in, or_else, pending, call_of, poll_env}
use Rattle.call_model.specs.Generation.{Actor, TheExtension, last_next, Generation, Extension, extensions}
use Rattle.call_model.specs.Generation.{as_registered, member, has_count, Member, hears_end, TheRuntime, asks}
use Rattle.call_model.specs.Generation.{reports_exit, members}
use Rattle.call_model.specs.Stand.{Stand, is_known, RuntimePoll, ExtensionPoll, is_number, role}
use Rattle.call_model.specs.Table.{own_answer, Cell, next_in_closing, row, told_once, refused_container, unknown, parks as parks_cell, closes}
use Rattle.call_model.specs.Life.{life, phase, stand, concerns, names, seen, Lifecycle}
use Rattle.call_model.specs.Limits.{place_for}
use Rattle.call_model.specs.Answers.{first_answer, first_entry, second_answer, home, own_first}
use Rattle.call_model.specs.Next.{Follows, IsLegal}
use Rattle.call_model.proofs.Pairs.{eqb-other}
use Rattle.call_model.proofs.Basics.{some-none, eqb-self, and_left}
use Rattle.call_model.proofs.Roles.{role_runtime}
use Rattle.call_types.specs.declared.answer.Answer.{Answer}
use Rattle.call_types.specs.declared.answer.Answer.TheVariants.{Ending, Refused}
use Rattle.call_types.specs.declared.answer.Rejection.TheVariants.{Container}
use Rattle.call_types.specs.declared.answer.Reason.{Reason}
use Rattle.call_types.specs.declared.answer.Phase.TheVariants.{Closing}
use Rattle.call_model.specs.Polls.{at_close, replaced, by_role}
use Rattle.call_model.specs.Laws.{is_open}
use Rattle.call_model.proofs.Once.{answers_at, pending_cons, none_given}
use Rattle.call_model.proofs.Scans.{generation_below, last_below}
use Rattle.call_model.proofs.Elsewhere.{life_elsewhere}
use Rattle.call_model.proofs.Cells.{in_row, of_row, next_closes, ext_next_closes}
use Rattle.std.proofs.lemmas.Option.{same_Some}
use Rattle.call_model.proofs.ParkedRoles.{is_member, parked_is, extension_role}
use Rattle.call_model.proofs.NextsHome.{next_home}
use Rattle.call_model.proofs.OpenStays.{open_step}

-- the environment and the actor of a Next
abbrev pub poll_of : Call → Option (ℕ × Actor)
poll_of (RuntimeNext e) = Some (e, TheRuntime)
poll_of (ExtNext e x) = Some (e, TheExtension x)
poll_of _ = None

pub some_actor : (call : Call) (e : ℕ) → poll_env call ≡ Some e → (actor : Actor) × (poll_of call ≡ Some (e, actor))
some_actor (RuntimeNext d) e p = (TheRuntime, ap (λ (n : ℕ). Some (n, TheRuntime)) (same_Some d e p))
some_actor (ExtNext d y) e p = (TheExtension y, ap (λ (n : ℕ). Some (n, TheExtension y)) (same_Some d e p))
some_actor call e p = absurd (some-none (sym p))

pub polled_by : (call : Call) (e : ℕ) (actor : Actor) → poll_env call ≡ Some e → asks actor call ≡ true → poll_of call ≡ Some (e, actor)
polled_by (RuntimeNext d) e TheRuntime p a = ap (λ (n : ℕ). Some (n, TheRuntime)) (same_Some d e p)
polled_by (RuntimeNext d) e (TheExtension x) p a = absurd (true≢false (sym a))
polled_by (ExtNext d y) e TheRuntime p a = absurd (true≢false (sym a))
polled_by (ExtNext d y) e (TheExtension x) p a =
    ap (λ (n : ℕ). Some (n, TheExtension y)) (same_Some d e p) ∙ ap (λ (n : ℕ). Some (e, TheExtension n)) (eqb-true y x a)
polled_by call e actor p a = absurd (some-none (sym p))

-- a pending Next of an actor
pub record IsStanding (config : Config) (h : List Entry) (e t : ℕ) (actor : Actor) : Type 0 where
  pub opened : is_open (phase config h e) ≡ true
  pub last : last_next (life config h e).generation actor ≡ Some t
  pub known : (x : ℕ) → actor ≡ TheExtension x → is_member (life config h e).generation x ≡ true

member_more : (taken : ℕ × Entry) (g : Generation) (x : ℕ) → is_member g x ≡ true → is_member (taken ∷ g) x ≡ true
member_more taken g x k = go (as_registered taken.1.call (answer_in taken.1.answers taken.0))
  where
    go : (o : Option Extension) → list_any (λ y. y.count == x) (cons_option o (extensions g)) ≡ true
    go None = k
    go (Some y) = or_right (y.count == x) (list_any (λ y. y.count == x) (extensions g)) k

-- what is known at an environment is an extension of its generation
known_member : (h : List Entry) (g : Generation) (x : ℕ) (ys : List Extension) → list_any (has_count x) (map (member h g) ys) ≡ list_any (λ y. y.count == x) ys
known_member h g x [] = refl
known_member h g x (y ∷ ys) = ap (λ (b : Bool). (y.count == x) || b) (known_member h g x ys)

-- a Next that parks finds its environment open, and its actor there
runtime_parks : (s : Stand) (e : ℕ) → own_answer s (RuntimeNext e) ≡ None → is_open s.phase ≡ true
unfolding own_answer
runtime_parks s e q =
    in_row (λ P (cell : Cell). cell.own ≡ None → is_open P ≡ true) s _ _ _ _ _ _ (λ d b r. refl) (λ r. refl)
    (λ p d r. refl) (λ p d r. refl) (λ reason until b r. absurd (some-none r)) (λ r. absurd (some-none r)) q

extension_parks : (s : Stand) (e x : ℕ) → own_answer s (ExtNext e x) ≡ None → (is_open s.phase ≡ true) × (is_known s x ≡ true)
unfolding own_answer
extension_parks s e x q = go (is_known s x) refl q
  where
    closing : (o : Option Member) (P : Phase) → next_in_closing o P ≡ None → ⊥
    closing (Some y) (Closing reason until b) r = two (hears_end y && not y.told) r
      where
        two : (c : Bool) → (if c then Some (Ending reason until 0) else Some (Refused Container)) ≡ None → ⊥
        two true r = some-none r
        two false r = some-none r
    closing None P r = some-none r
    closing (Some y) P r = some-none r

    go : (b : Bool) → is_known s x ≡ b
        → (if b then row s parks_cell parks_cell parks_cell parks_cell (told_once s x) refused_container else row s unknown unknown unknown unknown unknown refused_container).own ≡ None
        → (is_open s.phase ≡ true) × (is_known s x ≡ true)
    go true k r = (
      in_row (λ P (cell : Cell). cell.own ≡ None → is_open P ≡ true) s _ _ _ _ _ _ (λ d b w. refl) (λ w. refl)
          (λ p d w. refl) (λ p d w. refl)
          (λ reason until b w. absurd (closing (find (has_count x) s.members) s.phase w)) (λ w. absurd (some-none w)) r,
      k,
    )
    go false k r =
        absurd
        (of_row (λ (cell : Cell). cell.own ≡ None → ⊥) s _ _ _ _ _ _ (λ w. some-none w) (λ w. some-none w) (λ w. some-none w) (λ w. some-none w) (λ w. some-none w) (λ w. some-none w) r)

first_none : (config : Config) (h : List Entry) (entry : Entry) (t : ℕ) → Follows config h entry → t ≤ length h
    → answer_in entry.answers t ≡ None → first_answer config h entry.moment entry.call t ≡ None
first_none config h entry t w le q =
    go (first_answer config h entry.moment entry.call t)
    (sym (answers_at config h entry.moment entry.call t le) ∙ ap is_some (ap (λ (xs : List (ℕ × Answer)). answer_in xs t) (sym (w.answers)) ∙ q))
  where
    go : (a : Option Answer) → is_some (or_else a (second_answer config h (first_entry config h entry.moment entry.call) t)) ≡ false → a ≡ None
    go None r = refl
    go (Some a) r = absurd (true≢false r)

or_none : (a b : Option Answer) → or_else a b ≡ None → (a ≡ None) × (b ≡ None)
or_none None b q = (refl, q)
or_none (Some a) b q = absurd (some-none q)

-- a poll that a call leaves pending: nothing closed, and its actor did not ask again
runtime_left : (own now : ℕ) (s : Stand) (call : Call) (t : ℕ) → by_role own now s call t RuntimePoll ≡ None
    → (closes s call ≡ None) × (asks TheRuntime call ≡ false)
runtime_left own now s call t q =
    let k : (at_close now (closes s call) call RuntimePoll ≡ None) × (replaced t call RuntimePoll ≡ None) = or_none (at_close now (closes s call) call RuntimePoll) (replaced t call RuntimePoll) q in
    (shut (closes s call) k.0, other call k.1)
  where
    shut : (c : Option Reason) → at_close now c call RuntimePoll ≡ None → c ≡ None
    shut None r = refl
    shut (Some reason) r = absurd (some-none r)

    other : (call : Call) → replaced t call RuntimePoll ≡ None → asks TheRuntime call ≡ false
    other (RuntimeNext e) r = absurd (some-none r)
    other call r = refl

extension_left : (own now : ℕ) (s : Stand) (call : Call) (t : ℕ) (y : Member)
    → by_role own now s call t (ExtensionPoll y) ≡ None
    → (closes s call ≡ None) × (asks (TheExtension y.extension.count) call ≡ false)
extension_left own now s call t y q =
    let k : (at_close now (closes s call) call (ExtensionPoll y) ≡ None) × (replaced t call (ExtensionPoll y) ≡ None) = or_none (at_close now (closes s call) call (ExtensionPoll y)) (replaced t call (ExtensionPoll y)) q in
    (shut (closes s call) k.0, other call k.1)
  where
    two : (reason : Reason) (b : Bool) → (if b then Some (Ending reason (now + 2000) 0) else Some (Refused Container)) ≡ None → ⊥
    two reason true r = some-none r
    two reason false r = some-none r

    shut : (c : Option Reason) → at_close now c call (ExtensionPoll y) ≡ None → c ≡ None
    shut None r = refl
    shut (Some reason) r = absurd (two reason (hears_end y && not (reports_exit y.extension.count call)) r)

    differ : (a b : ℕ) → (a == b) ≡ false → (b == a) ≡ false
    differ a b k = eqb-other b a (λ e. true≢false (sym (eq-eqb a b (sym e)) ∙ k))

    same_count : (x : ℕ) (b : Bool) → (y.extension.count == x) ≡ b
        → (if b then Some (Refused Rattle.call_types.specs.declared.answer.Rejection.TheVariants.Replaced) else None) ≡ None
        → (x == y.extension.count) ≡ false
    same_count x true k r = absurd (some-none r)
    same_count x false k r = differ y.extension.count x k

    other : (call : Call) → replaced t call (ExtensionPoll y) ≡ None → asks (TheExtension y.extension.count) call ≡ false
    other (ExtNext e x) r = same_count x (y.extension.count == x) refl r
    other call r = refl

-- an entry that leaves a standing Next pending
stands_still : (config : Config) (h : List Entry) (entry : Entry) (e t : ℕ) (actor : Actor) → IsLegal config h
    → Follows config h entry → IsStanding config h e t actor → pending h t ≡ true → t < length h
    → first_answer config h entry.moment entry.call t ≡ None → concerns h e entry ≡ true
    → (closes (stand config h e) entry.call ≡ None) × (asks actor entry.call ≡ false)
unfolding first_answer closes
stands_still config h entry e t actor l w s pend lt none c = go (names h e entry.call) refl
  where
    s_at : Stand
    s_at = stand config h e

    at_home : home h t ≡ Some e
    at_home = next_home config h e actor t l (s.last)

    given : names h e entry.call ≡ true → by_role (length h) entry.moment s_at entry.call t (role s_at t) ≡ None
    given n = rw (eqb-other t (length h) (omega (arith, lt)), at_home, n) at none

    by_actor : (actor' : Actor) → actor ≡ actor'
        → by_role (length h) entry.moment s_at entry.call t (role s_at t) ≡ None
        → (closes s_at entry.call ≡ None) × (asks actor' entry.call ≡ false)
    by_actor TheRuntime same q =
        runtime_left (length h) entry.moment s_at entry.call t
        (ap (by_role (length h) entry.moment s_at entry.call t) (sym (role_runtime config h e t l (parked_is h (life config h e).generation TheRuntime t (ap (last_next (life config h e).generation) (sym same) ∙ s.last) pend))) ∙ q)
    by_actor (TheExtension x) same q =
        made
        (extension_role config h e x t l (parked_is h (life config h e).generation (TheExtension x) t (ap (last_next (life config h e).generation) (sym same) ∙ s.last) pend) (s.known x same))
      where
        made : (y : Member) × ((role (stand config h e) t ≡ ExtensionPoll y) × (y.extension.count ≡ x))
            → (closes s_at entry.call ≡ None) × (asks (TheExtension x) entry.call ≡ false)
        made y =
            let k : (closes s_at entry.call ≡ None) × (asks (TheExtension (y.0).extension.count) entry.call ≡ false) = extension_left (length h) entry.moment s_at entry.call t (y.0) (ap (by_role (length h) entry.moment s_at entry.call t) (sym (y.1.0)) ∙ q) in
            (k.0, ap (λ (n : ℕ). asks (TheExtension n) entry.call) (sym (y.1.1)) ∙ k.1)

    quiet : (call : Call) (actor' : Actor) → names h e call ≡ false
        → (is_number (place_for config h call) e || names h e call) ≡ true
        → (closes s_at call ≡ None) × (asks actor' call ≡ false)
    quiet (Invoke f qualified trace body) TheRuntime n k = (refl, refl)
    quiet (Invoke f qualified trace body) (TheExtension x) n k = (refl, refl)
    quiet call actor' n k = absurd (true≢false (sym k ∙ n))

    go : (b : Bool) → names h e entry.call ≡ b → (closes s_at entry.call ≡ None) × (asks actor entry.call ≡ false)
    go true n = by_actor actor refl (given n)
    go false n = quiet entry.call actor n (ap (λ (o : Option ℕ). is_number o e || names h e entry.call) (sym (w.place)) ∙ c)

poll_asks : (call : Call) (e : ℕ) (actor : Actor) → poll_of call ≡ Some (e, actor) → asks actor call ≡ true
poll_asks (RuntimeNext d) e actor q = subst (λ (b : ℕ × Actor). asks b.1 (RuntimeNext d) ≡ true) (same_Some (d, TheRuntime) (e, actor) q) refl
poll_asks (ExtNext d y) e actor q = subst (λ (b : ℕ × Actor). asks b.1 (ExtNext d y) ≡ true) (same_Some (d, TheExtension y) (e, actor) q) (eqb-self y)
poll_asks call e actor q = absurd (some-none (sym q))

-- what a Next that parks finds
record Parks (config : Config) (h : List Entry) (e : ℕ) (actor : Actor) (call : Call) : Type 0 where
  pub opened : is_open (phase config h e) ≡ true
  pub quiet : closes (stand config h e) call ≡ None
  pub named : names h e call ≡ true
  pub known : (x : ℕ) → actor ≡ TheExtension x → is_member (life config h e).generation x ≡ true

parks : (config : Config) (h : List Entry) (e : ℕ) (actor : Actor) (call : Call) → poll_of call ≡ Some (e, actor)
    → own_first config h call ≡ None → Parks config h e actor call
unfolding own_first seen members
parks config h e actor (RuntimeNext d) q k =
    subst (λ (b : ℕ × Actor). Parks config h b.0 b.1 (RuntimeNext d)) (same_Some (d, TheRuntime) (e, actor) q) (record {
      opened = runtime_parks (stand config h d) d k;
      quiet = next_closes (stand config h d) d;
      named = eqb-self d;
      known = λ x same. absurd (differ x same);
    })
  where
    differ : (x : ℕ) → TheRuntime ≡ TheExtension x → ⊥
    differ x r = cc
parks config h e actor (ExtNext d y) q k =
    subst (λ (b : ℕ × Actor). Parks config h b.0 b.1 (ExtNext d y)) (same_Some (d, TheExtension y) (e, actor) q) (record {
      opened = (extension_parks (stand config h d) d y k).0;
      quiet = ext_next_closes (stand config h d) d y;
      named = eqb-self d;
      known =
          λ x same. ap (λ (n : ℕ). is_member (life config h d).generation n) (sym (same_count x same))
          ∙ (sym (known_member h (life config h d).generation y (extensions (life config h d).generation)) ∙ (extension_parks (stand config h d) d y k).1);
    })
  where
    same_count : (x : ℕ) → TheExtension y ≡ TheExtension x → y ≡ x
    same_count x r = cc
parks config h e actor call q k = absurd (some-none (sym q))

own_none : (config : Config) (h : List Entry) (entry : Entry) → Follows config h entry
    → answer_in entry.answers (length h) ≡ None → own_first config h entry.call ≡ None
unfolding first_answer
own_none config h entry w q = rw (eqb-self (length h)) at (first_none config h entry (length h) w (omega arith) q)

-- A pending Next is its actor's last one, and its environment is open.
pub standing : (config : Config) (h : List Entry) (e t : ℕ) (actor : Actor) → IsLegal config h
    → poll_of (call_of h t) ≡ Some (e, actor) → pending h t ≡ true → IsStanding config h e t actor
standing config [] e t actor l q w = absurd (some-none (sym q))
standing config (entry ∷ h) e t actor l q w = go (t == length h) refl (standing config h e t actor l.0)
  where
    g : Generation
    g = (life config h e).generation

    none : answer_in entry.answers t ≡ None
    none = none_given entry h t w

    -- where the environment stays open
    going : {u : ℕ}
        → (is_open (phase config (entry ∷ h) e) ≡ true) × ((life config (entry ∷ h) e).generation ≡ ((length h, entry) ∷ g))
        → last_next ((length h, entry) ∷ g) actor ≡ Some u → ((x : ℕ) → actor ≡ TheExtension x → is_member g x ≡ true)
        → IsStanding config (entry ∷ h) e u actor
    going o k m = record {
      opened = o.0;
      last = ap (λ (g : Generation). last_next g actor) o.1 ∙ k;
      known = λ x same. ap (λ (g : Generation). is_member g x) o.1 ∙ member_more (length h, entry) g x (m x same);
    }

    named_concerns : names h e entry.call ≡ true → concerns h e entry ≡ true
    named_concerns n = or_right (is_number entry.place e) (names h e entry.call) n

    new : t ≡ length h → poll_of entry.call ≡ Some (e, actor) → IsStanding config (entry ∷ h) e t actor
    new at p =
        let k : Parks config h e actor entry.call = parks config h e actor entry.call p (own_none config h entry l.1 (ap (answer_in entry.answers) (sym at) ∙ none)) in
        subst (λ (n : ℕ). IsStanding config (entry ∷ h) e n actor) (sym at)
        (going (open_step config h entry e (named_concerns k.named) k.opened k.quiet) (ap (λ (b : Bool). if b then Some (length h) else last_next g actor) (poll_asks entry.call e actor p)) k.known)

    old : t ≢ length h → (poll_of (call_of h t) ≡ Some (e, actor))
        → (poll_of (call_of h t) ≡ Some (e, actor) → pending h t ≡ true → IsStanding config h e t actor)
        → IsStanding config (entry ∷ h) e t actor
    old ne p ih = by_concern (concerns h e entry) refl
      where
        was : pending h t ≡ true
        was = and_left (pending h t) (is_none (answer_in entry.answers t)) (sym (pending_cons entry h t ne) ∙ w)

        s : IsStanding config h e t actor
        s = ih p was

        below : t < length h
        below = last_below (length h) (life config h e).generation actor (generation_below config h e) t (s.last)

        by_concern : (c : Bool) → concerns h e entry ≡ c → IsStanding config (entry ∷ h) e t actor
        by_concern false c =
            let same : life config (entry ∷ h) e ≡ life config h e = life_elsewhere config h entry e c in
            record {
              opened = ap (λ (x : Lifecycle). is_open x.phase) same ∙ s.opened;
              last = ap (λ (x : Lifecycle). last_next x.generation actor) same ∙ s.last;
              known = λ x r. ap (λ (y : Lifecycle). is_member y.generation x) same ∙ s.known x r;
            }
        by_concern true c =
            let k : (closes (stand config h e) entry.call ≡ None) × (asks actor entry.call ≡ false) = stands_still config h entry e t actor l.0 l.1 s was below (first_none config h entry t l.1 (omega (arith, below)) none) c in
            going (open_step config h entry e c (s.opened) k.0) (ap (λ (b : Bool). if b then Some (length h) else last_next g actor) k.1 ∙ s.last) (s.known)

    go : (b : Bool) → (t == length h) ≡ b
        → (poll_of (call_of h t) ≡ Some (e, actor) → pending h t ≡ true → IsStanding config h e t actor)
        → IsStanding config (entry ∷ h) e t actor
    go true b ih = new (eqb-true t (length h) b) (rw b at q)
    go false b ih = old (λ same. true≢false (sym (eq-eqb t (length h) same) ∙ b)) (rw b at q) ih

-- At most one Next of an actor is pending.
pub one_standing : (config : Config) (h : List Entry) (e t u : ℕ) (actor : Actor) → IsLegal config h
    → poll_of (call_of h t) ≡ Some (e, actor) → pending h t ≡ true → poll_of (call_of h u) ≡ Some (e, actor)
    → pending h u ≡ true → t ≡ u
one_standing config h e t u actor l p w q v = same_Some t u (sym ((standing config h e t actor l p w).last) ∙ (standing config h e u actor l q v).last)

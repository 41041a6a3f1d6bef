-- An invocation is delivered at most once.
use Rattle.call_model.proofs.BoundWaits as W
use Rattle.std.proofs.Common.{◌≡◌, ℕ, true, false, List, length, Option, Some, None, sym, ap, ◌∙◌, true≢false, inl, inr}
use Rattle.std.proofs.Common.{arith, ◌∷◌, refl, Bool, if◌then◌else◌, subst, suc, ◌+◌, ◌<◌, ◌≤◌, [], count_by, ◌⊎◌, zero}
use Rattle.std.proofs.Common.{cond, nat_le}
use Rattle.std.specs.List.{find}
use Rattle.call_types.specs.declared.answer.Answer.{Answer}
use Rattle.call_types.specs.declared.answer.Answer.TheVariants.{Told}
use Rattle.call_types.specs.declared.answer.Phase.{Phase}
use Rattle.call_types.specs.declared.answer.Phase.TheVariants.{Starting, Idle, Busy, Closing, Off}
use Rattle.call_types.specs.declared.call.Call.{Call}
use Rattle.call_types.specs.declared.call.Entry.{Entry}
use Rattle.arn_ids.specs.declared.config.Config.{Config}
use Rattle.call_model.specs.History.{or_else, answer_in, place_of}
use Rattle.call_model.specs.Generation.{Member}
use Rattle.call_model.specs.Stand.{is_busy, Stand, is_number, role, Waiting, RuntimePoll, member_role, waits_as, Role, NoRole, ExtensionPoll, bound_of}
use Rattle.call_model.specs.Table.{closes, kept}
use Rattle.call_model.specs.Polls.{begun, delivered}
use Rattle.call_model.specs.Life.{stand, phase, Lifecycle, seen, concerns, limit_of}
use Rattle.call_model.specs.Limits.{is_busy_with, or_zero}
use Rattle.call_model.specs.Answers.{answer_to, first_answers, first_entry, second_answer, home, second_at, answers, each_from}
use Rattle.std.proofs.lemmas.Bool.{cases_lt, eq-eqb, eqb-true}
use Rattle.call_model.specs.Laws.{delivers, deliveries}
use Rattle.call_model.specs.Next.{Follows, IsLegal}
use Rattle.call_model.proofs.Once.{fresh}
use Rattle.call_model.proofs.AtHand.{from_entry, busy_at_hand, at_hand_is, IsHeld, held, bound_at_hand}
use Rattle.call_model.proofs.Scans.{legal_silent}
use Rattle.call_model.proofs.PhaseStep.{phase_step, cell_of}
use Rattle.call_model.proofs.FirstPhase.{first_in, first_past, phase_first}
use Rattle.call_model.proofs.Basics.{some-none, number_some}
use Rattle.call_model.proofs.Elsewhere.{life_elsewhere}
use Rattle.call_model.proofs.FirstAnswers.{second, first_first}
use Rattle.call_model.proofs.GivenCounts.{gives, gives_second, count_numbered, given_each, count_each}

-- a ticket is given an invocation only by a second answer
to_second : (config : Config) (h : List Entry) (now : ℕ) (call : Call) (p t : ℕ)
    → gives p (answer_to config h (first_entry config h now call) t) ≡ true
    → gives p (second_answer config h (first_entry config h now call) t) ≡ true
unfolding answer_to
to_second config h now call p t k = go (answer_in (first_answers config h now call) t) first k
  where
    first : second (answer_in (first_answers config h now call) t) ≡ false
    first = elim (cases_lt (length h) t) [
      | inl lt ↦ ap second (first_past config h now call t lt)
      | inr ge ↦ ap second (first_in config h now call t (omega (arith, ge))) ∙ first_first config h now call t
    ]

    go : (a : Option Answer) → second a ≡ false
        → gives p (or_else a (second_answer config h (first_entry config h now call) t)) ≡ true
        → gives p (second_answer config h (first_entry config h now call) t) ≡ true
    go None q r = r
    go (Some a) q r = absurd (true≢false (sym (gives_second p (Some a) r) ∙ q))

-- an environment where the Busy of the invocation begins, with the runtime's poll that gets it
pub record IsBegun (config : Config) (h : List Entry) (entry : Entry) (p t : ℕ) : Type 0 where
  pub env : ℕ
  pub before : is_busy (phase config h env) ≡ false
  pub busy : is_busy_with (phase config (entry ∷ h) env) p ≡ true
  pub runtime : (stand config (entry ∷ h) env).runtime ≡ Some t

from_begun : (P Q : Phase) (b : ℕ × ℕ) → begun P Q ≡ Some b → (is_busy P ≡ false) × (is_busy_with Q b.0 ≡ true)
from_begun (Busy q d) Q b e = absurd (some-none (sym e))
from_begun (Starting d k) (Busy p m) b e = (refl, eq-eqb p b.0 cc)
from_begun Idle (Busy p m) b e = (refl, eq-eqb p b.0 cc)
from_begun (Closing reason until k) (Busy p m) b e = (refl, eq-eqb p b.0 cc)
from_begun Off (Busy p m) b e = (refl, eq-eqb p b.0 cc)
from_begun P Q b e = absurd (some-none (sym e))

poll_number : (s : Stand) (t : ℕ) → role s t ≡ RuntimePoll → s.runtime ≡ Some t
unfolding role
poll_number s t q = go (waits_as s t) (is_number s.runtime t) refl q
  where
    no_waiting : Waiting ≡ RuntimePoll → ⊥
    no_waiting q = cc

    no_member : (o : Option Member) → member_role o ≡ RuntimePoll → ⊥
    no_member None q = cc
    no_member (Some x) q = cc

    go : (a b : Bool) → is_number s.runtime t ≡ b
        → (if a then Waiting else if b then RuntimePoll else member_role (find (λ x. is_number x.next t) s.members)) ≡ RuntimePoll
        → s.runtime ≡ Some t
    go true b k r = absurd (no_waiting r)
    go false true k r = number_some s.runtime t k
    go false false k r = absurd (no_member (find (λ x. is_number x.next t) s.members) r)

gives_poll : (p : ℕ) (o : Option (ℕ × ℕ)) (r : Role) → gives p (delivered o r) ≡ true → (r ≡ RuntimePoll) × ((b : ℕ × ℕ) × ((o ≡ Some b) × (b.0 ≡ p)))
gives_poll p (Some b) RuntimePoll q = (refl, (b, (refl, eqb-true b.0 p q)))
gives_poll p (Some b) (ExtensionPoll x) q = absurd (go (x.extension.invoke) q)
  where
    go : (c : Bool) → gives p (if c then Some (Told b.0 b.1 0) else None) ≡ true → ⊥
    go true r = true≢false (sym r)
    go false r = true≢false (sym r)
gives_poll p (Some b) NoRole q = absurd (true≢false (sym q))
gives_poll p (Some b) Waiting q = absurd (true≢false (sym q))
gives_poll p None r q = absurd (true≢false (sym q))

-- a second answer that gives an invocation
second_gives : (config : Config) (h : List Entry) (entry : Entry) (p t : ℕ) → gives p (second_answer config h entry t) ≡ true → IsBegun config h entry p t
unfolding second_answer
second_gives config h entry p t q = go (home (entry ∷ h) t) q
  where
    at_env : (e : ℕ)
        → (role (stand config (entry ∷ h) e) t ≡ RuntimePoll) × ((b : ℕ × ℕ) × ((begun (phase config h e) (phase config (entry ∷ h) e) ≡ Some b) × (b.0 ≡ p)))
        → IsBegun config h entry p t
    at_env e k = record {
      env = e;
      before = (from_begun (phase config h e) (phase config (entry ∷ h) e) (k.1.0) (k.1.1.0)).0;
      busy =
          subst (λ (n : ℕ). is_busy_with (phase config (entry ∷ h) e) n ≡ true) (k.1.1.1)
          (from_begun (phase config h e) (phase config (entry ∷ h) e) (k.1.0) (k.1.1.0)).1;
      runtime = poll_number (stand config (entry ∷ h) e) t (k.0);
    }

    go : (o : Option ℕ) → gives p (second_at config h entry t o) ≡ true → IsBegun config h entry p t
    go None r = absurd (true≢false (sym r))
    go (Some e) r = at_env e (gives_poll p (begun (phase config h e) (phase config (entry ∷ h) e)) (role (stand config (entry ∷ h) e) t) r)

-- an entry that delivers an invocation begins its Busy
pub entry_gives : (config : Config) (h : List Entry) (entry : Entry) (p : ℕ) → Follows config h entry
    → 1 ≤ count_by (λ a. delivers p a.1) entry.answers
    → (e : ℕ) × ((is_busy (phase config h e) ≡ false) × (is_busy_with (phase config (entry ∷ h) e) p ≡ true))
unfolding answers
entry_gives config h entry p w k =
    (b.env, (b.before, ap (λ (P : Phase). is_busy_with P p) (sym (phase_first config h entry b.env w)) ∙ b.busy))
  where
    first : Entry
    first = first_entry config h entry.moment entry.call

    made : 1 ≤ count_by (λ b. delivers p b.1) (each_from 0 (suc (length h)) (answer_to config h first))
    made =
        subst (λ (n : ℕ). 1 ≤ n)
        (ap (λ (xs : List (ℕ × Answer)). count_by (λ b. delivers p b.1) xs) (w.answers) ∙ count_numbered h first [] (each_from 0 (suc (length h)) (answer_to config h first)) p) k

    found : (u : ℕ) × ((u < 0 + suc (length h)) × (gives p (answer_to config h first u) ≡ true))
    found = given_each 0 (suc (length h)) p (answer_to config h first) made

    b : IsBegun config h first p (found.0)
    b = second_gives config h first p (found.0) (to_second config h entry.moment entry.call p (found.0) (found.1.1))

-- an invocation whose Busy begins was new or bound
pub begun_bound : (config : Config) (h : List Entry) (entry : Entry) (e p : ℕ) → IsLegal config (entry ∷ h)
    → is_busy (phase config h e) ≡ false → is_busy_with (phase config (entry ∷ h) e) p ≡ true
    → (length h ≡ p) ⊎ (bound_of (phase config h e) ≡ Some p)
begun_bound config h entry e p l n b = elim (from_entry config h entry e p l.0 l.1 (busy_at_hand (phase config (entry ∷ h) e) p b)) [
  | inl new ↦ inl (new.0)
  | inr old ↦ elim (at_hand_is (phase config h e) p old) [
    | inl k ↦ absurd (true≢false (sym (is_it (phase config h e) p k) ∙ n))
    | inr k ↦ inr k
  ]
]
  where
    is_it : (P : Phase) (p : ℕ) → is_busy_with P p ≡ true → is_busy P ≡ true
    is_it (Busy q d) p k = refl
    is_it P p k = absurd (true≢false (sym k))

-- a bound invocation was bound or is new
pub bound_before : (config : Config) (h : List Entry) (entry : Entry) (e p : ℕ) → IsLegal config (entry ∷ h)
    → bound_of (phase config (entry ∷ h) e) ≡ Some p → (length h ≡ p) ⊎ (bound_of (phase config h e) ≡ Some p)
unfolding seen
bound_before config h entry e p l q = go (concerns h e entry) refl
  where
    s : Stand
    s = stand config h e

    go : (c : Bool) → concerns h e entry ≡ c → (length h ≡ p) ⊎ (bound_of (phase config h e) ≡ Some p)
    go false w = inr (ap (λ (x : Lifecycle). bound_of x.phase) (sym (life_elsewhere config h entry e w)) ∙ q)
    go true w = elim (W.from_kept entry.moment (limit_of config e entry.moment) (length h) s entry.call p
        (W.from_closing entry.moment (closes s entry.call) (kept entry.moment (limit_of config e entry.moment) (length h) s entry.call) p
        (W.from_after _ _ _ _ entry.moment (limit_of config e entry.moment) (cell_of config e entry (length h) s) p (sym (ap bound_of (phase_step config h entry e w (fresh config h (length h) l.0 (omega arith)) (legal_silent config h entry l.1))) ∙ q))).1) [
          | inl new ↦ inl (new.0)
          | inr stays ↦ inr (stays.0)
        ]

busy_unbound : (P : Phase) (p q : ℕ) → is_busy_with P p ≡ true → bound_of P ≡ Some q → ⊥
busy_unbound (Busy r d) p q k e = some-none (sym e)
busy_unbound P p q k e = true≢false (sym k)

none_or_some : (n : ℕ) → (n ≡ 0) ⊎ (1 ≤ n)
none_or_some zero = inl refl
none_or_some (suc n) = inr (omega arith)

-- a delivered invocation is old and bound nowhere
pub delivered_done : (config : Config) (h : List Entry) (p : ℕ) → IsLegal config h → 1 ≤ deliveries h p
    → (p < length h) × ((e : ℕ) → bound_of (phase config h e) ≡ Some p → ⊥)
delivered_done config [] p l k = absurd (omega (arith, k))
delivered_done config (entry ∷ h) p l k = elim (none_or_some here) [
  | inl none ↦ older (delivered_done config h p l.0 (drop none k))
  | inr some ↦ newly (entry_gives config h entry p l.1 some)
]
  where
    here : ℕ
    here = count_by (λ a. delivers p a.1) entry.answers

    drop : here ≡ 0 → 1 ≤ here + deliveries h p → 1 ≤ deliveries h p
    drop a b = omega (arith, a, b)

    older : (p < length h) × ((e : ℕ) → bound_of (phase config h e) ≡ Some p → ⊥)
        → (p < suc (length h)) × ((e : ℕ) → bound_of (phase config (entry ∷ h) e) ≡ Some p → ⊥)
    older x = (
      omega (arith, x.0),
      λ e q. elim (bound_before config h entry e p l q) [
        | inl new ↦ absurd (omega (arith, x.0, new))
        | inr old ↦ x.1 e old
      ],
    )

    number_same : (o : Option ℕ) (d e : ℕ) → is_number o d ≡ true → is_number o e ≡ true → d ≡ e
    number_same None d e a b = absurd (true≢false (sym a))
    number_same (Some n) d e a b = sym (eqb-true n d a) ∙ eqb-true n e b

    newly : (d : ℕ) × ((is_busy (phase config h d) ≡ false) × (is_busy_with (phase config (entry ∷ h) d) p ≡ true))
        → (p < suc (length h)) × ((e : ℕ) → bound_of (phase config (entry ∷ h) e) ≡ Some p → ⊥)
    newly x =
        let k : IsHeld (entry ∷ h) (x.0) p = held config (entry ∷ h) (x.0) p l (busy_at_hand (phase config (entry ∷ h) (x.0)) p (x.1.1)) in (
          k.older,
          λ e q.
              busy_unbound (phase config (entry ∷ h) (x.0)) p p (x.1.1)
              (ap (λ (n : ℕ). bound_of (phase config (entry ∷ h) n)) (number_same (place_of (entry ∷ h) p) (x.0) e (k.placed) ((held config (entry ∷ h) e p l (bound_at_hand (phase config (entry ∷ h) e) p q)).placed)) ∙ q),
        )

-- an entry delivers an invocation once at most
pub entry_once : (config : Config) (h : List Entry) (entry : Entry) (p : ℕ) → IsLegal config (entry ∷ h) → count_by (λ a. delivers p a.1) entry.answers ≤ 1
unfolding answers
entry_once config h entry p l =
    subst (λ (n : ℕ). n ≤ 1)
    (sym (ap (λ (xs : List (ℕ × Answer)). count_by (λ b. delivers p b.1) xs) (l.1.answers) ∙ count_numbered h first [] (each_from 0 (suc (length h)) (answer_to config h first)) p))
    (le_one (nat_le 0 poll) (count_each 0 (suc (length h)) p poll (answer_to config h first) one))
  where
    first : Entry
    first = first_entry config h entry.moment entry.call

    poll : ℕ
    poll = or_zero (stand config (first ∷ h) (or_zero (place_of (entry ∷ h) p))).runtime

    le_one : (b : Bool) → {n : ℕ} → n ≤ cond b 1 0 → n ≤ 1
    le_one true k = k
    le_one false k = omega (arith, k)

    at_place : (o : Option ℕ) (e : ℕ) → is_number o e ≡ true → e ≡ or_zero o
    at_place None e k = absurd (true≢false (sym k))
    at_place (Some n) e k = sym (eqb-true n e k)

    is_poll : (u : ℕ) → IsBegun config h first p u → u ≡ poll
    is_poll u b =
        let busy : is_busy_with (phase config (entry ∷ h) b.env) p ≡ true = ap (λ (P : Phase). is_busy_with P p) (sym (phase_first config h entry b.env l.1)) ∙ b.busy in
        let k : IsHeld (entry ∷ h) b.env p = held config (entry ∷ h) b.env p l (busy_at_hand (phase config (entry ∷ h) b.env) p busy) in
        sym (ap (λ (e : ℕ). or_zero (stand config (first ∷ h) e).runtime) (sym (at_place (place_of (entry ∷ h) p) b.env (k.placed))) ∙ ap or_zero b.runtime)

    one : (u : ℕ) → gives p (answer_to config h first u) ≡ true → u ≡ poll
    one u q = is_poll u (second_gives config h first p u (to_second config h entry.moment entry.call p u q))

-- An invocation is delivered at most once.
pub delivered_once : (config : Config) (h : List Entry) (p : ℕ) → IsLegal config h → deliveries h p ≤ 1
delivered_once config [] p l = omega arith
delivered_once config (entry ∷ h) p l = go (none_or_some here) (none_or_some (deliveries h p)) (entry_once config h entry p l) (delivered_once config h p l.0)
  where
    here : ℕ
    here = count_by (λ a. delivers p a.1) entry.answers

    twice : 1 ≤ here → 1 ≤ deliveries h p → ⊥
    twice a b = both (entry_gives config h entry p l.1 a) (delivered_done config h p l.0 b)
      where
        both : (d : ℕ) × ((is_busy (phase config h d) ≡ false) × (is_busy_with (phase config (entry ∷ h) d) p ≡ true))
            → (p < length h) × ((e : ℕ) → bound_of (phase config h e) ≡ Some p → ⊥) → ⊥
        both x y = elim (begun_bound config h entry (x.0) p l (x.1.0) (x.1.1)) [
          | inl new ↦ omega (arith, y.0, new)
          | inr old ↦ y.1 (x.0) old
        ]

    go : (here ≡ 0) ⊎ (1 ≤ here) → (deliveries h p ≡ 0) ⊎ (1 ≤ deliveries h p) → here ≤ 1 → deliveries h p ≤ 1 → here + deliveries h p ≤ 1
    go (inl a) b c d = omega (arith, a, d)
    go (inr a) (inl b) c d = omega (arith, b, c)
    go (inr a) (inr b) c d = absurd (twice a b)

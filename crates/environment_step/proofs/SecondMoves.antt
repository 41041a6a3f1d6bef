-- The second answers at an environment, from its stand after the first.
use Rattle.std.proofs.Common.{◌≡◌, ℕ, List, [], ◌∷◌, Option, Some, None, refl, ◌∙◌, zero, suc, Bool, true, false}
use Rattle.std.proofs.Common.{length, sym, ap, is_some, ◌&&◌, filter, true≢false, if◌then◌else◌}
use Rattle.call_types.specs.declared.answer.Answer.{Answer}
use Rattle.call_model.specs.Generation.{Member, Generation}
use Rattle.call_model.specs.Stand.{Stand, ExtensionPoll, Role, NoRole, Waiting, RuntimePoll, is_number, role, member_role, waits_as, at_hand, bound_of}
use Rattle.call_model.specs.Polls.{delivered, begun}
use Rattle.environment_step.specs.After.{give, give_each, served_moves, Fixed, turned, turned_moves, closing_ends, settled_phase, restarted, settled_stand}
use Rattle.call_types.specs.declared.answer.Phase.{Phase}
use Rattle.call_types.specs.declared.answer.Phase.TheVariants.{Busy}
use Rattle.call_types.specs.declared.call.Call.{Call}
use Rattle.call_types.specs.declared.call.Entry.{Entry}
use Rattle.arn_ids.specs.declared.config.Config.{Config}
use Rattle.call_model.specs.History.{answer_in, or_else}
use Rattle.call_model.specs.Table.{reborn}
use Rattle.call_model.specs.Life.{life, lived, after, first_part, phase, stand, concerns, ends_here}
use Rattle.call_model.specs.Limits.{place_for}
use Rattle.call_model.specs.Answers.{first_answer, first_answers, first_entry, each_from, with_answer}
use Rattle.call_model.proofs.PhaseStep.{cell_of}
use Rattle.environment_step.proofs.FirstValues.{early, is_early, first_early}
use Rattle.environment_step.proofs.Rising.{IsRising}
use Rattle.environment_step.proofs.Puts.{IsFresh, give_rising, give_answer}
use Rattle.environment_step.proofs.HeldTickets.{IsOrderly, holder, AreFresh, IsEach, each_given, given_role, member_or}
use Rattle.call_model.proofs.Basics.{number_some, some-none}
use Rattle.call_model.proofs.Visits.{visit, if_concerned, if_ended}

give_none : (t : Option ℕ) (moves : List (ℕ × Answer)) → give t None moves ≡ moves
give_none None moves = refl
give_none (Some t) moves = refl

pub none_given : (xs : List Member) (moves : List (ℕ × Answer)) → give_each (λ x. delivered None (ExtensionPoll x)) xs moves ≡ moves
none_given [] moves = refl
none_given (x ∷ xs) moves = give_none x.next (give_each (λ y. delivered None (ExtensionPoll y)) xs moves) ∙ none_given xs moves

pub none_all : (s : Stand) (moves : List (ℕ × Answer)) → served_moves None s moves ≡ moves
none_all s moves = none_given s.members (give s.runtime None moves) ∙ give_none s.runtime moves

begun_reborn : (P : Phase) (b : Bool) (now : ℕ) (o : Option ℕ) → begun P (reborn b now o) ≡ None
begun_reborn (Busy q d) b now o = refl
begun_reborn P true now o = refl
begun_reborn P false now None = refl
begun_reborn P false now (Some p) = refl

-- what is given after the first moves, by the phase that comes
pub turned_served : (fixed : Fixed) (now : ℕ) (expires : Bool) (before P : Phase) (s : Stand) (moves : List (ℕ × Answer))
    → P ≡ (turned fixed now expires before s).phase
    → turned_moves fixed now expires before s moves ≡ served_moves (begun before P) s moves
unfolding turned turned_moves
turned_served fixed now expires before P s moves q = go (closing_ends expires s) q
  where
    go : (c : Bool) → P ≡ (if c then restarted now s else settled_stand fixed now before s).phase
        → (if c then moves else served_moves (begun before (settled_phase fixed now s)) s moves) ≡ served_moves (begun before P) s moves
    go true k = sym (ap (λ b. served_moves b s moves) (ap (begun before) k ∙ begun_reborn before s.stopped now (bound_of s.phase)) ∙ none_all s moves)
    go false k = ap (λ b. served_moves b s moves) (ap (begun before) (sym k))

-- where a Busy begins the generation goes on
pub generation_stays : (config : Config) (h : List Entry) (entry : Entry) (e : ℕ) (x : ℕ × ℕ)
    → concerns h e entry ≡ true → begun (phase config h e) (phase config (entry ∷ h) e) ≡ Some x
    → (life config (entry ∷ h) e).generation ≡ (length h, entry) ∷ (life config h e).generation
unfolding life lived after
generation_stays config h entry e x c q = go (concerns h e entry) c q
  where
    g : Generation
    g = (length h, entry) ∷ (life config h e).generation

    cell : Phase
    cell = cell_of config e entry (length h) (stand config h e)

    at_end : (b : Bool) → begun (phase config h e) (if_ended b (visit config h e entry)).phase ≡ Some x → (if_ended b (visit config h e entry)).generation ≡ g
    at_end true k = absurd (some-none (sym k ∙ begun_reborn (phase config h e) _ entry.moment (bound_of cell)))
    at_end false k = refl

    go : (b : Bool) → b ≡ true → begun (phase config h e) (if_concerned b (visit config h e entry)).phase ≡ Some x
        → (if_concerned b (visit config h e entry)).generation ≡ g
    go false n k = absurd (true≢false (sym n))
    go true n k = at_end (ends_here (visit config h e entry)) k

-- the first entry has only first answers
all_early : (t n : ℕ) (f : ℕ → Option Answer) → ((u : ℕ) → is_early (f u) ≡ true) → filter (λ a. early a.1) (each_from t n f) ≡ each_from t n f
all_early t zero f e = refl
all_early t (suc n) f e = go (f t) (e t) (all_early (suc t) n f e)
  where
    go : (a : Option Answer) → is_early a ≡ true
        → filter (λ b. early b.1) (each_from (suc t) n f) ≡ each_from (suc t) n f
        → filter (λ b. early b.1) (with_answer t a (each_from (suc t) n f)) ≡ with_answer t a (each_from (suc t) n f)
    go None q ih = ih
    go (Some a) q ih = rw q (ap (λ xs. (t, a) ∷ xs) ih)

pub first_whole : (config : Config) (h : List Entry) (now : ℕ) (call : Call) → first_part (first_entry config h now call) ≡ first_entry config h now call
unfolding first_answers
first_whole config h now call =
    λ i. record { moment = now; call = call; answers = all_early 0 (suc (length h)) (first_answer config h now call) (first_early config h now call) i; place = place_for config h call }

-- the poll that a ticket is
abbrev pub poll_role : Option ℕ → List Member → ℕ → Role
poll_role runtime xs t = if is_number runtime t then RuntimePoll else member_role (holder xs t)

pub record IsServed (D : Role → Option Answer) (runtime : Option ℕ) (xs : List Member) (before now : List (ℕ × Answer)) : Type 0 where
  pub rising : IsRising 0 now
  pub value : (t : ℕ) → answer_in now t ≡ or_else (answer_in before t) (D (poll_role runtime xs t))

pub served_by : (D : Role → Option Answer) → D NoRole ≡ None
    → (runtime : Option ℕ) (xs : List Member) (hand : Option ℕ) (moves : List (ℕ × Answer)) → IsOrderly runtime xs hand
    → IsRising 0 moves → IsFresh runtime moves → ((t : ℕ) → (holder xs t ≡ None → ⊥) → answer_in moves t ≡ None)
    → AreFresh xs (give runtime (D RuntimePoll) moves)
    → IsServed D runtime xs moves (give_each (λ x. D (ExtensionPoll x)) xs (give runtime (D RuntimePoll) moves))
served_by D n runtime xs hand moves o r free held_free members_free =
    finish (each_given F (λ x. D (ExtensionPoll x)) (λ x t q. refl) xs first rise_first (o.apart) members_free)
  where
    F : ℕ → Role → Option Answer
    F t role = D role

    first : List (ℕ × Answer)
    first = give runtime (D RuntimePoll) moves

    rise_first : IsRising 0 first
    rise_first = give_rising runtime (D RuntimePoll) moves r free

    value_first : (t : ℕ) → answer_in first t ≡ (if is_number runtime t then D RuntimePoll else answer_in moves t)
    value_first t =
        give_answer runtime (D RuntimePoll) moves t r free
        ∙ given_role F RuntimePoll runtime (D RuntimePoll) t (answer_in moves t) (λ u q. refl) (λ q. free t (number_some runtime t q))

    finish : IsEach F xs first (give_each (λ x. D (ExtensionPoll x)) xs first) → IsServed D runtime xs moves (give_each (λ x. D (ExtensionPoll x)) xs first)
    finish k = record { rising = k.rising; value = λ t. k.value t ∙ by_runtime t (is_number runtime t) refl }
      where
        or_none : (a b : Option Answer) → b ≡ None → a ≡ or_else a b
        or_none None b q = sym q
        or_none (Some c) b q = refl

        by_member : (t : ℕ) (x : Option Member) → holder xs t ≡ x → answer_in first t ≡ answer_in moves t
            → member_or F t x (answer_in first t) ≡ or_else (answer_in moves t) (D (member_role x))
        by_member t None q m = m ∙ or_none (answer_in moves t) (D NoRole) n
        by_member t (Some x) q m = rw (held_free t (λ k. some-none (sym q ∙ k))) refl

        by_runtime : (t : ℕ) (b : Bool) → is_number runtime t ≡ b
            → member_or F t (holder xs t) (answer_in first t) ≡ or_else (answer_in moves t) (D (if b then RuntimePoll else member_role (holder xs t)))
        by_runtime t true q = let at : runtime ≡ Some t = number_some runtime t q in rw (o.one_runtime t at, free t at) (value_first t ∙ rw q refl)
        by_runtime t false q = by_member t (holder xs t) refl (value_first t ∙ rw q refl)

-- but for the waiting call, what a ticket gets is its poll's
pub role_poll : (D : Role → Option Answer) → D NoRole ≡ None → D Waiting ≡ None → (s : Stand)
    → IsOrderly s.runtime s.members (at_hand s.phase) → (t : ℕ) → D (role s t) ≡ D (poll_role s.runtime s.members t)
unfolding role
role_poll D n m s o t = go (waits_as s t) refl
  where
    hand : (b : Bool) → (b && is_number (at_hand s.phase) t) ≡ true → at_hand s.phase ≡ Some t
    hand true q = number_some (at_hand s.phase) t q
    hand false q = absurd (true≢false (sym q))

    go : (b : Bool) → waits_as s t ≡ b → D (if b then Waiting else poll_role s.runtime s.members t) ≡ D (poll_role s.runtime s.members t)
    go true q = let at : at_hand s.phase ≡ Some t = hand (is_some s.request) q in rw (o.no_runtime t at, o.no_member t at) (m ∙ sym n)
    go false q = refl

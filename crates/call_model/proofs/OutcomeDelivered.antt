-- An invocation is answered with an output, or that it timed out, only after its delivery.
use Rattle.std.proofs.Common.{Bool, false, Option, Some, None, ◌≡◌, true, sym, refl, true≢false, ℕ, is_some, ◌&&◌}
use Rattle.std.proofs.Common.{if◌then◌else◌, ◌≤◌, List, ◌∷◌, length, ap, ◌∙◌, inl, inr, arith, ◌==◌}
use Rattle.std.proofs.lemmas.Bool.{cases_lt}
use Rattle.std.specs.List.{find}
use Rattle.call_types.specs.declared.answer.Answer.{Answer}
use Rattle.call_types.specs.declared.answer.Answer.TheVariants.{Output, TimedOut, OutputTooLarge, Told, Ending, Delivered}
use Rattle.call_types.specs.declared.answer.Phase.{Phase}
use Rattle.call_types.specs.declared.answer.Phase.TheVariants.{Starting, Idle}
use Rattle.call_types.specs.declared.call.Call.{Call}
use Rattle.call_types.specs.declared.call.Entry.{Entry}
use Rattle.arn_ids.specs.declared.config.Config.{Config}
use Rattle.call_model.specs.History.{answer_in, or_else}
use Rattle.call_model.specs.Generation.{Member}
use Rattle.call_model.specs.Stand.{Stand, is_busy, at_hand, is_number, role, Waiting, RuntimePoll, member_role, Role}
use Rattle.call_model.specs.Table.{to_waiting, Cell}
use Rattle.call_model.specs.Polls.{by_role}
use Rattle.call_model.specs.Life.{phase, stand, seen, names}
use Rattle.call_model.specs.Answers.{answers, first_answer, first_entry, second_answer, home, own_first, other_answer, answer_at}
use Rattle.call_model.specs.Laws.{is_outcome, deliveries}
use Rattle.call_model.specs.Next.{IsLegal}
use Rattle.call_model.proofs.Once.{answers_past}
use Rattle.call_model.proofs.FirstPhase.{strip, strip_second}
use Rattle.call_model.proofs.Basics.{some-none, number_some}
use Rattle.call_model.proofs.AnswerValues.{plain, valued}
use Rattle.call_model.proofs.Cells.{in_table, of_stop}
use Rattle.call_model.proofs.FirstAnswers.{special, own_first_plain, poll_plain}
use Rattle.call_model.proofs.BusyDelivered.{busy_is, busy_delivered}

abbrev pub outcome : Option Answer → Bool
outcome None = false
outcome (Some a) = is_outcome a

outcome_special : (a : Option Answer) → outcome a ≡ true → special a ≡ true
outcome_special (Some (Output source)) q = refl
outcome_special (Some OutputTooLarge) q = refl
outcome_special (Some TimedOut) q = refl
outcome_special None q = absurd (true≢false (sym q))
outcome_special (Some a) q = absurd (true≢false (sym q))

outcome_plain : (a : Option Answer) → outcome (plain a) ≡ outcome a
outcome_plain None = refl
outcome_plain (Some (Told p d event)) = refl
outcome_plain (Some (Ending reason until event)) = refl
outcome_plain (Some a) = refl

outcome_strip : (a : Option Answer) → strip a ≡ None → outcome a ≡ false
outcome_strip None q = refl
outcome_strip (Some (Delivered p d)) q = refl
outcome_strip (Some (Told p d event)) q = refl
outcome_strip (Some (Ending reason until event)) q = refl
outcome_strip (Some a) q = absurd (some-none q)

-- the table gives these to the waiting call of a Busy alone
outcome_waiting : (own : ℕ) (s : Stand) (call : Call) → outcome (to_waiting own s call) ≡ true → is_busy s.phase ≡ true
unfolding to_waiting
outcome_waiting own s call =
    in_table (λ P (cell : Cell). outcome (cell.waiting own) ≡ true → is_busy P ≡ true) s (record {
      waits = no;
      accepts = no;
      refuses = λ kind. no;
      registers = no;
      tells = λ reason until. no;
      output = λ p d q. refl;
      too_large = λ p d q. refl;
      error = λ p d q. refl;
      fails = no;
      init_times_out = λ d b. no (Starting d b);
      times_out = λ p d q. refl;
      spins_down = no Idle;
    }) call (λ _. of_stop (λ (cell : Cell). outcome (cell.waiting own) ≡ true → is_busy s.phase ≡ true) s (no s.phase) (no s.phase) (no s.phase))
  where
    no : (P : Phase) → false ≡ true → is_busy P ≡ true
    no P q = absurd (true≢false (sym q))

waiting_number : (s : Stand) (t : ℕ) → role s t ≡ Waiting → is_number (at_hand s.phase) t ≡ true
unfolding role
waiting_number s t q = go (is_number (at_hand s.phase) t) refl (is_some s.request) q
  where
    no_poll : (b : Bool) (o : Option Member) → (if b then RuntimePoll else member_role o) ≡ Waiting → ⊥
    no_poll true o r = cc
    no_poll false None r = cc
    no_poll false (Some x) r = cc

    go : (b : Bool) → is_number (at_hand s.phase) t ≡ b → (a : Bool)
        → (if a && b then Waiting else if is_number s.runtime t then RuntimePoll else member_role (find (λ x. is_number x.next t) s.members)) ≡ Waiting
        → is_number (at_hand s.phase) t ≡ true
    go true k a r = k
    go false k true r = absurd (no_poll (is_number s.runtime t) (find (λ x. is_number x.next t) s.members) r)
    go false k false r = absurd (no_poll (is_number s.runtime t) (find (λ x. is_number x.next t) s.members) r)

-- An invocation is answered so only in an entry after its delivery.
pub outcome_delivered : (config : Config) (h : List Entry) (entry : Entry) (p : ℕ) (a : Answer)
    → IsLegal config (entry ∷ h) → answer_in entry.answers p ≡ Some a → is_outcome a ≡ true → 1 ≤ deliveries h p
unfolding first_answer seen
outcome_delivered config h entry p a l q k = elim (cases_lt (length h) p) [
  | inl lt ↦ absurd (some-none (sym q ∙ ap (λ (xs : List (ℕ × Answer)). answer_in xs p) (l.1.answers) ∙ answers_past config h entry.moment entry.call p lt))
  | inr ge ↦ by_first (first_answer config h entry.moment entry.call p) refl (sym (outcome_plain (or_else (first_answer config h entry.moment entry.call p) (second_answer config h (first_entry config h entry.moment entry.call) p))) ∙ ap outcome (sym (valued config h entry.moment entry.call p (omega (arith, ge)))) ∙ outcome_plain (answer_in (answers config h entry.moment entry.call) p) ∙ ap (λ (xs : List (ℕ × Answer)). outcome (answer_in xs p)) (sym (l.1.answers)) ∙ ap outcome q ∙ k)
]
  where
    s : ℕ → Stand
    s e = stand config h e

    by_waiting : (e : ℕ) → role (s e) p ≡ Waiting → outcome (by_role (length h) entry.moment (s e) entry.call p (role (s e) p)) ≡ true → 1 ≤ deliveries h p
    by_waiting e r o =
        let busy : is_busy (phase config h e) ≡ true = outcome_waiting (length h) (s e) entry.call (ap (λ (x : Role). outcome (by_role (length h) entry.moment (s e) entry.call p x)) (sym r) ∙ o) in
        busy_delivered config h e p l.0 (busy_is (phase config h e) p busy (number_some (at_hand (phase config h e)) p (waiting_number (s e) p r)))

    at_env : (e : ℕ) (b : Bool) → outcome (answer_at config h entry.moment e entry.call p b) ≡ true → 1 ≤ deliveries h p
    at_env e false o = absurd (true≢false (sym o))
    at_env e true o =
        by_waiting e
        (poll_plain (length h) entry.moment (s e) entry.call p (role (s e) p) (outcome_special (by_role (length h) entry.moment (s e) entry.call p (role (s e) p)) o)) o

    other : (o : Option ℕ) → outcome (other_answer config h entry.moment entry.call p o) ≡ true → 1 ≤ deliveries h p
    other None o = absurd (true≢false (sym o))
    other (Some e) o = at_env e (names h e entry.call) o

    by_ticket : (b : Bool)
        → outcome (if b then own_first config h entry.call else other_answer config h entry.moment entry.call p (home h p)) ≡ true
        → 1 ≤ deliveries h p
    by_ticket true o = absurd (true≢false (sym (outcome_special (own_first config h entry.call) o) ∙ own_first_plain config h entry.call))
    by_ticket false o = other (home h p) o

    by_first : (b : Option Answer) → first_answer config h entry.moment entry.call p ≡ b
        → outcome (or_else b (second_answer config h (first_entry config h entry.moment entry.call) p)) ≡ true
        → 1 ≤ deliveries h p
    by_first None f o =
        absurd
        (true≢false (sym o ∙ outcome_strip (second_answer config h (first_entry config h entry.moment entry.call) p) (strip_second config h (first_entry config h entry.moment entry.call) p)))
    by_first (Some x) f o = by_ticket (p == length h) (ap outcome f ∙ o)

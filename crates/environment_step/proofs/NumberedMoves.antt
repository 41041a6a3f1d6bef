-- moves_of is the list of the entry's answers at the environment, and the events that stand_after counts.
use Rattle.std.proofs.lemmas.Bool.{cases_lt}
use Rattle.std.proofs.Common.{◌≡◌, ℕ, suc, ◌+◌, ◌<◌, ◌≤◌, Bool, true, false, List, [], ◌∷◌, length, Option, None, sym}
use Rattle.std.proofs.Common.{refl, ap, ap₂, ◌∙◌, inl, inr, arith, filter, if◌then◌else◌}
use Rattle.call_types.specs.declared.answer.Answer.{Answer}
use Rattle.call_types.specs.declared.call.Entry.{Entry}
use Rattle.arn_ids.specs.declared.config.Config.{Config}
use Rattle.call_model.specs.History.{answer_in, call_of, or_else}
use Rattle.call_types.specs.Calls.{env_of}
use Rattle.call_model.specs.Life.{phase, stand, seen, concerns, events, events_in}
use Rattle.call_model.specs.Answers.{answers, answer_to, first_answer, second_answer, first_entry, each_from}
use Rattle.call_model.specs.Next.{IsLegal, Follows}
use Rattle.environment_step.specs.After.{turned_moves, first_stand, first_moves, fixed_of, step_at, count_at}
use Rattle.environment_step.specs.After.{expires_now, moves_of, finished_moves, stand_after, finished, numbered_from}
use Rattle.environment_step.specs.After.{events_of}
use Rattle.call_model.proofs.Pairs.{in_each, past_each}
use Rattle.environment_step.proofs.FirstValues.{first_valued}
use Rattle.environment_step.proofs.Rising.{rising_same, each_rising}
use Rattle.environment_step.proofs.Puts.{filter_rising, filter_answer}
use Rattle.environment_step.proofs.EventNumbers.{AreAt, numbered_own, counted_own}
use Rattle.environment_step.proofs.FirstMoves.{IsMoved, is_here}
use Rattle.environment_step.proofs.UnnumberedMoves.{turned_moved}

-- the entry's answers before their events have numbers
abbrev pub unnumbered : Config → List Entry → Entry → List (ℕ × Answer)
unnumbered config h entry = each_from 0 (suc (length h)) (answer_to config h (first_entry config h entry.moment entry.call))

abbrev pub turned_here : Config → List Entry → Entry → ℕ → List (ℕ × Answer)
turned_here config h entry e =
    turned_moves (fixed_of config e) entry.moment (expires_now (stand config h e) entry.call) (phase config h e)
    (first_stand (fixed_of config e) (step_at h entry (count_at config h entry e)) (stand config h e) entry.call)
    (first_moves (step_at h entry (count_at config h entry e)) (stand config h e) entry.call)

-- The answers at the environment are the turned moves.
pub turned_is : (config : Config) (h : List Entry) (entry : Entry) (e : ℕ) → IsLegal config h → Follows config h entry → concerns h e entry ≡ true
    → filter (λ a. is_here (entry ∷ h) e a.0) (unnumbered config h entry) ≡ turned_here config h entry e
unfolding answer_to
turned_is config h entry e l w c =
    rising_same 0 (filter p pairs) (turned_here config h entry e)
    (filter_rising (is_here (entry ∷ h) e) 0 pairs (each_rising 0 (suc (length h)) f)) (m.rising)
    (λ u. filter_answer (is_here (entry ∷ h) e) pairs u ∙ at u)
  where
    p : ℕ × Answer → Bool
    p a = is_here (entry ∷ h) e a.0

    f : ℕ → Option Answer
    f = answer_to config h (first_entry config h entry.moment entry.call)

    pairs : List (ℕ × Answer)
    pairs = unnumbered config h entry

    m : IsMoved config h entry e (turned_here config h entry e)
        (λ t. or_else (first_answer config h entry.moment entry.call t) (second_answer config h (first_entry config h entry.moment entry.call) t))
    m = turned_moved config h entry e l w c

    nothing : Option Answer
    nothing = None

    none : (b : Bool) → (if b then nothing else nothing) ≡ nothing
    none true = refl
    none false = refl

    at : (u : ℕ) → (if is_here (entry ∷ h) e u then answer_in pairs u else None) ≡ answer_in (turned_here config h entry e) u
    at u = elim (cases_lt (length h) u) [
      | inl lt ↦ ap (λ (o : Option Answer). if is_here (entry ∷ h) e u then o else None) (past_each 0 (suc (length h)) u f (let less : length h < u = lt in omega (arith, less)))
          ∙ none (is_here (entry ∷ h) e u) ∙ sym (m.past u lt)
      | inr le ↦ ap (λ (o : Option Answer). if is_here (entry ∷ h) e u then o else None) (in_each 0 (suc (length h)) u f (omega arith) (let low : u ≤ length h = le in omega (arith, low)) ∙ ap (λ (o : Option Answer). or_else o (second_answer config h (first_entry config h entry.moment entry.call) u)) (first_valued config h entry.moment entry.call u le))
          ∙ sym (m.value u le)
    ]

-- each event stands at a ticket whose call names its environment
abbrev pub AreNamed : Config → List Entry → Entry → ℕ → Type 0
AreNamed config h entry e = AreAt (is_here (entry ∷ h) e) (λ t. env_of (call_of (entry ∷ h) t)) e (unnumbered config h entry)

zero_left : (n : ℕ) → 0 + n ≡ n
zero_left n = omega arith

-- The moves are the entry's answers to the environment's tickets.
pub moves_meet : (config : Config) (h : List Entry) (entry : Entry) (e : ℕ) → IsLegal config h → Follows config h entry
    → concerns h e entry ≡ true → AreNamed config h entry e
    → filter (λ a. is_here (entry ∷ h) e a.0) entry.answers ≡ moves_of (fixed_of config e) (step_at h entry (count_at config h entry e)) (stand config h e) entry.call
unfolding answers moves_of finished_moves first_stand seen
moves_meet config h entry e l w c k =
    ap (filter (λ a. is_here (entry ∷ h) e a.0)) (w.answers)
    ∙ numbered_own (is_here (entry ∷ h) e) h (first_entry config h entry.moment entry.call) e [] (unnumbered config h entry) k
    ∙ ap₂ numbered_from (zero_left (events h e)) (turned_is config h entry e l w c)

-- The events that were told.
pub events_meet : (config : Config) (h : List Entry) (entry : Entry) (e : ℕ) → IsLegal config h → Follows config h entry
    → concerns h e entry ≡ true → AreNamed config h entry e
    → (stand config (entry ∷ h) e).events ≡ (stand_after (fixed_of config e) (step_at h entry (count_at config h entry e)) (stand config h e) entry.call).events
unfolding answers stand_after finished first_stand seen
events_meet config h entry e l w c k =
    ap (λ (n : ℕ). n + events h e) (ap (events_in (entry ∷ h) e) (w.answers)
    ∙ counted_own (is_here (entry ∷ h) e) h (first_entry config h entry.moment entry.call) e [] (unnumbered config h entry) k
    ∙ ap events_of (turned_is config h entry e l w c))

-- An environment meets its stand: what its words say of the definitions.
use Rattle.std.proofs.Common.{◌≡◌, ◌*◌, ℕ, suc, ◌+◌, ◌≤◌, Bool, true, false, not, ◌&&◌, ◌||◌, List, [], ◌∷◌, length}
use Rattle.std.proofs.Common.{Option, Some, None, inl, inr, sym, refl, ap, ◌∙◌, arith, subst, true≢false, if◌then◌else◌}
use Rattle.std.proofs.lemmas.Bool.{cases_lt}
use Rattle.arn_ids.specs.declared.config.Config.{Config}
use Rattle.arn_ids.specs.Environments.{function_at, function_of, owners}
use Rattle.arn_ids.proofs.Bounds.{owner_is_function}
use Rattle.call_types.specs.declared.answer.Answer.{Answer}
use Rattle.call_types.specs.declared.call.Entry.{Entry}
use Rattle.environment_step.specs.After.{Known, Step, count_at, fixed_of, step_at}
use Rattle.call_model.specs.Laws.{ended_by}
use Rattle.call_model.specs.Answers.{answer_to, answers, first_entry, home}
use Rattle.call_model.specs.Generation.{members}
use Rattle.call_model.specs.History.{answer_in, or_else, place_of}
use Rattle.call_types.specs.Calls.{env_of}
use Rattle.call_model.specs.Life.{concerns, life, names, seen, stand}
use Rattle.call_model.specs.Limits.{is_charged}
use Rattle.call_model.specs.Next.{Follows, IsLegal, IsTimely}
use Rattle.call_model.specs.Stand.{is_number}
use Rattle.call_model.proofs.Basics.{eqb-self, number_some, some-none}
use Rattle.environment_step.proofs.Ended as E
use Rattle.environment_step.proofs.Frame.{not_named, quiet_here}
use Rattle.environment_step.proofs.Puts.{filter_answer, filter_rising}
use Rattle.environment_step.proofs.Rising.{IsRising, each_rising, numbered_rising}
use Rattle.environment_step.proofs.StepLaws.{moves_are, stand_is}
use Rattle.env_phase.specs.Meeting.{answers_there, known_at}
use Rattle.env_phase.specs.Taking.{given, opened, taken}
use Rattle.env_phase.proofs.Extent.{little}
use Rattle.env_phase.proofs.Homes.{home_new, home_old, past}
use Rattle.env_phase.proofs.Waiting.{few_tickets, moves_in, rising_few, tickets}

-- before any call it is an opened one
pub opens : (config : Config) (e : ℕ) → 1 ≤ e → e ≤ length (owners config)
    → opened (function_at config (function_of config e)) ≡ record { fixed = fixed_of config e; stand = stand config [] e }
unfolding seen life members
opens config e low high = rw (sym (owner_is_function config e low high).2) refl

pub few_events : (config : Config) (h : List Entry) (e : ℕ) → IsLegal config h → (stand config h e).events ≤ 24 * length h
few_events config h e l = (little config h e l).events

pub few_registered : (config : Config) (h : List Entry) (e : ℕ) → IsLegal config h → (stand config h e).registrations ≤ length h
few_registered config h e l = (little config h e l).registrations

pub ten_members : (config : Config) (h : List Entry) (e : ℕ) → IsLegal config h → length (stand config h e).members ≤ 10
ten_members config h e l = (little config h e l).ten

-- an entry that concerns it makes of it what a take does
pub takes : (config : Config) (h : List Entry) (entry : Entry) (e : ℕ) → IsLegal config (entry ∷ h) → concerns h e entry ≡ true
    → taken (known_at config h e) (step_at h entry (count_at config h entry e)) entry.call ≡ known_at config (entry ∷ h) e
takes config h entry e l q = ap (λ s. record { fixed = fixed_of config e; stand = s }) (sym (stand_is config h entry e l.0 l.1 q))

-- its answers are the entry's to its tickets
pub gives : (config : Config) (h : List Entry) (entry : Entry) (e : ℕ) → IsLegal config (entry ∷ h) → concerns h e entry ≡ true
    → given (known_at config h e) (step_at h entry (count_at config h entry e)) entry.call ≡ answers_there h entry e
gives config h entry e l q = sym (moves_are config h entry e l.0 l.1 q)

-- whose charge it ends
pub ends : (config : Config) (h : List Entry) (entry : Entry) (e p : ℕ) → IsLegal config (entry ∷ h) → concerns h e entry ≡ true
    → (is_number (place_of h p) e && (is_charged config h p && not (is_charged config (entry ∷ h) p)))
    ≡ is_number (ended_by (stand config h e).phase (taken (known_at config h e) (step_at h entry (count_at config h entry e)) entry.call).stand.phase) p
unfolding seen
ends config h entry e p l q =
    E.ended config h entry e p l ∙ ap (λ (k : Known). is_number (ended_by (stand config h e).phase k.stand.phase) p) (sym (takes config h entry e l q))

or_left : (a b : Bool) → (a || b) ≡ false → a ≡ false
or_left true b q = q
or_left false b q = refl

-- a list that answers no ticket is empty
no_answers : (pairs : List (ℕ × Answer)) → ((t : ℕ) → answer_in pairs t ≡ None) → pairs ≡ []
no_answers [] e = refl
no_answers (a ∷ rest) e = absurd (some-none (rw (eqb-self a.0) at (e a.0)))

-- an entry that doesn't concern it answers none of its tickets
none_here : (config : Config) (h : List Entry) (entry : Entry) (e : ℕ) → IsLegal config (entry ∷ h) → concerns h e entry ≡ false → answers_there h entry e ≡ []
none_here config h entry e l q =
    no_answers (answers_there h entry e)
    (λ t. filter_answer (λ u. is_number (home (entry ∷ h) u) e) entry.answers t ∙ at t (is_number (home (entry ∷ h) t) e) refl)
  where
    own : is_number (or_else entry.place (env_of entry.call)) e ≡ false
    own = go entry.place q
      where
        go : (o : Option ℕ) → (is_number o e || names h e entry.call) ≡ false → is_number (or_else o (env_of entry.call)) e ≡ false
        go None r = not_named h entry.call e r
        go (Some d) r = or_left (is_number (Some d) e) (names h e entry.call) r

    at : (t : ℕ) (b : Bool) → is_number (home (entry ∷ h) t) e ≡ b → (if b then answer_in entry.answers t else None) ≡ None
    at t false r = refl
    at t true r = elim (cases_lt t (length h)) [
      | inl lt ↦ quiet_here IsTimely config h entry e t l.1 q lt (sym (home_old entry h t lt) ∙ number_some (home (entry ∷ h) t) e r)
      | inr ge ↦ elim (cases_lt (length h) t) [
        | inl lt ↦ past config h entry t l.1 lt
        | inr le ↦ let same : t ≡ length h =
            omega (arith, ge, le) in absurd (true≢false (sym r ∙ ap (λ u. is_number (home (entry ∷ h) u) e) same ∙ ap (λ o. is_number o e) (home_new entry h) ∙ own))
      ]
    ]

-- the answers of an entry stand in rising ticket order
pub answers_rising : (config : Config) (h : List Entry) (entry : Entry) → Follows config h entry → IsRising 0 entry.answers
unfolding answers
answers_rising config h entry w =
    rw w.answers
    (numbered_rising h (first_entry config h entry.moment entry.call) [] _ 0 (each_rising 0 (suc (length h)) (answer_to config h (first_entry config h entry.moment entry.call))))

-- how many they are at most: each ticket that waits there gets one, and the entry's own
pub few_here : (config : Config) (h : List Entry) (entry : Entry) (e : ℕ) → IsLegal config (entry ∷ h)
    → length (answers_there h entry e) ≤ length (stand config h e).members + 3
few_here config h entry e l = go (concerns h e entry) refl
  where
    step : Step
    step = step_at h entry (count_at config h entry e)

    rising : IsRising 0 (answers_there h entry e)
    rising = filter_rising (λ t. is_number (home (entry ∷ h) t) e) 0 entry.answers (answers_rising config h entry l.1)

    go : (b : Bool) → concerns h e entry ≡ b → length (answers_there h entry e) ≤ length (stand config h e).members + 3
    go false q = rw (none_here config h entry e l q) (omega arith)
    go true q =
        let is = gives config h entry e l q in
        rw (sym is) (omega (
          arith,
          rising_few 0 (tickets (length h) (stand config h e)) (given (known_at config h e) step entry.call)
              (subst (IsRising 0) (sym is) rising) (moves_in (fixed_of config e) step (stand config h e) entry.call),
          few_tickets (length h) (stand config h e),
        ))

pub at_most_13 : (config : Config) (h : List Entry) (entry : Entry) (e : ℕ) → IsLegal config (entry ∷ h) → length (answers_there h entry e) ≤ 13
at_most_13 config h entry e l = omega (arith, few_here config h entry e l, ten_members config h e l.0)

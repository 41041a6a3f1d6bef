-- The answers of an entry: those that the environments give which it reaches, and its own.
use Rattle.std.proofs.Common.{◌≡◌, ◌≢◌, ℕ, ◌<◌, ◌≤◌, Bool, true, false, List, [], ◌∷◌, ◌++◌, length, filter, Option}
use Rattle.std.proofs.Common.{Some, None, is_some, sym, refl, ap, ◌∙◌, arith, inl, inr, if◌then◌else◌, true≢false}
use Rattle.std.proofs.Common.{le_refl}
use Rattle.std.proofs.lemmas.Bool.{cases_lt}
use Rattle.arn_ids.specs.declared.config.Config.{Config}
use Rattle.call_types.specs.declared.answer.Answer.{Answer}
use Rattle.call_types.specs.declared.answer.Answer.TheVariants.{Told, Ending, Stopped, Refused, Reserved}
use Rattle.call_types.specs.declared.answer.Rejection.TheVariants.{BadReservation}
use Rattle.call_types.specs.declared.call.Call.{Call}
use Rattle.call_types.specs.declared.call.Call.TheVariants.{Invoke, RuntimeNext, Response, ResponseTooLarge, Failure}
use Rattle.call_types.specs.declared.call.Call.TheVariants.{InitFailure, Register, ExtNext, ExtInitFailure}
use Rattle.call_types.specs.declared.call.Call.TheVariants.{ExtExitFailure, Tick, Withdraw, Spindown, Stop, Expire}
use Rattle.call_types.specs.declared.call.Call.TheVariants.{Reserve}
use Rattle.call_types.specs.declared.call.Entry.{Entry}
use Rattle.call_model.specs.Answers.{first_answer, second_answer, own_first, home, verdict_answer, with_event, reserve_answer}
use Rattle.call_model.specs.History.{answer_in, or_else, stopped}
use Rattle.call_types.specs.Calls.{env_of}
use Rattle.call_model.specs.Life.{is_event}
use Rattle.call_model.specs.Limits.{place_for, Verdict, verdict, AfterStop, Refuses, Admits, admitted_to}
use Rattle.call_model.specs.Next.{Follows, IsTimely}
use Rattle.call_model.proofs.AnswerValues.{plain, valued}
use Rattle.call_model.proofs.Basics.{eqb-self, some-none, none-some}
use Rattle.environment_step.proofs.Frame.{quiet_here}
use Rattle.call_model.proofs.Once.{answers_at}
use Rattle.call_model.proofs.Pairs.{eqb-other, is_some_none}
use Rattle.environment_step.proofs.Puts.{filter_rising, filter_answer}
use Rattle.environment_step.proofs.Rising.{IsRising, rising_same}
use Rattle.env_phase.proofs.Homes.{home_new, home_old, past}
use Rattle.env_phase.proofs.Meets.{answers_rising}
use Rattle.fleet.specs.Reaches.{reach, reaches}
use Rattle.account_book.specs.OwnAnswers.{book_answer, unless_named, with_own}
use Rattle.fleet.proofs.Entered.{concerns_reach}
use Rattle.account_book.proofs.Merging.{last_rising, last_answer}

-- an older ticket without an environment gets nothing
pub homeless : (config : Config) (h : List Entry) (entry : Entry) (t : ℕ) → Follows config h entry → t < length h
    → home h t ≡ None → answer_in entry.answers t ≡ None
unfolding first_answer second_answer
homeless config h entry t w lt none =
    is_some_none (answer_in entry.answers t)
    (ap (λ xs. is_some (answer_in xs t)) w.answers
    ∙ answers_at config h entry.moment entry.call t (omega (arith, lt))
    ∙ rw (eqb-other t (length h) (let less : t < length h = lt in omega (arith, less)), none) refl)

-- what is answered is the entry's own ticket or an older one of an environment that is reached
pub data Answered (config : Config) (h : List Entry) (entry : Entry) (t : ℕ) : Type 0 where
  Own : t ≡ length h → Answered config h entry t
  Older : t < length h → (d : ℕ) → home h t ≡ Some d → reaches (reach h entry.place entry.call) d ≡ true → Answered config h entry t

unanswered : (a : Option Answer) → is_some a ≡ true → a ≡ None → ⊥
unanswered None q r = true≢false (sym q)
unanswered (Some a) q r = some-none r

pub answered_is : (config : Config) (h : List Entry) (entry : Entry) (t : ℕ) → Follows config h entry
    → is_some (answer_in entry.answers t) ≡ true → Answered config h entry t
answered_is config h entry t w q = elim (cases_lt t (length h)) [
  | inl lt ↦ older lt (home h t) refl
  | inr ge ↦ elim (cases_lt (length h) t) [
    | inl gt ↦ absurd (unanswered (answer_in entry.answers t) q (past config h entry t w gt))
    | inr le ↦ Own (omega (arith, ge, le))
  ]
]
  where
    older : t < length h → (o : Option ℕ) → home h t ≡ o → Answered config h entry t
    older lt None r = absurd (unanswered (answer_in entry.answers t) q (homeless config h entry t w lt r))
    older lt (Some d) r = at (reaches (reach h entry.place entry.call) d) refl
      where
        at : (b : Bool) → reaches (reach h entry.place entry.call) d ≡ b → Answered config h entry t
        at true s = Older lt d r s
        at false s = absurd (unanswered (answer_in entry.answers t) q (quiet_here IsTimely config h entry d t w (concerns_reach config h entry d w ∙ s) lt r))

-- a part of the answers, by their tickets
abbrev pub part : (ℕ → Bool) → Entry → List (ℕ × Answer)
part q entry = filter (λ a. q a.0) entry.answers

pub part_rising : (config : Config) (h : List Entry) (entry : Entry) (q : ℕ → Bool) → Follows config h entry → IsRising 0 (part q entry)
part_rising config h entry q w = filter_rising q 0 entry.answers (answers_rising config h entry w)

pub part_same : (config : Config) (h : List Entry) (entry : Entry) (q r : ℕ → Bool) → Follows config h entry
    → ((t : ℕ) → Answered config h entry t → q t ≡ r t) → part q entry ≡ part r entry
part_same config h entry q r w same =
    rising_same 0 (part q entry) (part r entry) (part_rising config h entry q w) (part_rising config h entry r w)
    (λ u. filter_answer q entry.answers u ∙ each u (answer_in entry.answers u) refl ∙ sym (filter_answer r entry.answers u))
  where
    none : (b c : Bool) (a : Option Answer) → a ≡ None → (if b then a else None) ≡ (if c then a else None)
    none true true a e = refl
    none true false a e = e
    none false true a e = sym e
    none false false a e = refl

    each : (u : ℕ) (a : Option Answer) → answer_in entry.answers u ≡ a
        → (if q u then answer_in entry.answers u else None) ≡ (if r u then answer_in entry.answers u else None)
    each u None e = none (q u) (r u) (answer_in entry.answers u) e
    each u (Some a) e = ap (λ (b : Bool). if b then answer_in entry.answers u else None) (same u (answered_is config h entry u w (ap is_some e)))

-- those to tickets that have an environment
abbrev pub has_home : List Entry → Entry → ℕ → Bool
has_home h entry t = is_some (home (entry ∷ h) t)

-- THE OWN ANSWER

quiet_same : (a : Answer) → is_event a ≡ false → with_event 0 a ≡ a
quiet_same (Told p d n) q = absurd (true≢false q)
quiet_same (Ending reason until n) q = absurd (true≢false q)
quiet_same a q = refl

event_same : (a : Answer) → is_event (with_event 0 a) ≡ is_event a
event_same (Told p d n) = refl
event_same (Ending reason until n) = refl
event_same a = refl

abbrev is_silent : Option Answer → Bool
is_silent None = false
is_silent (Some a) = is_event a

plain_silent : (x : Option Answer) → is_silent (plain x) ≡ is_silent x
plain_silent None = refl
plain_silent (Some a) = event_same a

plain_same : (x : Option Answer) → is_silent x ≡ false → plain x ≡ x
plain_same None q = refl
plain_same (Some a) q = ap (λ (b : Answer). Some b) (quiet_same a q)

-- an answer that is told by nobody is known without the number of an event
plain_one : (x y : Option Answer) → plain x ≡ plain y → is_silent y ≡ false → x ≡ y
plain_one x y e q = let r : is_silent x ≡ false = sym (plain_silent x) ∙ ap is_silent e ∙ plain_silent y ∙ q in sym (plain_same x r) ∙ e ∙ plain_same y q

if_quiet : (b : Bool) (a c : Answer) → is_event a ≡ false → is_event c ≡ false → is_event (if b then a else c) ≡ false
if_quiet true a c p q = p
if_quiet false a c p q = q

own_quiet : (config : Config) (h : List Entry) (call : Call) → env_of call ≡ None → is_silent (own_first config h call) ≡ false
unfolding own_first
own_quiet config h (Invoke f qualified trace body) q = go (verdict config h f)
  where
    go : (v : Verdict) → is_silent (verdict_answer v) ≡ false
    go AfterStop = refl
    go (Refuses reason) = refl
    go (Admits e) = refl
own_quiet config h Tick q = refl
own_quiet config h (Withdraw t) q = refl
own_quiet config h Stop q = refl
own_quiet config h (Reserve f count) q = if_quiet (stopped h) Stopped (reserve_answer config h f count) refl (decided count)
  where
    decided : (o : Option ℕ) → is_event (reserve_answer config h f o) ≡ false
    decided None = refl
    decided (Some n) = if_quiet _ (Refused BadReservation) (Reserved n) refl refl
own_quiet config h (RuntimeNext e) q = absurd (some-none q)
own_quiet config h (Response e id body) q = absurd (some-none q)
own_quiet config h (ResponseTooLarge e id) q = absurd (some-none q)
own_quiet config h (Failure e id body) q = absurd (some-none q)
own_quiet config h (InitFailure e body) q = absurd (some-none q)
own_quiet config h (Register e name invoke shutdown account) q = absurd (some-none q)
own_quiet config h (ExtNext e x) q = absurd (some-none q)
own_quiet config h (ExtInitFailure e x body) q = absurd (some-none q)
own_quiet config h (ExtExitFailure e x body) q = absurd (some-none q)
own_quiet config h (Spindown e) q = absurd (some-none q)
own_quiet config h (Expire e) q = absurd (some-none q)

none_of_two : (place : Option ℕ) (env : Option ℕ) → or_else place env ≡ None → env ≡ None
none_of_two None env q = q
none_of_two (Some e) env q = absurd (some-none q)

-- a call without an environment gets its own answer
pub own_homeless : (config : Config) (h : List Entry) (entry : Entry) → Follows config h entry
    → or_else entry.place (env_of entry.call) ≡ None
    → answer_in entry.answers (length h) ≡ book_answer config h entry.call
unfolding first_answer second_answer
own_homeless config h entry w none =
    plain_one (answer_in entry.answers (length h)) (own_first config h entry.call)
    (ap (λ xs. plain (answer_in xs (length h))) w.answers ∙ valued config h entry.moment entry.call (length h) (le_refl (length h)) ∙ ap plain (rw (eqb-self (length h), sym w.place, none) (alone (own_first config h entry.call))))
    (own_quiet config h entry.call (none_of_two entry.place (env_of entry.call) none))
    ∙ sym (ap (λ (o : Option ℕ). unless_named o (own_first config h entry.call)) (none_of_two entry.place (env_of entry.call) none))
  where
    alone : (a : Option Answer) → or_else a None ≡ a
    alone None = refl
    alone (Some a) = refl

-- one with an environment gets none of the book's
own_housed : (config : Config) (h : List Entry) (call : Call) (place : Option ℕ) (e : ℕ)
    → place ≡ place_for config h call → or_else place (env_of call) ≡ Some e → book_answer config h call ≡ None
unfolding own_first
own_housed config h (Invoke f qualified trace body) None e p q = absurd (none-some q)
own_housed config h (Invoke f qualified trace body) (Some d) e p q = go (verdict config h f) p
  where
    go : (v : Verdict) → Some d ≡ admitted_to v → verdict_answer v ≡ None
    go (Admits e) r = refl
    go AfterStop r = absurd (some-none r)
    go (Refuses reason) r = absurd (some-none r)
own_housed config h Tick place e p q = absurd (none-some (rw p at q))
own_housed config h (Withdraw t) place e p q = absurd (none-some (rw p at q))
own_housed config h Stop place e p q = absurd (none-some (rw p at q))
own_housed config h (Reserve f count) place e p q = absurd (none-some (rw p at q))
own_housed config h (RuntimeNext d) place e p q = refl
own_housed config h (Response d id body) place e p q = refl
own_housed config h (ResponseTooLarge d id) place e p q = refl
own_housed config h (Failure d id body) place e p q = refl
own_housed config h (InitFailure d body) place e p q = refl
own_housed config h (Register d name invoke shutdown account) place e p q = refl
own_housed config h (ExtNext d x) place e p q = refl
own_housed config h (ExtInitFailure d x body) place e p q = refl
own_housed config h (ExtExitFailure d x body) place e p q = refl
own_housed config h (Spindown d) place e p q = refl
own_housed config h (Expire d) place e p q = refl

-- An entry's answers are those to tickets that have an environment, and its own where that has none.
pub answers_parts : (config : Config) (h : List Entry) (entry : Entry) → Follows config h entry
    → entry.answers ≡ with_own (length h) (book_answer config h entry.call) (part (has_home h entry) entry)
answers_parts config h entry w = by_home (home (entry ∷ h) (length h)) refl
  where
    all_part : part (λ t. true) entry ≡ entry.answers
    all_part =
        rising_same 0 (part (λ t. true) entry) entry.answers (part_rising config h entry (λ t. true) w)
        (answers_rising config h entry w) (λ u. filter_answer (λ t. true) entry.answers u)

    by_home : (o : Option ℕ) → home (entry ∷ h) (length h) ≡ o
        → entry.answers ≡ with_own (length h) (book_answer config h entry.call) (part (has_home h entry) entry)
    by_home (Some e) q =
        rw (own_housed config h entry.call entry.place e w.place (sym (home_new entry h) ∙ q))
        (sym all_part ∙ part_same config h entry (λ t. true) (has_home h entry) w housed)
      where
        housed : (t : ℕ) → Answered config h entry t → true ≡ has_home h entry t
        housed t (Own s) = sym (ap (has_home h entry) s ∙ ap is_some q)
        housed t (Older lt d s r) = sym (ap is_some (home_old entry h t lt ∙ s))
    by_home None q = with_answer (book_answer config h entry.call) (own_homeless config h entry w (sym (home_new entry h) ∙ q))
      where
        no_own : answer_in (part (has_home h entry) entry) (length h) ≡ None
        no_own =
            filter_answer (has_home h entry) entry.answers (length h) ∙ ap (λ (b : Bool). if b then answer_in entry.answers (length h) else None) (ap is_some q)

        older_same : (u : ℕ) → u < length h → answer_in (part (has_home h entry) entry) u ≡ answer_in entry.answers u
        older_same u lt = filter_answer (has_home h entry) entry.answers u ∙ each (home h u) refl
          where
            each : (o : Option ℕ) → home h u ≡ o → (if has_home h entry u then answer_in entry.answers u else None) ≡ answer_in entry.answers u
            each None r = rw (home_old entry h u lt, r) (sym (homeless config h entry u w lt r))
            each (Some d) r = rw (home_old entry h u lt, r) refl

        none_later : (u : ℕ) → length h ≤ u → answer_in (part (has_home h entry) entry) u ≡ None
        none_later u ge = elim (cases_lt (length h) u) [
          | inl gt ↦ filter_answer (has_home h entry) entry.answers u ∙ empty (has_home h entry u) (past config h entry u w gt)
          | inr le ↦ let same : length h ≡ u = omega (arith, ge, le) in ap (answer_in (part (has_home h entry) entry)) (sym same) ∙ no_own
        ]
          where
            empty : (b : Bool) → answer_in entry.answers u ≡ None → (if b then answer_in entry.answers u else None) ≡ None
            empty true e = e
            empty false e = refl

        rising : IsRising 0 (part (has_home h entry) entry)
        rising = part_rising config h entry (has_home h entry) w

        with_answer : (o : Option Answer) → answer_in entry.answers (length h) ≡ o → entry.answers ≡ with_own (length h) o (part (has_home h entry) entry)
        with_answer None r = rising_same 0 entry.answers (part (has_home h entry) entry) (answers_rising config h entry w) rising each
          where
            each : (u : ℕ) → answer_in entry.answers u ≡ answer_in (part (has_home h entry) entry) u
            each u = elim (cases_lt u (length h)) [
              | inl lt ↦ sym (older_same u lt)
              | inr ge ↦ elim (cases_lt (length h) u) [
                | inl gt ↦ past config h entry u w gt ∙ sym (none_later u ge)
                | inr le ↦ let same : u ≡ length h = omega (arith, ge, le) in ap (answer_in entry.answers) same ∙ r ∙ sym (none_later u ge)
              ]
            ]
        with_answer (Some a) r =
            rising_same 0 entry.answers (part (has_home h entry) entry ++ (length h, a) ∷ [])
            (answers_rising config h entry w)
            (last_rising 0 (length h) a (part (has_home h entry) entry) rising (omega arith) none_later) each
          where
            each : (u : ℕ) → answer_in entry.answers u ≡ answer_in (part (has_home h entry) entry ++ (length h, a) ∷ []) u
            each u = elim (cases_lt u (length h)) [
              | inl lt ↦ sym (older_same u lt) ∙ sym (behind (answer_in (part (has_home h entry) entry) u))
                  ∙ ap (or_else (answer_in (part (has_home h entry) entry) u)) (sym (skipped u (λ same. before u lt same)))
                  ∙ sym (last_answer (length h) a (part (has_home h entry) entry) u no_own)
              | inr ge ↦ later u ge
                  ∙ ap (λ (o : Option Answer). or_else o (answer_in ((length h, a) ∷ []) u)) (sym (none_later u ge))
                  ∙ sym (last_answer (length h) a (part (has_home h entry) entry) u no_own)
            ]
              where
                behind : (o : Option Answer) → or_else o None ≡ o
                behind None = refl
                behind (Some b) = refl

                before : (v : ℕ) → v < length h → length h ≡ v → ⊥
                before v lt same = omega (arith, lt, same)

                skipped : (v : ℕ) → length h ≢ v → answer_in ((length h, a) ∷ []) v ≡ None
                skipped v ne = rw (eqb-other (length h) v ne) refl

                later : (v : ℕ) → length h ≤ v → answer_in entry.answers v ≡ answer_in ((length h, a) ∷ []) v
                later v ge = elim (cases_lt (length h) v) [
                  | inl gt ↦ past config h entry v w gt ∙ sym (skipped v (λ same. strict v gt same))
                  | inr le ↦ let same : length h ≡ v =
                      omega (arith, ge, le) in ap (answer_in entry.answers) (sym same) ∙ r ∙ sym (rw (sym same, eqb-self (length h)) refl)
                ]
                  where
                    strict : (x : ℕ) → length h < x → length h ≡ x → ⊥
                    strict x gt same = omega (arith, gt, same)

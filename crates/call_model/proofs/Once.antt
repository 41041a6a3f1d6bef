-- No ticket is answered twice, nor before its own entry.
use Rattle.std.proofs.lemmas.Bool.{cases_lt}
use Rattle.std.proofs.Common.{◌≡◌, ℕ, suc, ◌+◌, ◌<◌, ◌≤◌, Bool, true, false, List, [], ◌∷◌, length, Option, Some, None}
use Rattle.std.proofs.Common.{sym, refl, ap, ◌∙◌, inl, inr, arith, ◌≢◌, is_some, is_none, not, ◌&&◌, ◌==◌, map}
use Rattle.std.proofs.Common.{true≢false, if◌then◌else◌}
use Rattle.call_types.specs.declared.answer.Answer.{Answer}
use Rattle.call_types.specs.declared.call.Call.{Call}
use Rattle.call_types.specs.declared.call.Entry.{Entry}
use Rattle.arn_ids.specs.declared.config.Config.{Config}
use Rattle.arn_ids.specs.Environments.{function_of}
use Rattle.std.specs.List.{find}
use Rattle.call_model.specs.History.{answer_in, answer_of, or_else, pending, call_of, is_expiry, requests, upto}
use Rattle.call_model.specs.Life.{life, Lifecycle, names, phase, seen, request_at}
use Rattle.call_model.specs.Stand.{role, NoRole, is_number, at_hand}
use Rattle.call_model.specs.Polls.{delivered, begun}
use Rattle.call_model.specs.Generation.{Generation, Extension, Actor, TheRuntime, TheExtension, parked, if_pending, last_next, extensions, member, members}
use Rattle.call_model.specs.Answers.{each_from, first_answer, other_answer, answer_at, home, second_answer, second_at}
use Rattle.call_model.specs.Answers.{answer_to, answers, first_entry, first_answers}
use Rattle.call_model.specs.Next.{IsLegal, IsLegalBy, IsTimely, Rule}
use Rattle.call_model.proofs.Pairs.{in_each, past_each, numbered_same, eqb-other, is_some_none, times_in, times_each, numbered_times, times_none}
use Rattle.call_model.proofs.Basics.{and_false, some-none}

-- what is pending after an older ticket's history goes on by an entry
pub pending_cons : (entry : Entry) (h : List Entry) (t : ℕ) → t ≢ length h → pending (entry ∷ h) t ≡ (pending h t && is_none (answer_in entry.answers t))
pending_cons entry h t ne = rw (eqb-other t (length h) ne) (go (is_expiry (call_of h t)) (answer_in entry.answers t) (answer_of h t))
  where
    go : (x : Bool) (a b : Option Answer) → (not x && not (is_some (or_else a b))) ≡ ((not x && not (is_some b)) && is_none a)
    go true a b = refl
    go false None None = refl
    go false None (Some b) = refl
    go false (Some a) None = refl
    go false (Some a) (Some b) = refl

no_parked : (h : List Entry) (g : Generation) (actor : Actor) (t : ℕ) → pending h t ≡ false → is_number (parked h g actor) t ≡ false
no_parked h g actor t e = go (last_next g actor)
  where
    at_one : (u : ℕ) (b : Bool) → pending h u ≡ b → is_number (if b then Some u else None) t ≡ false
    at_one u false q = refl
    at_one u true q = eqb-other u t (λ same. true≢false (sym q ∙ ap (pending h) same ∙ e))

    go : (o : Option ℕ) → is_number (if_pending h o) t ≡ false
    go None = refl
    go (Some u) = at_one u (pending h u) refl

no_wait : (config : Config) (h : List Entry) (d : ℕ) (o : Option ℕ) (t : ℕ) → pending h t ≡ false → (is_some (request_at config h d o) && is_number o t) ≡ false
no_wait config h d None t e = refl
no_wait config h d (Some p) t e = at_one (pending h p) refl
  where
    at_one : (b : Bool) → pending h p ≡ b → (is_some (if b then Some (requests (upto h p) (function_of config d)) else None) && (p == t)) ≡ false
    at_one false q = refl
    at_one true q = eqb-other p t (λ same. true≢false (sym q ∙ ap (pending h) same ∙ e))

no_member : (h : List Entry) (g : Generation) (t : ℕ) → pending h t ≡ false → (xs : List Extension)
    → find (λ x. is_number x.next t) (map (member h g) xs) ≡ None
no_member h g t e [] = refl
no_member h g t e (x ∷ xs) = rw (no_parked h g (TheExtension x.count) t e) (no_member h g t e xs)

-- a ticket that isn't pending stands for nothing
pub no_role : (config : Config) (h : List Entry) (d : ℕ) (life : Lifecycle) (t : ℕ) → pending h t ≡ false → role (seen config h d life) t ≡ NoRole
unfolding role seen members
no_role config h d life t e =
    rw
    (no_wait config h d (at_hand life.phase) t e, no_parked h life.generation TheRuntime t e, no_member h life.generation t e (extensions life.generation)) refl

-- a call gives nothing to a ticket that isn't pending, its own aside
pub silent_first : (config : Config) (h : List Entry) (now : ℕ) (call : Call) (t : ℕ) → t ≢ length h
    → pending h t ≡ false → first_answer config h now call t ≡ None
unfolding first_answer
silent_first config h now call t ne e = rw (eqb-other t (length h) ne) (go (home h t))
  where
    at_env : (d : ℕ) (b : Bool) → answer_at config h now d call t b ≡ None
    at_env d true = rw (no_role config h d (life config h d) t e) refl
    at_env d false = refl

    go : (d : Option ℕ) → other_answer config h now call t d ≡ None
    go None = refl
    go (Some d) = at_env d (names h d call)

pub silent_second : (config : Config) (h : List Entry) (entry : Entry) (t : ℕ) → t ≢ length h → pending h t ≡ false → second_answer config h entry t ≡ None
unfolding second_answer
silent_second config h entry t ne e = go (home (entry ∷ h) t)
  where
    no : pending (entry ∷ h) t ≡ false
    no = pending_cons entry h t ne ∙ ap (λ b. b && is_none (answer_in entry.answers t)) e

    nothing : (b : Option (ℕ × ℕ)) → delivered b NoRole ≡ None
    nothing None = refl
    nothing (Some b) = refl

    go : (d : Option ℕ) → second_at config h entry t d ≡ None
    go None = refl
    go (Some d) = rw (no_role config (entry ∷ h) d (life config (entry ∷ h) d) t no) (nothing (begun (phase config h d) (phase config (entry ∷ h) d)))

-- the answer of a ticket in the entry that a call makes, up to its event's number
pub answers_at : (config : Config) (h : List Entry) (now : ℕ) (call : Call) (t : ℕ) → t ≤ length h
    → is_some (answer_in (answers config h now call) t) ≡ is_some (or_else (first_answer config h now call t) (second_answer config h (first_entry config h now call) t))
unfolding answers answer_to first_answers
answers_at config h now call t le =
    numbered_same h entry [] (each_from 0 (suc (length h)) (answer_to config h entry)) t
    ∙ ap is_some (in_each 0 (suc (length h)) t (answer_to config h entry) (omega arith) (omega arith)
    ∙ ap (λ a. or_else a (second_answer config h entry t)) (in_each 0 (suc (length h)) t (first_answer config h now call) (omega arith) (omega arith)))
  where
    entry : Entry
    entry = first_entry config h now call

pub answers_past : (config : Config) (h : List Entry) (now : ℕ) (call : Call) (t : ℕ) → length h < t → answer_in (answers config h now call) t ≡ None
unfolding answers
answers_past config h now call t lt =
    is_some_none _ (numbered_same h (first_entry config h now call) [] (each_from 0 (suc (length h)) (answer_to config h (first_entry config h now call))) t
    ∙ ap is_some (past_each 0 (suc (length h)) t (answer_to config h (first_entry config h now call)) (omega arith)))

-- a call answers no older ticket that isn't pending
pub silent : (config : Config) (h : List Entry) (now : ℕ) (call : Call) (t : ℕ) → t ≢ length h → pending h t ≡ false
    → answer_in (answers config h now call) t ≡ None
silent config h now call t ne e =
    elim (cases_lt t (length h)) [
      | inl lt ↦ is_some_none _ (answers_at config h now call t (omega (arith, lt)) ∙ rw (silent_first config h now call t ne e, silent_second config h (first_entry config h now call) t ne e) refl)
      | inr ge ↦ answers_past config h now call t (omega (arith, ge, ne))
    ]

pub answers_once : (config : Config) (h : List Entry) (now : ℕ) (call : Call) (t : ℕ) → times_in (answers config h now call) t ≤ 1
unfolding answers
answers_once config h now call t =
    rw (numbered_times h (first_entry config h now call) [] (each_from 0 (suc (length h)) (answer_to config h (first_entry config h now call))) t)
    (times_each 0 (suc (length h)) t (answer_to config h (first_entry config h now call)))

-- how many answers of the history have this ticket
abbrev pub times : List Entry → ℕ → ℕ
times [] t = 0
times (entry ∷ h) t = times_in entry.answers t + times h t

-- what isn't in the history yet has no answer
pub fresh_by : (rule : Rule) (config : Config) (h : List Entry) (t : ℕ) → IsLegalBy rule config h → length h ≤ t → answer_of h t ≡ None
fresh_by rule config [] t l le = refl
fresh_by rule config (entry ∷ h) t l le =
    rw (l.1.answers, answers_past config h entry.moment entry.call t (omega arith)) (fresh_by rule config h t l.0 (omega arith))

pub fresh : (config : Config) (h : List Entry) (t : ℕ) → IsLegal config h → length h ≤ t → answer_of h t ≡ None
fresh config h t l le = fresh_by IsTimely config h t l le

times_zero : (h : List Entry) (t : ℕ) → answer_of h t ≡ None → times h t ≡ 0
times_zero [] t e = refl
times_zero (entry ∷ h) t e =
    rw
    (times_none entry.answers t (first (answer_in entry.answers t) (answer_of h t) e), times_zero h t (second (answer_in entry.answers t) (answer_of h t) e)) refl
  where
    first : (a b : Option Answer) → or_else a b ≡ None → a ≡ None
    first None b q = refl
    first (Some a) b q = absurd (cc)

    second : (a b : Option Answer) → or_else a b ≡ None → b ≡ None
    second None b q = q
    second (Some a) b q = absurd (cc)

-- No ticket is answered twice.
pub once : (config : Config) (h : List Entry) (t : ℕ) → IsLegal config h → times h t ≤ 1
once config [] t l = omega arith
once config (entry ∷ h) t l = go (answer_of h t) refl (once config h t l.0)
  where
    same : times_in entry.answers t ≤ 1
    same = rw (l.1.answers) (answers_once config h entry.moment entry.call t)

    go : (a : Option Answer) → answer_of h t ≡ a → times h t ≤ 1 → times_in entry.answers t + times h t ≤ 1
    go None e k = omega (arith, same, times_zero h t e)
    go (Some a) e k = omega (arith, k, none_now)
      where
        ne : t ≢ length h
        ne q = absurd (some-none (sym e ∙ fresh config h t l.0 (omega (arith, q))))

        none_now : times_in entry.answers t ≡ 0
        none_now =
            times_none entry.answers t
            (rw (l.1.answers) (silent config h entry.moment entry.call t ne (ap (λ x. not (is_expiry (call_of h t)) && not (is_some x)) e ∙ and_false (not (is_expiry (call_of h t))))))

-- what is pending after an entry has no answer of it
pub none_given : (entry : Entry) (h : List Entry) (t : ℕ) → pending (entry ∷ h) t ≡ true → answer_in entry.answers t ≡ None
none_given entry h t w = go (is_expiry (call_of (entry ∷ h) t)) (answer_in entry.answers t) (answer_of h t) w
  where
    go : (x : Bool) (a o : Option Answer) → (not x && not (is_some (or_else a o))) ≡ true → a ≡ None
    go x None o r = refl
    go true (Some a) o r = absurd (true≢false (sym r))
    go false (Some a) o r = absurd (true≢false (sym r))

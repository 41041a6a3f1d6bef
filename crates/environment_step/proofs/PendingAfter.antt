-- What an entry leaves pending: what its first answers leave, but for what the second answer.
use Rattle.std.proofs.Common.{◌≡◌, ℕ, ◌<◌, ◌≤◌, Bool, true, false, List, ◌∷◌, length, Option, Some, None, sym, refl, ap}
use Rattle.std.proofs.Common.{◌∙◌, inl, inr, arith, ◌⊎◌, is_some, is_none, not, ◌&&◌, ◌+◌, true≢false, if◌then◌else◌}
use Rattle.std.proofs.Common.{ltb, eqb}
use Rattle.call_types.specs.declared.answer.Answer.{Answer}
use Rattle.call_types.specs.declared.answer.Answer.TheVariants.{Told, Ending, Delivered}
use Rattle.call_types.specs.declared.answer.Phase.{Phase}
use Rattle.call_types.specs.declared.call.Call.{Call}
use Rattle.call_types.specs.declared.call.Call.TheVariants.{Invoke, Tick, Withdraw, Stop, Reserve}
use Rattle.call_types.specs.declared.call.Entry.{Entry}
use Rattle.arn_ids.specs.declared.config.Config.{Config}
use Rattle.arn_ids.specs.Environments.{function_of}
use Rattle.call_model.specs.History.{answer_in, answer_of, pending, call_of, is_expiry, upto, requests, or_else}
use Rattle.call_types.specs.Calls.{env_of, is_invoke}
use Rattle.call_model.specs.Stand.{Stand, at_hand, is_number}
use Rattle.call_model.specs.Table.{is_registered, own_answer, closes, kept}
use Rattle.call_model.specs.Life.{first_part, request_at, concerns, phase, stand, seen, limit_of, registrations}
use Rattle.call_model.specs.Answers.{first_answer, second_answer, first_entry}
use Rattle.call_model.specs.Next.{IsLegal, Follows}
use Rattle.environment_step.specs.After.{step_at, fixed_of, count_at, request_of, if_held, cell_at}
use Rattle.call_model.proofs.Pairs.{eqb-other}
use Rattle.environment_step.proofs.Rising.{passed}
use Rattle.call_model.proofs.AtHand.{IsHeld, held, from_kept, from_closing}
use Rattle.call_model.proofs.BoundWaits.{invoke_second}
use Rattle.environment_step.proofs.Extensions.{own_value, named_here, registrations_more}
use Rattle.environment_step.proofs.FirstValues.{IsFirst, plain_none, entry_is_first, first_valued, early}
use Rattle.call_model.proofs.AnswerValues.{plain, valued}
use Rattle.environment_step.proofs.PhaseAfter.{request_stage}
use Rattle.call_model.proofs.Basics.{eqb-self, some-none}
use Rattle.call_model.proofs.Cells.{stop_own}

none_or : (a b : Option Answer) → is_none (or_else a b) ≡ (is_none a && is_none b)
none_or None b = refl
none_or (Some a) b = refl

pends : (x : Bool) (a p c : Option Answer) (k : Bool) → is_none a ≡ (is_none p && k)
    → (not x && not (is_some (or_else a c))) ≡ ((not x && not (is_some (or_else p c))) && k)
pends true a p c k e = refl
pends false None None None k e = e
pends false None None (Some c) k e = refl
pends false None (Some p) c k e = absurd (true≢false e)
pends false (Some a) None None k e = e
pends false (Some a) None (Some c) k e = refl
pends false (Some a) (Some p) c k e = refl

-- What is pending after an entry.
pub pending_second : (config : Config) (h : List Entry) (entry : Entry) (t : ℕ) → Follows config h entry → t ≤ length h
    → pending (entry ∷ h) t ≡ (pending (first_part entry ∷ h) t && is_none (second_answer config h (first_entry config h entry.moment entry.call) t))
pending_second config h entry t w le =
    pends (is_expiry (call_of (entry ∷ h) t)) (answer_in entry.answers t) (answer_in (first_part entry).answers t) (answer_of h t) (is_none second)
    (plain_none (answer_in entry.answers t) (or_else first second) (ap (λ xs. plain (answer_in xs t)) (w.answers) ∙ valued config h entry.moment entry.call t le)
    ∙ none_or first second
    ∙ ap (λ (b : Bool). b && is_none second) (sym (plain_none (answer_in (first_part entry).answers t) first (k.first t le))))
  where
    first : Option Answer
    first = first_answer config h entry.moment entry.call t

    second : Option Answer
    second = second_answer config h (first_entry config h entry.moment entry.call) t

    k : IsFirst (length h) (first_answer config h entry.moment entry.call) entry
    k = entry_is_first config h entry w

same_pends : (x : Bool) (a b c : Option Answer) → is_none a ≡ is_none b → (not x && not (is_some (or_else a c))) ≡ (not x && not (is_some (or_else b c)))
same_pends x None None c e = refl
same_pends x None (Some b) c e = absurd (true≢false e)
same_pends x (Some a) None c e = absurd (true≢false (sym e))
same_pends x (Some a) (Some b) c e = refl

-- What is pending after the first answers, the entry's or those of the table.
pub pending_first : (config : Config) (h : List Entry) (entry : Entry) (t : ℕ) → Follows config h entry → t ≤ length h
    → pending (first_part entry ∷ h) t ≡ pending (first_entry config h entry.moment entry.call ∷ h) t
pending_first config h entry t w le =
    same_pends (is_expiry (call_of (entry ∷ h) t)) (answer_in (first_part entry).answers t)
    (answer_in (first_entry config h entry.moment entry.call).answers t) (answer_of h t)
    (plain_none (answer_in (first_part entry).answers t) (first_answer config h entry.moment entry.call t) (k.first t le) ∙ ap is_none (sym (first_valued config h entry.moment entry.call t le)))
  where
    k : IsFirst (length h) (first_answer config h entry.moment entry.call) entry
    k = entry_is_first config h entry w

-- The request count of what is at hand after the entry.
pub request_final : (config : Config) (h : List Entry) (entry : Entry) (e : ℕ) (P : Phase) → IsLegal config h
    → Follows config h entry → concerns h e entry ≡ true
    → ((p : ℕ) → at_hand P ≡ Some p → at_hand (cell_at (fixed_of config e) (step_at h entry (count_at config h entry e)) (stand config h e) entry.call) ≡ Some p)
    → request_at config (entry ∷ h) e (at_hand P) ≡ if_held P (request_of (step_at h entry (count_at config h entry e)) (stand config h e) entry.call (at_hand (cell_at (fixed_of config e) (step_at h entry (count_at config h entry e)) (stand config h e) entry.call)))
unfolding seen
request_final config h entry e P l w c from = go (at_hand P) refl
  where
    s : Stand
    s = stand config h e

    cell : Phase
    cell = cell_at (fixed_of config e) (step_at h entry (count_at config h entry e)) s entry.call

    origin : (p : ℕ) → at_hand cell ≡ Some p → ((length h ≡ p) × (is_invoke entry.call ≡ true)) ⊎ (at_hand (phase config h e) ≡ Some p)
    origin p q =
        from_kept entry.moment (limit_of config e entry.moment) (length h) s entry.call p
        (from_closing entry.moment (closes s entry.call) (kept entry.moment (limit_of config e entry.moment) (length h) s entry.call) p q).1

    same_upto : (p : ℕ) (b : Bool)
        → requests (if b then upto h p else (entry ∷ h)) (function_of config e) ≡ requests (if b then upto h p else (first_part entry ∷ h)) (function_of config e)
    same_upto p true = refl
    same_upto p false = refl

    invoked : (p : ℕ) → ((length h ≡ p) × (is_invoke entry.call ≡ true)) ⊎ (at_hand (phase config h e) ≡ Some p)
        → (p ≤ length h) × (is_invoke (call_of (entry ∷ h) p) ≡ true)
    invoked p which = elim which [
      | inl new ↦ (let same : length h ≡ p = new.0 in omega (arith, same), rw (sym new.0, eqb-self (length h)) new.1)
      | inr old ↦ let k : IsHeld h e p =
          held config h e p l old in let lt : p < length h = k.older in (omega (arith, lt), rw (eqb-other p (length h) (omega (arith, lt))) (k.invoke))
    ]

    same : (p : ℕ) → at_hand cell ≡ Some p → request_at config (entry ∷ h) e (Some p) ≡ request_at config (first_part entry ∷ h) e (Some p)
    same p q =
        let k = invoked p (origin p q) in
        ap (λ (b : Bool). if b then Some (requests (upto (entry ∷ h) p) (function_of config e)) else None)
        (pending_second config h entry p w k.0 ∙ unanswered (pending (first_part entry ∷ h) p) (invoke_second config h (first_entry config h entry.moment entry.call) p k.1))
        ∙ ap (λ (n : ℕ). if pending (first_part entry ∷ h) p then Some n else None) (same_upto p (ltb p (length h)))
      where
        unanswered : {a : Option Answer} (b : Bool) → a ≡ None → (b && is_none a) ≡ b
        unanswered true r = ap is_none r
        unanswered false r = refl

    go : (o : Option ℕ) → at_hand P ≡ o
        → request_at config (entry ∷ h) e o ≡ (if is_some o then request_of (step_at h entry (count_at config h entry e)) s entry.call (at_hand cell) else None)
    go None q = refl
    go (Some p) q =
        same p (from p q)
        ∙ request_stage config h entry entry e p l w c refl (entry_is_first config h entry w) (origin p (from p q))
        ∙ ap (request_of (step_at h entry (count_at config h entry e)) s entry.call) (sym (from p q))

registered_plain : (a : Option Answer) → is_registered (plain a) ≡ is_registered a
registered_plain None = refl
registered_plain (Some (Told p d event)) = refl
registered_plain (Some (Ending reason until event)) = refl
registered_plain (Some a) = refl

registered_passed : (a : Option Answer) → is_registered (passed early a) ≡ is_registered a
registered_passed None = refl
registered_passed (Some (Told p d event)) = refl
registered_passed (Some (Delivered p d)) = refl
registered_passed (Some a) = refl

first_is_registered : (n : ℕ) (A : ℕ → Option Answer) (entry : Entry) (t : ℕ) → IsFirst n A entry → t ≤ n
    → is_registered (answer_in entry.answers t) ≡ is_registered (A t)
first_is_registered n A entry t k le =
    sym (registered_passed (answer_in entry.answers t)) ∙ ap is_registered (sym (k.part t))
    ∙ sym (registered_plain (answer_in (first_part entry).answers t)) ∙ ap is_registered (k.first t le)
    ∙ registered_plain (A t)

pub no_own : (s : Stand) (call : Call) → env_of call ≡ None → own_answer s call ≡ None
unfolding own_answer
no_own s (Invoke f qualified trace body) q = refl
no_own s Tick q = refl
no_own s (Withdraw t) q = refl
no_own s Stop q = stop_own s
no_own s (Reserve f count) q = refl
no_own s call q = absurd (some-none q)

-- How many extensions were registered after the entry.
pub registrations_final : (config : Config) (h : List Entry) (entry : Entry) (e : ℕ) → Follows config h entry → concerns h e entry ≡ true
    → registrations (entry ∷ h) e ≡ (if is_registered (own_answer (stand config h e) entry.call) then 1 else 0) + registrations h e
registrations_final config h entry e w c =
    registrations_more h entry e ∙ ap (λ (b : Bool). (if b then 1 else 0) + registrations h e) (go (env_of entry.call) refl)
  where
    go : (o : Option ℕ) → env_of entry.call ≡ o
        → (is_number o e && is_registered (answer_in entry.answers (length h))) ≡ is_registered (own_answer (stand config h e) entry.call)
    go None q = sym (ap is_registered (no_own (stand config h e) entry.call q))
    go (Some d) q = let at : d ≡ e = named_here config h entry e d w q c in
        ap (λ (b : Bool). b && is_registered (answer_in entry.answers (length h))) (ap (λ n. eqb n e) at ∙ eqb-self e)
        ∙ first_is_registered (length h) (first_answer config h entry.moment entry.call) entry (length h) (entry_is_first config h entry w) (omega arith)
        ∙ ap is_registered (own_value config h entry.moment entry.call e (q ∙ ap (λ (n : ℕ). Some n) at))

-- A placed invocation has one fate.
use Rattle.std.proofs.Common.{◌≡◌, ◌≤◌, ◌⊎◌, ℕ, Bool, true, false, cond, ◌+◌, ◌==◌, not, ◌&&◌, List, [], ◌∷◌, Option}
use Rattle.std.proofs.Common.{Some, None, is_some, sym, refl, ◌∙◌, inl, inr, arith, true≢false, count_by, if◌then◌else◌}
use Rattle.arn_ids.specs.Environments.{function_of}
use Rattle.arn_ids.specs.declared.config.Config.{Config}
use Rattle.call_types.specs.declared.answer.Answer.{Answer}
use Rattle.call_types.specs.declared.call.Call.{Call}
use Rattle.call_types.specs.declared.call.Call.TheVariants.{Invoke}
use Rattle.call_types.specs.declared.call.Entry.{Entry}
use Rattle.call_model.specs.History.{answer_in, answer_of, answered, call_of, is_expiry, is_invoke_of, or_else, pending, place_of}
use Rattle.call_model.specs.Laws.{times}
use Rattle.call_model.specs.Next.{IsLegal}
use Rattle.call_model.proofs.AtHand.{held}
use Rattle.call_model.proofs.Basics.{count_cons, eqb-self, number_some}
use Rattle.call_model.proofs.Flight.{placed_of}
use Rattle.call_model.proofs.Lives.{lives}
use Rattle.call_model.proofs.Once.{once}
use Rattle.call_model.proofs.SafeLaws.{bound_nowhere, waits_alone}
use Rattle.headline.specs.Headline.{Waits, Answered, HasOneFate}

same_number : (m n : ℕ) → Some m ≡ Some n → m ≡ n
same_number m n q = cc

-- a ticket that pairs have an answer for stands among them
once_in : (pairs : List (ℕ × Answer)) (t : ℕ) → is_some (answer_in pairs t) ≡ true → 1 ≤ count_by (λ a. a.0 == t) pairs
once_in [] t q = absurd (true≢false (sym q))
once_in (a ∷ rest) t q = rw (count_cons (λ (b : ℕ × Answer). b.0 == t) a rest) (go (a.0 == t) (once_in rest t) q)
  where
    go : (b : Bool) → (is_some (answer_in rest t) ≡ true → 1 ≤ count_by (λ a. a.0 == t) rest)
        → is_some (if b then Some a.1 else answer_in rest t) ≡ true → 1 ≤ cond b 1 0 + count_by (λ a. a.0 == t) rest
    go true k r = omega arith
    go false k r = omega (arith, k r)

-- an answered ticket was answered at least once
once_at_least : (h : List Entry) (t : ℕ) → answered h t ≡ true → 1 ≤ times h t
once_at_least [] t q = absurd (true≢false (sym q))
once_at_least (entry ∷ h) t q = go (answer_in entry.answers t) (once_in entry.answers t) (once_at_least h t) q
  where
    go : (o : Option Answer) → (is_some o ≡ true → 1 ≤ count_by (λ a. a.0 == t) entry.answers)
        → (answered h t ≡ true → 1 ≤ times h t) → is_some (or_else o (answer_of h t)) ≡ true
        → 1 ≤ count_by (λ a. a.0 == t) entry.answers + times h t
    go None a k r = omega (arith, k r)
    go (Some answer) a k r = omega (arith, a refl)

-- an Invoke is no expiry
no_expiry : (f : ℕ) (call : Call) → is_invoke_of f call ≡ true → is_expiry call ≡ false
no_expiry f (Invoke g qualified trace body) q = refl
no_expiry f call q = absurd (true≢false (sym q))

waiting : (config : Config) (h : List Entry) (p e : ℕ) → IsLegal config h → place_of h p ≡ Some e → pending h p ≡ true → Waits config h p e
waiting config h p e l at w = record {
  waits = w;
  there = lives config h e p l (rw at (eqb-self e)) w;
  nowhere_else = λ d q. same_number d e (sym (number_some (place_of h p) d ((held config h d p l q).placed)) ∙ at);
  alone = λ q there_too waits_too. waits_alone config h p q e l at w there_too waits_too;
}

over : (config : Config) (h : List Entry) (p : ℕ) → IsLegal config h → is_expiry (call_of h p) ≡ false → pending h p ≡ false → Answered config h p
over config h p l call w = record {
  once = omega (arith, once config h p l, once_at_least h p (is_answered (is_expiry (call_of h p)) (answered h p) call w));
  over = w;
  nowhere = λ d q. bound_nowhere config h p d l w q;
}
  where
    is_answered : (x b : Bool) → x ≡ false → (not x && not b) ≡ false → b ≡ true
    is_answered true b q r = absurd (true≢false q)
    is_answered false true q r = refl
    is_answered false false q r = absurd (true≢false r)

pub one_fate : (config : Config) (h : List Entry) (p e : ℕ) → IsLegal config h → place_of h p ≡ Some e → HasOneFate config h p e
one_fate config h p e l at = record { invoke = invoke; fate = go (pending h p) refl }
  where
    invoke : is_invoke_of (function_of config e) (call_of h p) ≡ true
    invoke = placed_of config h p e (function_of config e) l at ∙ eqb-self (function_of config e)

    go : (b : Bool) → pending h p ≡ b → Waits config h p e ⊎ Answered config h p
    go true w = inl (waiting config h p e l at w)
    go false w = inr (over config h p l (no_expiry (function_of config e) (call_of h p) invoke) w)

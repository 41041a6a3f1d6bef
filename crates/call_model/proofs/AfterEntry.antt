-- What one more entry changes of what a history says of its tickets.
use Rattle.std.proofs.Common.{◌≡◌, ℕ, ◌+◌, ◌<◌, Bool, cond, List, [], ◌∷◌, ◌++◌, length, Option, Some, None, refl, arith, is_some, is_none, not, ◌&&◌, count_by}
use Rattle.std.proofs.lemmas.List.Sums.{sum_by-cons, sum_by-append}
use Rattle.call_types.specs.declared.answer.Answer.{Answer}
use Rattle.call_types.specs.declared.call.Entry.{Entry}
use Rattle.arn_ids.specs.declared.config.Config.{Config}
use Rattle.call_model.specs.History.{answer_in, answer_of, or_else, pending, call_of, place_of, is_expiry, is_invoke_of, requests}
use Rattle.call_model.specs.Next.{IsLegal}
use Rattle.call_model.proofs.Pairs.{eqb-other}
use Rattle.call_model.proofs.Once.{fresh}
use Rattle.call_model.proofs.Basics.{eqb-self, count_cons}
use Rattle.call_model.specs.Counts.{calls, admitted, answers_that}

-- The new ticket's call is the entry's,
pub call_of_new : (entry : Entry) (h : List Entry) → call_of (entry ∷ h) (length h) ≡ entry.call
call_of_new entry h = rw (eqb-self (length h)) refl

-- and its place the entry's;
pub place_of_new : (entry : Entry) (h : List Entry) → place_of (entry ∷ h) (length h) ≡ entry.place
place_of_new entry h = rw (eqb-self (length h)) refl

-- an older ticket keeps both.
pub call_of_old : (entry : Entry) (h : List Entry) (t : ℕ) → t < length h → call_of (entry ∷ h) t ≡ call_of h t
call_of_old entry h t lt = rw (eqb-other t (length h) (omega (arith, lt))) refl

pub place_of_old : (entry : Entry) (h : List Entry) (t : ℕ) → t < length h → place_of (entry ∷ h) t ≡ place_of h t
place_of_old entry h t lt = rw (eqb-other t (length h) (omega (arith, lt))) refl

-- The new ticket waits where its call is no expiry and has no answer in its own entry.
pub pending_new : (config : Config) (entry : Entry) (h : List Entry) → IsLegal config h
    → pending (entry ∷ h) (length h) ≡ (not (is_expiry entry.call) && is_none (answer_in entry.answers (length h)))
pending_new config entry h l =
    rw (eqb-self (length h), fresh config h (length h) l (omega arith)) (go (not (is_expiry entry.call)) (answer_in entry.answers (length h)))
  where
    go : (b : Bool) (o : Option Answer) → (b && not (is_some (or_else o None))) ≡ (b && is_none o)
    go b None = refl
    go b (Some a) = refl

-- The requests of a function are counted entry by entry.
pub requests_cons : (entry : Entry) (h : List Entry) (f : ℕ) → requests (entry ∷ h) f ≡ cond (is_invoke_of f entry.call) 1 0 + requests h f
requests_cons entry h f = sum_by-cons (λ (x : Entry). cond (is_invoke_of f x.call) 1 0) entry h

-- The answers of a history are those of its newer part, else those of its older.
pub answer_of_append : (added h : List Entry) (t : ℕ) → answer_of (added ++ h) t ≡ or_else (answer_of added t) (answer_of h t)
answer_of_append [] h t = refl
answer_of_append (entry ∷ added) h t = go (answer_in entry.answers t) (answer_of added t) (answer_of h t) (answer_of_append added h t)
  where
    go : (a b c : Option Answer) {d : Option Answer} → d ≡ or_else b c → or_else a d ≡ or_else (or_else a b) c
    go None b c q = q
    go (Some a) b c q = refl

-- The counts of an account grow entry by entry,
pub calls_cons : (entry : Entry) (h : List Entry) → calls (entry ∷ h) ≡ cond (not (is_expiry entry.call)) 1 0 + calls h
calls_cons entry h = count_cons (λ (x : Entry). not (is_expiry x.call)) entry h

pub admitted_cons : (entry : Entry) (h : List Entry) → admitted (entry ∷ h) ≡ cond (is_some entry.place) 1 0 + admitted h
admitted_cons entry h = count_cons (λ (x : Entry). is_some x.place) entry h

pub answers_that_cons : (passes : Answer → Bool) (entry : Entry) (h : List Entry)
    → answers_that passes (entry ∷ h) ≡ count_by (λ a. passes a.1) entry.answers + answers_that passes h
answers_that_cons passes entry h = sum_by-cons (λ (x : Entry). count_by (λ a. passes a.1) x.answers) entry h

-- and part by part.
pub calls_append : (added h : List Entry) → calls (added ++ h) ≡ calls added + calls h
calls_append added h = sum_by-append (λ (x : Entry). cond (not (is_expiry x.call)) 1 0) added h

pub admitted_append : (added h : List Entry) → admitted (added ++ h) ≡ admitted added + admitted h
admitted_append added h = sum_by-append (λ (x : Entry). cond (is_some x.place) 1 0) added h

pub answers_that_append : (passes : Answer → Bool) (added h : List Entry) → answers_that passes (added ++ h) ≡ answers_that passes added + answers_that passes h
answers_that_append passes added h = sum_by-append (λ (x : Entry). count_by (λ a. passes a.1) x.answers) added h

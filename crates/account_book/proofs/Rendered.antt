-- What a reply is made of: calls that the history has, with traces that a header can have.
use Rattle.std.proofs.Common.{◌≡◌, ℕ, suc, ◌<◌, ◌≤◌, ◌==◌, Bool, true, false, cond, List, [], ◌∷◌, length, reverse}
use Rattle.std.proofs.Common.{Option, Some, None, sym, refl, ap, ◌∙◌, subst, arith}
use Rattle.std.proofs.lemmas.Bool.{eqb-true}
use Rattle.std.proofs.lemmas.Option.{same_Some}
use Rattle.std.proofs.lemmas.List.{length-reverse}
use Rattle.arn_ids.specs.declared.config.Config.{Config}
use Rattle.call_types.specs.declared.answer.Answer.{Answer}
use Rattle.call_types.specs.declared.call.Call.{Call}
use Rattle.call_types.specs.declared.call.Call.TheVariants.{Invoke, RuntimeNext, Response, ResponseTooLarge, Failure}
use Rattle.call_types.specs.declared.call.Call.TheVariants.{InitFailure, Register, ExtNext, ExtInitFailure}
use Rattle.call_types.specs.declared.call.Call.TheVariants.{ExtExitFailure, Tick, Withdraw, Spindown, Stop, Expire}
use Rattle.call_types.specs.declared.call.Call.TheVariants.{Reserve}
use Rattle.call_types.specs.declared.call.Entry.{Entry}
use Rattle.call_model.specs.History.{answer_in, answer_of, or_else, call_of, upto}
use Rattle.call_model.specs.Isolation.{named, source_of}
use Rattle.call_model.specs.Next.{IsLegal}
use Rattle.call_model.proofs.Basics.{some-none}
use Rattle.call_model.proofs.NamedTickets.{IsBounded, entry_bounded}
use Rattle.replies.specs.Gists.{IsTraced}
use Rattle.call_model.specs.Isolation.{Gist}
use Rattle.call_model.specs.CallCounts.{request_count}
use Rattle.account_book.specs.ReplyText.{own_gist}
use Rattle.account_book.specs.Taking.{IsKnown, AllKnown}

abbrev pub gist_by : Option Answer → Call → ℕ → Call → ℕ → Gist
gist_by a call count source source_count = record { answer = a; call = call; count = count; source = source; source_count = source_count }

known_traced : (config : Config) (call : Call) → IsKnown config call → IsTraced call
known_traced config (Invoke f qualified trace body) known = known.1
known_traced config (RuntimeNext e) known = tt
known_traced config (Response e id body) known = tt
known_traced config (ResponseTooLarge e id) known = tt
known_traced config (Failure e id body) known = tt
known_traced config (InitFailure e body) known = tt
known_traced config (Register e name invoke shutdown account) known = tt
known_traced config (ExtNext e x) known = tt
known_traced config (ExtInitFailure e x body) known = tt
known_traced config (ExtExitFailure e x body) known = tt
known_traced config Tick known = tt
known_traced config (Withdraw t) known = tt
known_traced config (Spindown e) known = tt
known_traced config Stop known = tt
known_traced config (Expire e) known = tt
known_traced config (Reserve f count) known = tt

newest_traced : (config : Config) (entry : Entry) (h : List Entry) (t : ℕ) → IsKnown config entry.call
    → IsTraced (call_of h t) → (newest : Bool) → IsTraced (cond newest entry.call (call_of h t))
newest_traced config entry h t known older true = known_traced config entry.call known
newest_traced config entry h t known older false = older

-- a call that a book had, and what stands for none past the end
pub all_traced : (config : Config) (h : List Entry) (t : ℕ) → AllKnown config h → IsTraced (call_of h t)
all_traced config [] t known = tt
all_traced config (entry ∷ h) t known = newest_traced config entry h t known.1 (all_traced config h t known.0) (t == length h)

-- a ticket and the one that its answer is made of are below n
abbrev IsBelow : ℕ → ℕ → Answer → Type 0
IsBelow n t a = (t < n) × ((p : ℕ) → named a ≡ Some p → p < n)

bounded_in : (n : ℕ) (pairs : List (ℕ × Answer)) (t : ℕ) (a : Answer) → IsBounded n pairs → answer_in pairs t ≡ Some a → IsBelow (suc n) t a
bounded_in n [] t a bounded is = absurd (some-none (sym is))
bounded_in n (b ∷ rest) t a bounded is = go (b.0 == t) refl is (bounded_in n rest t a bounded.2)
  where
    go : (here : Bool) → (b.0 == t) ≡ here → cond here (Some b.1) (answer_in rest t) ≡ Some a
        → (answer_in rest t ≡ Some a → IsBelow (suc n) t a) → IsBelow (suc n) t a
    go true e q again =
        let same : b.1 ≡ a = same_Some b.1 a q in
        let le : b.0 ≤ n = bounded.0 in
        let at : b.0 ≡ t = eqb-true b.0 t e in
        (omega (arith, le, at), λ p r. let made : p ≤ n = bounded.1 p (ap named same ∙ r) in omega (arith, made))
    go false e q again = again q

all_below : (config : Config) (h : List Entry) (t : ℕ) (a : Answer) → IsLegal config h → answer_of h t ≡ Some a → IsBelow (length h) t a
all_below config [] t a legal is = absurd (some-none (sym is))
all_below config (entry ∷ h) t a legal is = go (answer_in entry.answers t) refl is (all_below config h t a legal.0)
  where
    go : (o : Option Answer) → answer_in entry.answers t ≡ o → or_else o (answer_of h t) ≡ Some a
        → (answer_of h t ≡ Some a → IsBelow (length h) t a) → IsBelow (suc (length h)) t a
    go (Some b) e q again = bounded_in (length h) entry.answers t a (entry_bounded config h entry legal) (e ∙ q)
    go None e q again =
        let older = again q in let first : t < length h = older.0 in (omega (arith, first), λ p r. let made : p < length h = older.1 p r in omega (arith, made))

source_below : (n t : ℕ) (o : Option ℕ) → t < n → ((p : ℕ) → o ≡ Some p → p < n) → source_of t o < n
source_below n t None before made = before
source_below n t (Some p) before made = made p refl

-- an answered ticket, and the one that its answer is made of, are in the history
pub answered_there : (config : Config) (h : List Entry) (t : ℕ) (a : Answer) → IsLegal config h → answer_of h t ≡ Some a
    → (t < length h) × (source_of t (named a) < length h)
answered_there config h t a legal is = let below = all_below config h t a legal is in (below.0, source_below (length h) t (named a) below.0 below.1)

-- the same over the entries from the oldest on
pub answered_here : (config : Config) (entries : List Entry) (t : ℕ) (a : Answer) → IsLegal config (reverse entries)
    → answer_of (reverse entries) t ≡ Some a → (t < length entries) × (source_of t (named a) < length entries)
answered_here config entries t a legal is =
    subst (λ n. (t < n) × (source_of t (named a) < n)) (length-reverse entries) (answered_there config (reverse entries) t a legal is)

-- what is handed in is the gist of the ticket
pub same_gist : (h : List Entry) (t s : ℕ) (a : Answer) (call source : Call) (count source_count : ℕ) → answer_of h t ≡ Some a → s ≡ source_of t (named a)
    → call ≡ call_of h t → count ≡ request_count (upto h t) (call_of h t) → source ≡ call_of h s → source_count ≡ request_count (upto h s) (call_of h s)
    → gist_by (Some a) call count source source_count ≡ own_gist h t
same_gist h t s a call source count source_count is at c n d m = rw (is, sym at, c, n, d, m) refl

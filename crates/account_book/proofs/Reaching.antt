-- What is true of a history that calls led to.
use Rattle.std.proofs.Common.{◌≡◌, ℕ, ◌≤◌, max, true, false, List, [], ◌∷◌, ◌++◌, refl, sym, ap, subst, arith}
use Rattle.std.proofs.Math.Nat.{max-le, max-eq_left, le-max_right}
use Rattle.arn_ids.specs.declared.config.Config.{Config}
use Rattle.call_types.specs.declared.call.Call.{Call}
use Rattle.call_types.specs.declared.call.Call.TheVariants.{Invoke, RuntimeNext, Response, ResponseTooLarge, Failure}
use Rattle.call_types.specs.declared.call.Call.TheVariants.{InitFailure, Register, ExtNext, ExtInitFailure}
use Rattle.call_types.specs.declared.call.Call.TheVariants.{ExtExitFailure, Tick, Withdraw, Spindown, Stop, Expire}
use Rattle.call_types.specs.declared.call.Call.TheVariants.{Reserve}
use Rattle.call_types.specs.declared.call.Entry.{Entry}
use Rattle.call_model.specs.History.{is_expiry}
use Rattle.call_model.specs.Next.{IsLegal, due, entry_of, expiries, entered, moment_at, last_moment, added, next}
use Rattle.call_model.proofs.NextLegal.{legal_next}
use Rattle.call_types.specs.Within.{IsWithin}
use Rattle.arn_ids.specs.Limits.{greatest_moment}
use Rattle.account_book.specs.Reached.{IsTakenAfter, led_to, AreTaken, IsReached}
use Rattle.account_book.proofs.HistoryLines.{AreHandedIn}

-- an account without calls
pub reached_first : (config : Config) (max_entries : ℕ) → IsReached config max_entries []
reached_first config max_entries = record { calls = []; taken = tt; led = refl }

-- one call more
pub reached_next : (config : Config) (max_entries : ℕ) (h : List Entry) (now : ℕ) (call : Call)
    → IsReached config max_entries h → IsTakenAfter config max_entries h now call
    → IsReached config max_entries (next config h now call)
reached_next config max_entries h now call r t = record {
  calls = (now, call) ∷ r.calls;
  taken = (r.taken, subst (λ (k : List Entry). IsTakenAfter config max_entries k now call) r.led t);
  led = ap (λ (k : List Entry). next config k now call) r.led;
}

pub no_expiry : (config : Config) (call : Call) → IsWithin config call → is_expiry call ≡ false
no_expiry config (Expire e) h = absurd h
no_expiry config (Invoke f qualified trace body) h = refl
no_expiry config (RuntimeNext e) h = refl
no_expiry config (Response e n body) h = refl
no_expiry config (ResponseTooLarge e n) h = refl
no_expiry config (Failure e n body) h = refl
no_expiry config (InitFailure e body) h = refl
no_expiry config (Register e name invoke shutdown account) h = refl
no_expiry config (ExtNext e x) h = refl
no_expiry config (ExtInitFailure e x body) h = refl
no_expiry config (ExtExitFailure e x body) h = refl
no_expiry config Tick h = refl
no_expiry config (Withdraw t) h = refl
no_expiry config (Spindown e) h = refl
no_expiry config Stop h = refl
no_expiry config (Reserve f count) h = refl

pub legal : (config : Config) (max_entries : ℕ) (calls : List (ℕ × Call)) → AreTaken config max_entries calls → IsLegal config (led_to config calls)
legal config max_entries [] h = tt
legal config max_entries (c ∷ calls) h = legal_next config (led_to config calls) c.0 c.1 (legal config max_entries calls h.0) (no_expiry config c.1 h.1.timed.1)

-- a history that calls led to is a legal one
pub reached_legal : (config : Config) (max_entries : ℕ) (h : List Entry) → IsReached config max_entries h → IsLegal config h
reached_legal config max_entries h r = subst (IsLegal config) (sym r.led) (legal config max_entries r.calls r.taken)

pub early : (config : Config) (max_entries : ℕ) (calls : List (ℕ × Call)) → AreTaken config max_entries calls
    → last_moment (led_to config calls) ≤ greatest_moment
unfolding next added
early config max_entries [] h = omega arith
early config max_entries (c ∷ calls) h = max-le h.1.timed.0 (early config max_entries calls h.0)

-- ---- the entries that a call adds

-- entries that are expiries
abbrev pub AreExpiries : List Entry → Type 0
AreExpiries [] = Unit {0}
AreExpiries (entry ∷ es) = ((e : ℕ) × (entry.call ≡ Expire e)) × AreExpiries es

expiries-append : (xs ys : List Entry) → AreExpiries xs → AreExpiries ys → AreExpiries (xs ++ ys)
expiries-append [] ys h k = k
expiries-append (x ∷ xs) ys h k = (h.0, expiries-append xs ys h.1 k)

pub are_expiries : (config : Config) (m : ℕ) (es : List ℕ) (h : List Entry) → AreExpiries (expiries config m es h)
are_expiries config m [] h = tt
are_expiries config m (e ∷ es) h =
    expiries-append (expiries config m es (entered config h m (Expire e))) (entry_of config h m (Expire e) ∷ [])
    (are_expiries config m es (entered config h m (Expire e))) ((e, refl), tt)

expiry_is : (call : Call) (e : ℕ) → call ≡ Expire e → is_expiry call ≡ false → ⊥
expiry_is call e is not_one = let one : is_expiry call ≡ true = ap is_expiry is in cc

handed_expiries : (config : Config) (es h : List Entry) → AreExpiries es → AreHandedIn config h → AreHandedIn config (es ++ h)
handed_expiries config [] h x k = k
handed_expiries config (entry ∷ es) h x k = (λ not_one. absurd (expiry_is entry.call x.0.0 x.0.1 not_one), handed_expiries config es h x.1 k)

pub handed_in : (config : Config) (max_entries : ℕ) (calls : List (ℕ × Call)) → AreTaken config max_entries calls → AreHandedIn config (led_to config calls)
unfolding next added
handed_in config max_entries [] h = tt
handed_in config max_entries (c ∷ calls) h =
    let older = led_to config calls in
    let m = moment_at older c.0 in
    (λ not_one. h.1.timed.1, handed_expiries config (expiries config m (due config older m) older) older (are_expiries config m (due config older m) older) (handed_in config max_entries calls h.0))

-- the call's own moment does as well as the one at which it was handed in
max_again : (a b : ℕ) → max (max a b) b ≡ max a b
max_again a b = max-eq_left (le-max_right a b)

pub added_again : (config : Config) (h : List Entry) (now : ℕ) (call : Call) → added config h (moment_at h now) call ≡ added config h now call
unfolding added
added_again config h now call =
    ap (λ (m : ℕ). entry_of config (expiries config m (due config h m) h ++ h) m call ∷ expiries config m (due config h m) h) (max_again now (last_moment h))

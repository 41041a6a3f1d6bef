-- What a step counts, and which entries it adds.
use Rattle.std.proofs.Common.{◌≡◌, ℕ, ◌+◌, ◌-◌, ◌≤◌, Bool, true, false, not, cond, List, [], ◌∷◌, ◌++◌, drop, length, reverse, refl, sym, ap, ◌∙◌, arith}
use Rattle.std.proofs.lemmas.List.{drop_at, length-reverse, reverse-append}
use Rattle.arn_ids.specs.declared.config.Config.{Config}
use Rattle.call_types.specs.declared.call.Call.{Call}
use Rattle.call_types.specs.declared.call.Call.TheVariants.{Expire}
use Rattle.call_types.specs.declared.call.Entry.{Entry}
use Rattle.call_model.specs.Counts.{calls, admitted, throttled, failed, is_throttle, is_failure}
use Rattle.call_model.specs.History.{is_expiry}
use Rattle.call_model.specs.Next.{added, next, expiries, entered, entry_of, moment_at, due}
use Rattle.call_model.proofs.AfterEntry.{calls_cons, calls_append, admitted_append, answers_that_append}
use Rattle.call_types.specs.Within.{IsWithin}
use Rattle.account_book.proofs.Reaching.{no_expiry}
use Rattle.usage_ledger.specs.Counts.{counts, plus}
use Rattle.account_lock.specs.Counting.{counts_of}

pub next_is : (config : Config) (h : List Entry) (now : ℕ) (call : Call) → next config h now call ≡ added config h now call ++ h
unfolding next
next_is config h now call = refl

-- what was added stands behind what was there, the oldest first
pub newest : (es h k : List Entry) (n : ℕ) → k ≡ es ++ h → n ≡ length h → drop n (reverse k) ≡ reverse es
newest es h k n is at =
    ap (λ (x : List Entry). drop n (reverse x)) is ∙ ap (drop n) (reverse-append es h) ∙ drop_at (reverse h) (reverse es) n (length-reverse h ∙ sym at)

no_calls : (config : Config) (m : ℕ) (es : List ℕ) (h : List Entry) → calls (expiries config m es h) ≡ 0
no_calls config m [] h = refl
no_calls config m (e ∷ rest) h =
    calls_append (expiries config m rest (entered config h m (Expire e))) (entry_of config h m (Expire e) ∷ [])
    ∙ omega (arith, no_calls config m rest (entered config h m (Expire e)), calls_cons (entry_of config h m (Expire e)) [])

own_one : (b : Bool) (n : ℕ) → b ≡ false → n ≡ 0 → cond (not b) 1 0 + n ≡ 1
own_one true n e z = cc
own_one false n e z = omega (arith, z)

-- nobody calls an expiry, so a step has one call
pub one_call : (config : Config) (h : List Entry) (now : ℕ) (call : Call) → is_expiry call ≡ false → calls (added config h now call) ≡ 1
unfolding added
one_call config h now call e =
    let m = moment_at h now in
    let es = expiries config m (due config h m) h in
    calls_cons (entry_of config (es ++ h) m call) es ∙ own_one (is_expiry call) (calls es) e (no_calls config m (due config h m) h)

pub one_call_within : (config : Config) (h : List Entry) (now : ℕ) (call : Call) → IsWithin config call → calls (added config h now call) ≡ 1
one_call_within config h now call w = one_call config h now call (no_expiry config call w)

pub admitted_next : (config : Config) (h : List Entry) (now : ℕ) (call : Call)
    → admitted (next config h now call) ≡ admitted (added config h now call) + admitted h
unfolding next
admitted_next config h now call = admitted_append (added config h now call) h

pub throttled_next : (config : Config) (h : List Entry) (now : ℕ) (call : Call)
    → throttled (next config h now call) ≡ throttled (added config h now call) + throttled h
unfolding next
throttled_next config h now call = answers_that_append is_throttle (added config h now call) h

pub failed_next : (config : Config) (h : List Entry) (now : ℕ) (call : Call) → failed (next config h now call) ≡ failed (added config h now call) + failed h
unfolding next
failed_next config h now call = answers_that_append is_failure (added config h now call) h

pub calls_next : (config : Config) (h : List Entry) (now : ℕ) (call : Call) → calls (next config h now call) ≡ calls (added config h now call) + calls h
unfolding next
calls_next config h now call = calls_append (added config h now call) h

counts_same : (a b c d e f g h : ℕ) → a ≡ e → b ≡ f → c ≡ g → d ≡ h → counts a b c d ≡ counts e f g h
counts_same a b c d e f g h p q r s = λ i. counts (p i) (q i) (r i) (s i)

rest_of : (n a b : ℕ) → n ≡ a + b → n - b ≡ a
rest_of n a b q = omega (arith, q)

-- a step's counts: one call, and by how much the others rise
pub rises_are : (config : Config) (h : List Entry) (now : ℕ) (call : Call) → IsWithin config call
    → counts 1 (admitted (next config h now call) - admitted h) (throttled (next config h now call) - throttled h) (failed (next config h now call) - failed h) ≡ counts_of (added config h now call)
rises_are config h now call w =
    counts_same _ _ _ _ _ _ _ _
    (sym (one_call config h now call (no_expiry config call w)))
    (rest_of _ _ _ (admitted_next config h now call))
    (rest_of _ _ _ (throttled_next config h now call))
    (rest_of _ _ _ (failed_next config h now call))

-- the counts of the longer history are those of its two parts
pub counts_next : (config : Config) (h : List Entry) (now : ℕ) (call : Call)
    → plus (counts_of h) (counts_of (added config h now call)) ≡ counts_of (next config h now call)
counts_next config h now call =
    counts_same _ _ _ _ _ _ _ _
    (omega (arith, calls_next config h now call))
    (omega (arith, admitted_next config h now call))
    (omega (arith, throttled_next config h now call))
    (omega (arith, failed_next config h now call))

-- none of the counts falls
pub record Risen (config : Config) (h : List Entry) (now : ℕ) (call : Call) : Type 0 where
  pub admitted : admitted h ≤ admitted (next config h now call)
  pub throttled : throttled h ≤ throttled (next config h now call)
  pub failed : failed h ≤ failed (next config h now call)

pub risen : (config : Config) (h : List Entry) (now : ℕ) (call : Call) → Risen config h now call
risen config h now call = record {
  admitted = omega (arith, admitted_next config h now call);
  throttled = omega (arith, throttled_next config h now call);
  failed = omega (arith, failed_next config h now call);
}

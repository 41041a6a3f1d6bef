-- The calls of a list of requests stand at their tickets, and keep their replies.
use Rattle.std.proofs.Common.{◌≡◌, ◌<◌, ℕ, ◌+◌, ◌-◌, List, [], ◌∷◌, ◌++◌, length, Some, refl, sym, ap, ◌∙◌, subst, arith, length-append, append_assoc}
use Rattle.std.specs.List.{AllZip}
use Rattle.arn_ids.specs.declared.config.Config.{Config}
use Rattle.call_types.specs.declared.call.Call.{Call}
use Rattle.call_types.specs.declared.call.Entry.{Entry}
use Rattle.call_model.specs.History.{call_of}
use Rattle.call_model.specs.Next.{added, due, entry_of, expiries, moment_at, next}
use Rattle.call_model.proofs.AfterEntry.{call_of_new}
use Rattle.lambda_wire.specs.declared.reply.Reply.{Reply}
use Rattle.account_book.specs.Reached.{AreTaken, led_to}
use Rattle.account_book.specs.ReplyText.{reply_text}
use Rattle.account_book.specs.Requests.{tickets_of}
use Rattle.account_book.proofs.RepliesStay.{calls_stay, replies_stay}

-- a call adds entries to the history
next_is : (config : Config) (h : List Entry) (now : ℕ) (call : Call) → next config h now call ≡ added config h now call ++ h
unfolding next
next_is config h now call = refl

-- and at least its own
grows : (config : Config) (h : List Entry) (now : ℕ) (call : Call) → length h < length (next config h now call)
unfolding next added
grows config h now call =
    let es = expiries config (moment_at h now) (due config h (moment_at h now)) h in
    let longer : length (es ++ h) ≡ length es + length h = length-append es h in omega arith

newest : (entry : Entry) (h : List Entry) (ticket : ℕ) → ticket + 1 ≡ length (entry ∷ h) → call_of (entry ∷ h) ticket ≡ entry.call
newest entry h ticket at = let same : length h ≡ ticket = omega (arith, at) in subst (λ (t : ℕ). call_of (entry ∷ h) t ≡ entry.call) same (call_of_new entry h)

-- its newest entry is the call's own
stands : (config : Config) (h : List Entry) (now : ℕ) (call : Call) (ticket : ℕ)
    → ticket + 1 ≡ length (next config h now call) → call_of (next config h now call) ticket ≡ call
unfolding next added
stands config h now call ticket at =
    let m = moment_at h now in
    let es = expiries config m (due config h m) h in newest (entry_of config (es ++ h) m call) (es ++ h) ticket at

-- more calls continue the history
continued : (config : Config) (later earlier : List (ℕ × Call)) → (newer : List Entry) × (led_to config (later ++ earlier) ≡ newer ++ led_to config earlier)
continued config [] earlier = ([], refl)
continued config (c ∷ later) earlier =
    let before = continued config later earlier in
    let h = led_to config (later ++ earlier) in
    let new = added config h c.0 c.1 in
    (new ++ before.0, next_is config h c.0 c.1 ∙ ap (λ (k : List Entry). new ++ k) before.1 ∙ sym (append_assoc new before.0 (led_to config earlier)))

-- a list of calls and their tickets, in any longer history
module _ (config : Config) where
  all_stand : (h : List Entry) (calls : List (ℕ × Call)) (newer : List Entry) → h ≡ newer ++ led_to config calls
      → AllZip (λ ticket c. call_of h ticket ≡ c.1) (tickets_of config calls) calls
  all_stand h [] newer is = tt
  all_stand h (c ∷ calls) newer is =
      let new = added config (led_to config calls) c.0 c.1 in
      let all = led_to config (c ∷ calls) in
      let ticket = length all - 1 in
      let more : length (led_to config calls) < length all = grows config (led_to config calls) c.0 c.1 in
      let at : ticket + 1 ≡ length all = omega (arith, more) in
      let lt : ticket < length all = omega (arith, at) in (
        ap (λ (k : List Entry). call_of k ticket) is
            ∙ calls_stay all newer ticket lt
            ∙ stands config (led_to config calls) c.0 c.1 ticket at,
        all_stand h calls (newer ++ new)
            (is ∙ ap (λ (k : List Entry). newer ++ k) (next_is config (led_to config calls) c.0 c.1)
            ∙ sym (append_assoc newer new (led_to config calls))),
      )

  pub all_there : (calls : List (ℕ × Call)) → AllZip (λ ticket c. call_of (led_to config calls) ticket ≡ c.1) (tickets_of config calls) calls
  all_there calls = all_stand (led_to config calls) calls [] refl

  pub in_order : (c : ℕ × Call) (calls : List (ℕ × Call)) → length (led_to config calls) < length (led_to config (c ∷ calls))
  in_order c calls = grows config (led_to config calls) c.0 c.1

  pub kept : (salt max_entries : ℕ) (later earlier : List (ℕ × Call)) (ticket : ℕ) (reply : Reply) → AreTaken config max_entries (later ++ earlier)
      → reply_text config salt (led_to config earlier) ticket ≡ Some reply
      → reply_text config salt (led_to config (later ++ earlier)) ticket ≡ Some reply
  kept salt max_entries later earlier ticket reply taken given =
      let on = continued config later earlier in
      subst (λ (h : List Entry). reply_text config salt h ticket ≡ Some reply) (sym on.1)
      (replies_stay config salt max_entries (led_to config earlier) on.0 ticket reply
      (record { calls = later ++ earlier; taken = taken; led = sym on.1 }) given)

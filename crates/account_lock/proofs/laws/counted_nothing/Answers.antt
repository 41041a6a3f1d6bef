use Rattle.std.proofs.Common.{◌≡◌, ℕ, ◌+◌, ◌^◌, List, [], ◌∷◌, refl, sym, ap, ◌∙◌, arith}
use Rattle.arn_ids.specs.declared.config.Config.{Config}
use Rattle.call_types.specs.declared.call.Call.{Call}
use Rattle.call_types.specs.declared.call.Entry.{Entry}
use Rattle.call_model.specs.Counts.{calls}
use Rattle.call_model.specs.Next.{next}
use Rattle.account_book.specs.Reached.{AreTaken, IsReached, led_to}
use Rattle.usage_ledger.specs.Counts.{no_counts}
use Rattle.usage_ledger.specs.Tallies.{Tallied, Held, fresh}
use Rattle.account_lock.specs.Counting.{counts_of}
use Rattle.account_lock.specs.Gathered.{counts_in}
use Rattle.account_lock.proofs.Stepping.{calls_next, one_call_within}
use Rattle.account_lock.proofs.laws.counted_nothing.Goals as goal

-- some calls led to this history, which counts none: there were none
none_led : (config : Config) (most : ℕ) (made : List (ℕ × Call)) → AreTaken config most made → calls (led_to config made) ≡ 0 → led_to config made ≡ []
none_led config most [] taken none = refl
none_led config most (c ∷ made) taken none =
    let h = led_to config made in
    let one = one_call_within config h c.0 c.1 taken.1.timed.1 in
    let more : calls (next config h c.0 c.1) ≡ 1 + calls h = calls_next config h c.0 c.1 ∙ ap (λ (n : ℕ). n + calls h) one in
    absurd (omega (arith, more, none))

empty : (config : Config) (most : ℕ) (h : List Entry) → IsReached config most h → counts_of h ≡ no_counts → h ≡ []
empty config most h reached none =
    reached.led ∙ none_led config most reached.calls reached.taken (ap calls (sym reached.led) ∙ ap (λ (c : _). c.calls) none)

-- one tally alone has what it counted itself
alone : (tally : Tallied) → tally.held ≡ fresh (2 ^ 32) → counts_in (tally ∷ []) ≡ no_counts
alone tally is = let same : tally.held.counts ≡ no_counts = ap (λ (held : Held). held.counts) is in rw same refl

pub returns-clause-empty : goal.returns-clause-empty
returns-clause-empty c = empty

pub returns-clause-opened : goal.returns-clause-opened
returns-clause-opened c config most h tally reached is counted = empty config most h reached (sym counted ∙ alone tally is)

-- The moments of a history that calls led to, and the names in its Registers, are in their ranges.
use Rattle.std.proofs.Common.{ℕ, ◌-◌, ◌<◌, ◌^◌, List, [], ◌∷◌, ◌++◌, length, reverse, All, sym, subst, arith}
use Rattle.std.proofs.Math.Nat.{max-le}
use Rattle.std.proofs.lemmas.List.{get_or-reverse, length-reverse}
use Rattle.std.proofs.lemmas.List.Elements.{All-nil, All-cons, All-append}
use Rattle.arn_ids.proofs.Bounds.{label_between}
use Rattle.arn_ids.specs.declared.config.Config.{Config}
use Rattle.call_types.specs.Within.{IsWithin}
use Rattle.call_types.specs.declared.call.Call.{Call}
use Rattle.call_types.specs.declared.call.Call.TheVariants.{Register, Expire}
use Rattle.call_types.specs.declared.call.Entry.{Entry}
use Rattle.call_model.specs.Next.{due, entry_of, entered, expiries, moment_at, added, next}
use Rattle.env_phase.specs.Taking.{registered_name, IsShort}
use Rattle.account_book.specs.Reached.{led_to, AreTaken, IsReached}
use Rattle.account_book.proofs.Reaching.{early}

-- the moment and the name of an entry are in their ranges
abbrev pub IsFit : Entry → Type 0
IsFit entry = (entry.moment < 2 ^ 53) × IsShort (registered_name entry.call)

fit_call : (config : Config) (call : Call) → IsWithin config call → IsShort (registered_name call)
fit_call config (Register e name invoke shutdown account) within = (label_between name within.1).1
fit_call config call within = tt

fit_expiries : (config : Config) (m : ℕ) (es : List ℕ) (h : List Entry) → m < 2 ^ 53 → All IsFit (expiries config m es h)
fit_expiries config m [] h small = All-nil IsFit
fit_expiries config m (e ∷ es) h small =
    All-append IsFit (expiries config m es (entered config h m (Expire e))) (entry_of config h m (Expire e) ∷ [])
    (fit_expiries config m es (entered config h m (Expire e)) small)
    (All-cons IsFit (entry_of config h m (Expire e)) [] (small, tt) (All-nil IsFit))

fit_calls : (config : Config) (max_entries : ℕ) (calls : List (ℕ × Call)) → AreTaken config max_entries calls → All IsFit (led_to config calls)
unfolding next added
fit_calls config max_entries [] taken = All-nil IsFit
fit_calls config max_entries (c ∷ calls) taken =
    let older : List Entry = led_to config calls in
    let m : ℕ = moment_at older c.0 in
    let es : List Entry = expiries config m (due config older m) older in
    let last = max-le taken.1.timed.0 (early config max_entries calls taken.0) in
    let small : m < 2 ^ 53 = omega (arith, last) in
    All-append IsFit (entry_of config (es ++ older) m c.1 ∷ es) older
    (All-cons IsFit (entry_of config (es ++ older) m c.1) es (small, fit_call config c.1 taken.1.timed.1) (fit_expiries config m (due config older m) older small))
    (fit_calls config max_entries calls taken.0)

pub fit_reached : (config : Config) (max_entries : ℕ) (h : List Entry) → IsReached config max_entries h → All IsFit h
fit_reached config max_entries h r = subst (All IsFit) (sym r.led) (fit_calls config max_entries r.calls r.taken)

-- the oldest first
pub fit_reversed : (h : List Entry) → All IsFit h → All IsFit (reverse h)
fit_reversed h fit = λ i d lt.
    let within : i < length h = omega (arith, lt, length-reverse h) in
    subst IsFit (sym (get_or-reverse h i d within)) (fit (length h - 1 - i) d (omega (arith, within)))

-- What tallies have together, one tally more or less at a time.
use Rattle.std.proofs.Common.{◌≡◌, ℕ, ◌+◌, ◌<◌, List, [], ◌∷◌, ◌++◌, length, take, get_or, sym, ap, ◌∙◌, arith}
use Rattle.std.specs.List.{sum_by}
use Rattle.std.proofs.lemmas.List.Sums.{sum_by_push, sum_by_more}
use Rattle.usage_ledger.specs.declared.counts.Counts.{Counts}
use Rattle.usage_ledger.specs.Counts.{counts, plus}
use Rattle.usage_ledger.specs.Tallies.{Tallied}
use Rattle.account_lock.specs.Gathered.{parts_in, counts_in}

-- a sum with one tally more
pub tally_more : (f : Tallied → ℕ) (tallies : List Tallied) (i : ℕ) (tally : Tallied) → i < length tallies → tally ≡ get_or tallies i tally
    → sum_by f (take (i + 1) tallies) ≡ sum_by f (take i tallies) + f tally
tally_more f tallies i tally at is = sum_by_more f tallies i tally at ∙ ap (λ x. sum_by f (take i tallies) + f x) (sym is)

counts_same : (a b c d e f g h : ℕ) → a ≡ e → b ≡ f → c ≡ g → d ≡ h → counts a b c d ≡ counts e f g h
counts_same a b c d e f g h p q r s = λ i. counts (p i) (q i) (r i) (s i)

pub parts_in-push : (rest : List Tallied) (tally : Tallied) → parts_in (rest ++ tally ∷ []) ≡ tally.held.parts + parts_in rest
parts_in-push rest tally = omega (arith, sum_by_push (λ (x : Tallied). x.held.parts) rest tally)

pub counts_in-push : (rest : List Tallied) (tally : Tallied) → counts_in (rest ++ tally ∷ []) ≡ plus tally.held.counts (counts_in rest)
counts_in-push rest tally =
    counts_same _ _ _ _ _ _ _ _
    (omega (arith, sum_by_push (λ (x : Tallied). x.held.counts.calls) rest tally))
    (omega (arith, sum_by_push (λ (x : Tallied). x.held.counts.admitted) rest tally))
    (omega (arith, sum_by_push (λ (x : Tallied). x.held.counts.throttled) rest tally))
    (omega (arith, sum_by_push (λ (x : Tallied). x.held.counts.failed) rest tally))

plus_assoc : (a b c : Counts) → plus (plus a b) c ≡ plus a (plus b c)
plus_assoc a b c = counts_same _ _ _ _ _ _ _ _ (omega arith) (omega arith) (omega arith) (omega arith)

-- one tally more is taken over
pub taken : (all was rest : List Tallied) (tally : Tallied) (now one : Counts) → was ≡ rest ++ tally ∷ [] → now ≡ plus one tally.held.counts
    → plus one (counts_in was) ≡ counts_in all → plus now (counts_in rest) ≡ counts_in all
taken all was rest tally now one is now_is so_far =
    ap (λ (c : Counts). plus c (counts_in rest)) now_is ∙ plus_assoc one tally.held.counts (counts_in rest)
    ∙ ap (plus one) (sym (counts_in-push rest tally)) ∙ ap (λ (ts : List Tallied). plus one (counts_in ts)) (sym is) ∙ so_far

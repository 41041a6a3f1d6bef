use Rattle.std.proofs.Common.{◌≡◌, ℕ, ◌+◌, ◌<◌, ◌≤◌, List, take, vec_len, sym, ap, ◌∙◌, subst}
use Rattle.std.proofs.lemmas.List.{take_all}
use Rattle.usage_ledger.specs.Tallies.{Tallied}
use Rattle.account_lock.specs.Failing.{FirstFailure}
use Rattle.account_lock.specs.Gathered.{occurrences, occurrences_in}
use Rattle.account_lock.specs.Marking.{marked}
use Rattle.account_lock.proofs.FirstFailures.{counted_more, marked_more}
use Rattle.account_lock.proofs.Gathering.{tally_more}
use Rattle.account_lock.proofs.settle.claims.mark_claims.Goals as goal

pub loop-tally-preserved : goal.loop-tally-preserved
loop-tally-preserved g c =
    let part = g.C.Claim.part in
    let tallies = c.args.tallies.now in
    let i = c.loop-tally.tally-index in
    let tally = c.tally-item.result in
    let inv = c.loop-tally.invariant in
    let sum = λ (t : ℕ). occurrences_in part t (take i tallies) in
    let next = λ (t : ℕ). occurrences_in part t (take (i + 1) tallies) in
    let now = λ (t : ℕ). marked t c.loop-tally.marks.items in
    let more = λ (t : ℕ). occurrences t c.kept.result.now in
    let grows : (t : ℕ) → next t ≡ sum t + more t =
    λ t. tally_more (λ (x : Tallied). occurrences t (part x.held.kept)) tallies i tally c.loop-tally-test.true c.tally-item.is
    ∙ ap (λ (ps : List (ℕ × g.row.C.Denot)). sum t + occurrences t ps) (sym c.kept.ensures) in
    record {
      len = c.mark_pairs.ensures.len ∙ inv.len;
      marks =
          λ t lt. marked_more (sum t) (now t) (more t) (next t) (marked t c.mark_pairs.new.marks.items) (inv.marks t lt) (c.mark_pairs.ensures.marks t (rw inv.len lt)) (grows t);
      twice = subst (FirstFailure (λ t. t < vec_len c.args.marks.now → next t ≤ 1)) (sym c.lesser-twice.ensures)
          (counted_more (vec_len c.args.marks.now) sum now more next c.loop-tally.twice c.mark_pairs.result inv.marks grows inv.twice (subst (λ (n : ℕ). FirstFailure (λ t. t < n → now t + more t ≤ 1) c.mark_pairs.result) inv.len c.mark_pairs.ensures.twice));
    }

pub returns-clause-twice : goal.returns-clause-twice
returns-clause-twice g c =
    subst (λ (ts : List Tallied). FirstFailure (λ t. t < vec_len c.args.marks.now → occurrences_in g.C.Claim.part t ts ≤ 1) c.loop-tally.twice)
    (take_all c.loop-tally.tally-index c.args.tallies.now c.loop-tally-test.false) c.loop-tally.invariant.twice

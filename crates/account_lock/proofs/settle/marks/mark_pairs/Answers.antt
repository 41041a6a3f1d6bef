use Rattle.std.proofs.Common.{◌≡◌, ℕ, ◌+◌, ◌<◌, ◌≤◌, ◌==◌, cond, List, take, get_or, vec_len, sym, ap, ◌∙◌, subst, arith}
use Rattle.std.proofs.lemmas.List.{take_all}
use Rattle.std.proofs.lemmas.List.Sums.{sum_by_more}
use Rattle.account_lock.specs.Failing.{FirstFailure}
use Rattle.account_lock.specs.Gathered.{occurrences}
use Rattle.account_lock.specs.Marking.{marked, is_at}
use Rattle.account_lock.proofs.FirstFailures.{counted_more, marked_more}
use Rattle.account_lock.proofs.settle.marks.mark_pairs.Goals as goal

pub loop-pair-preserved : goal.loop-pair-preserved
loop-pair-preserved g c =
    let pairs = c.args.pairs.now in
    let i = c.loop-pair.pair-index in
    let pair = c.pair-item.result in
    let inv = c.loop-pair.invariant in
    let was = λ (t : ℕ). marked t c.args.marks.now.items in
    let sum = λ (t : ℕ). was t + occurrences t (take i pairs) in
    let next = λ (t : ℕ). was t + occurrences t (take (i + 1) pairs) in
    let now = λ (t : ℕ). marked t c.loop-pair.marks.items in
    let more = λ (t : ℕ). is_at t pair.0 in
    let here : (t : ℕ) → cond ((get_or pairs i pair).0 == t) 1 0 ≡ is_at t pair.0 = λ t. ap (λ (p : ℕ × g.row.X.Denot). cond (p.0 == t) 1 0) (sym c.pair-item.is) in
    let grows : (t : ℕ) → next t ≡ sum t + more t = λ t. omega (arith, sum_by_more (λ (p : ℕ × g.row.X.Denot). cond (p.0 == t) 1 0) pairs i pair c.loop-pair-test.true, here t) in
    record {
      len = c.mark.ensures.len ∙ inv.len;
      marks =
          λ t lt. marked_more (sum t) (now t) (more t) (next t) (marked t c.mark.new.marks.items) (inv.marks t lt) (c.mark.ensures.marks t (rw inv.len lt)) (grows t);
      twice = subst (FirstFailure (λ t. t < vec_len c.args.marks.now → next t ≤ 1)) (sym c.lesser-twice.ensures)
          (counted_more (vec_len c.args.marks.now) sum now more next c.loop-pair.twice c.mark.result inv.marks grows inv.twice (subst (λ (n : ℕ). FirstFailure (λ t. t < n → now t + more t ≤ 1) c.mark.result) inv.len c.mark.ensures.twice));
    }

pub returns-clause-twice : goal.returns-clause-twice
returns-clause-twice g c =
    subst
    (λ (xs : List (ℕ × g.row.X.Denot)). FirstFailure (λ t. t < vec_len c.args.marks.now → marked t c.args.marks.now.items + occurrences t xs ≤ 1) c.loop-pair.twice)
    (take_all c.loop-pair.pair-index c.args.pairs.now c.loop-pair-test.false) c.loop-pair.invariant.twice

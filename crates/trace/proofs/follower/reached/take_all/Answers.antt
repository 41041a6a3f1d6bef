use Rattle.std.proofs.Common.{◌∙◌, ◌++◌, ℕ, List, map, take, drop, get_or, set, sym, ap, ap₂, add-one}
use Rattle.trace.specs.declared.follower.followed.Followed.{Followed}
use Rattle.trace.specs.Sites.{moved_by}
use Rattle.fleet.proofs.Loops.{not_yet, one_more}
use Rattle.trace.proofs.follower.reached.take_all.Goals as goal

pub loop-index-preserved : goal.loop-index-preserved
loop-index-preserved c =
    let n : ℕ = c.loop-index.index in
    let s : Followed = c.index-sites-index.result in
    let first : List Followed = c.args.sites.now in
    ap (set c.loop-index.sites n) c.take.ensures
    ∙ ap₂ (λ (xs : List Followed) (x : Followed). set xs n (moved_by c.args.arrival.now x)) c.loop-index.invariant
    (ap (λ (xs : List Followed). get_or xs n s) c.loop-index.invariant ∙ not_yet (moved_by c.args.arrival.now) first n s c.loop-index-test.true)
    ∙ one_more (moved_by c.args.arrival.now) first n s c.loop-index-test.true
    ∙ ap (λ (m : ℕ). map (moved_by c.args.arrival.now) (take m first) ++ drop m first) (sym (add-one n))

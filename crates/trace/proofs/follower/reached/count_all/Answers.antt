use Rattle.std.proofs.Common.{◌∙◌, ◌++◌, ℕ, List, map, take, drop, get_or, set, sym, ap, ap₂, add-one}
use Rattle.trace.specs.declared.follower.followed.Followed.{Followed}
use Rattle.trace.specs.Sites.{counted_in}
use Rattle.fleet.proofs.Loops.{not_yet, one_more}
use Rattle.trace.proofs.Reaching.{nothing_counted}
use Rattle.trace.proofs.follower.reached.count_all.Goals as goal

pub loop-index-preserved : goal.loop-index-preserved
loop-index-preserved c =
    let n : ℕ = c.loop-index.index in
    let s : Followed = c.index-sites-index.result in
    let first : List Followed = c.args.sites.now in
    ap (set c.loop-index.sites n) c.count.ensures
    ∙ ap₂ (λ (xs : List Followed) (x : Followed). set xs n (counted_in c.args.call.now x)) c.loop-index.invariant
    (ap (λ (xs : List Followed). get_or xs n s) c.loop-index.invariant ∙ not_yet (counted_in c.args.call.now) first n s c.loop-index-test.true)
    ∙ one_more (counted_in c.args.call.now) first n s c.loop-index-test.true
    ∙ ap (λ (m : ℕ). map (counted_in c.args.call.now) (take m first) ++ drop m first) (sym (add-one n))

pub returns-else-is_invoke : goal.returns-else-is_invoke
returns-else-is_invoke c = nothing_counted c.args.call.now c.args.sites.now (sym c.is_invoke.ensures ∙ c.if-is_invoke.false)

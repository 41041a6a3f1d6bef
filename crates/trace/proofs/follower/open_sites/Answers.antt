use Rattle.std.proofs.Common.{◌∙◌, ◌+◌, ◌++◌, ◌∷◌, [], List, sym, ap₂, arith}
use Rattle.trace.specs.Sites.{site}
use Rattle.trace.specs.declared.follower.followed.Followed.{Followed}
use Rattle.fleet.proofs.Loops.{count_more}
use Rattle.trace.proofs.follower.open_sites.Goals as goal

pub loop-index-preserved : goal.loop-index-preserved
loop-index-preserved c =
    c.in_ok-push.ensures.items
    ∙ ap₂ (λ (xs : List Followed) (x : Followed). xs ++ x ∷ []) c.loop-index.invariant c.in_ok-open_site.ensures
    ∙ sym (count_more (site c.args.config.now []) 1 c.loop-index.index (c.loop-index.index + 1) (omega arith))

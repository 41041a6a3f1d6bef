use Rattle.std.proofs.Common.{◌∙◌, ◌+◌, ◌++◌, ◌∷◌, [], List, sym, ap₂, arith}
use Rattle.fleet.specs.declared.site.Site.{Site}
use Rattle.fleet.specs.Sites.{site}
use Rattle.fleet.proofs.Loops.{count_more}
use Rattle.account_book.proofs.opening.open_sites.Goals as goal

pub loop-index-preserved : goal.loop-index-preserved
loop-index-preserved c =
    c.in_ok-push.ensures.items
    ∙ ap₂ (λ (xs : List Site) (x : Site). xs ++ x ∷ []) c.loop-index.invariant c.in_ok-open.ensures
    ∙ sym (count_more (site c.args.config.now []) 1 c.loop-index.index (c.loop-index.index + 1) (omega arith))

use Rattle.std.proofs.Common.{sym, subst}
use Rattle.call_types.specs.declared.call.Entry.{Entry}
use Rattle.std.specs.Prelude.{List}
use Rattle.headline.specs.Headline.{Headline}
use Rattle.headline.proofs.Holding.{holds_as}
use Rattle.headline.proofs.readers.settle.Goals as goal

pub returns-clause-headline : goal.returns-clause-headline
returns-clause-headline g c =
    let done = c.in_ok-done.done in
    let own = holds_as done.0.book.config g.S.Identity.config done.0.book.history done.0.stats c.in_ok-done.ensures.book.0 c.facts.ensures.legal c.in_ok-done.ensures.book.1 in
    subst (λ (h : List Entry). Headline g.S.Identity.config h done.0.stats) (sym c.in_ok-done.ensures.whole.0) own

use Rattle.std.proofs.Common.{ℕ, length, sym, ap, max, ◌∙◌}
use Rattle.call_model.specs.Next.{due}
use Rattle.account_book.proofs.book.Book.count_due.Goals as goal

pub returns-clause-value : goal.returns-clause-value
returns-clause-value c =
    let j = c.self.inside.journal in
    rw (sym c.self.view_is)
    (c.count_due.ensures.value ∙ ap (λ (m : ℕ). length (due j.config j.history m)) (c.max.ensures ∙ ap (max c.args.now) c.last_moment-last.ensures.value))

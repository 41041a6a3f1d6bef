use Rattle.std.proofs.lemmas.List.{length-reverse}
use Rattle.std.proofs.lemmas.Result.{on_ok_weaker}
use Rattle.account_book.proofs.Fitting.{fit_reached, fit_reversed}
use Rattle.trace_replay.proofs.Lines.{line_added, line_of}
use Rattle.trace_replay.proofs.history.push_line.Goals as goal

pub follow-requires-clause-few : goal.follow-requires-clause-few
follow-requires-clause-few c = rw (c.past-past.ensures.entries, length-reverse) c.requires.few

pub follow-requires-clause-fit : goal.follow-requires-clause-fit
follow-requires-clause-fit c =
    let book = c.args.book.now in
    rw c.past-past.ensures.entries (fit_reversed book.history (fit_reached book.config book.max_entries book.history c.facts.ensures.reached))

pub returns-clause-ok : goal.returns-clause-ok
returns-clause-ok c =
    let drafted = rw (c.past-past.ensures.config, c.past-past.ensures.salt) at c.in_ok-object.ensures in
    on_ok_weaker c.push_to.result
    (λ added. line_added c.args.bodies c.args.book.now c.past-past.result.entries.now.0 c.args.ticket _ _ c.past-past.ensures.entries c.requires.there (λ d. line_of _ _ _ _ _ _ _ _ _ (drafted d) added))
    c.push_to.ensures.ok

use Rattle.std.proofs.Common.{reverse, sym, arith, refl}
use Rattle.std.proofs.lemmas.List.{length-reverse}
use Rattle.call_types.specs.declared.call.Call.TheVariants.{Invoke}
use Rattle.call_model.specs.Next.{entry_of}
use Rattle.account_book.proofs.RequestCounts.{counts_length, request_at, requests_few, counts_after_invoke, one_more}
use Rattle.account_book.proofs.answering.count_call.Goals as goal

pub bounds-requests-index : goal.bounds-requests-index
bounds-requests-index c =
    let w = (rw c.in-Invoke.is at c.requires.known).0 in
    rw (c.requires.counts, counts_length c.args.config.now (reverse c.args.entries.now.0)) (omega (arith, w.0, w.1))

pub bounds-requests-index-in-Invoke : goal.bounds-requests-index-in-Invoke
bounds-requests-index-in-Invoke c =
    let w = (rw c.in-Invoke.is at c.requires.known).0 in
    rw (c.requires.counts, counts_length c.args.config.now (reverse c.args.entries.now.0)) (omega (arith, w.0, w.1))

pub overflow_add-count : goal.overflow_add-count
overflow_add-count c =
    let w = (rw c.in-Invoke.is at c.requires.known).0 in
    rw (c.requires.counts, request_at c.args.config.now (reverse c.args.entries.now.0) c.in-Invoke.function 0 w.0 w.1)
    (omega (arith, requests_few (reverse c.args.entries.now.0) c.in-Invoke.function, length-reverse c.args.entries.now.0))

pub returns-in-Invoke-clause-counts : goal.returns-in-Invoke-clause-counts
returns-in-Invoke-clause-counts c =
    let w = (rw c.in-Invoke.is at c.requires.known).0 in
    rw (c.requires.counts, request_at c.args.config.now (reverse c.args.entries.now.0) c.in-Invoke.function 0 w.0 w.1)
    (sym (counts_after_invoke c.args.config.now (reverse c.args.entries.now.0) (entry_of c.args.config.now (reverse c.args.entries.now.0) c.args.moment c.args.call.now) c.in-Invoke.function c.in-Invoke.qualified c.in-Invoke.trace c.in-Invoke.body c.in-Invoke.is w.0 w.1))

pub returns-in-Invoke-clause-count : goal.returns-in-Invoke-clause-count
returns-in-Invoke-clause-count c =
    let w = (rw c.in-Invoke.is at c.requires.known).0 in
    rw (c.requires.counts, request_at c.args.config.now (reverse c.args.entries.now.0) c.in-Invoke.function 0 w.0 w.1, c.in-Invoke.is)
    (sym (one_more (reverse c.args.entries.now.0) (entry_of c.args.config.now (reverse c.args.entries.now.0) c.args.moment (Invoke c.in-Invoke.function c.in-Invoke.qualified c.in-Invoke.trace c.in-Invoke.body)) c.in-Invoke.function c.in-Invoke.qualified c.in-Invoke.trace c.in-Invoke.body refl))

use Rattle.usage_ledger.specs.Keeping.{Steps}
use Rattle.usage_ledger.proofs.tally.Tally.join.Goals as goal

-- The receipts lead from what the first one kept to what is between, and the calls from there to what is kept.
pub returns-clause-kept : goal.returns-clause-kept
returns-clause-kept g c =
    let receipts = c.kept-2.ensures in
    let calls = c.calls-2.ensures in
    let between = c.take_receipts.new.self.held.kept in (
      between,
      coe 0 1 (i. Steps g.K.Keep.notes (c.room.ensures.same i).kept (receipts i) between) c.take_receipts.ensures.kept,
      coe 1 0 (i. Steps g.K.Keep.makes between c.args.other.held.kept.calls (c.absorb.ensures i).held.kept)
          (coe 0 1 (i. Steps g.K.Keep.makes between (calls i) c.take_calls.new.self.held.kept) c.take_calls.ensures.kept),
    )

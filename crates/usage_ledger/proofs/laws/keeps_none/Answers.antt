use Rattle.usage_ledger.proofs.Appending.{nothing_appended}
use Rattle.usage_ledger.proofs.laws.keeps_none.Goals as goal

pub returns : goal.returns
returns c = record { receipts = nothing_appended; calls = nothing_appended }

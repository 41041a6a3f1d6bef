use Rattle.usage_ledger.proofs.Appending.{receipts_appended, calls_appended}
use Rattle.usage_ledger.proofs.laws.keeps_all.Goals as goal

pub returns : goal.returns
returns c = record { receipts = receipts_appended; calls = calls_appended }

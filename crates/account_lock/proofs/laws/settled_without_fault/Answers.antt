use Rattle.std.proofs.Common.{◌≡◌, Bool, List, refl}
use Rattle.call_types.specs.declared.call.Entry.{Entry}
use Rattle.usage_ledger.specs.Tallies.{Tallied}
use Rattle.account_lock.specs.declared.settle.fault.SettleFault.{SettleFault}
use Rattle.account_lock.specs.declared.settle.fault.SettleFault.TheVariants.{TallyMissing, OutOfMemory, ReceiptDiffers, ReceiptMissing, CallDiffers}
use Rattle.account_lock.specs.Settlement.{IsSettled, IsFault}
use Rattle.account_lock.proofs.laws.settled_without_fault.Goals as goal

no_fault : (all : Bool) (h : List Entry) (tallies : List Tallied) (fault : SettleFault) → IsSettled all h tallies
    → IsFault all fault h tallies → fault ≡ OutOfMemory
no_fault all h tallies TallyMissing settled fault = absurd (fault settled.parts)
no_fault all h tallies OutOfMemory settled fault = refl
no_fault all h tallies (ReceiptDiffers t) settled fault = absurd (fault.1.0 (settled.kept.receipts t))
no_fault all h tallies (ReceiptMissing t) settled fault = absurd (fault.3.0 (settled.kept.answered fault.2 t))
no_fault all h tallies (CallDiffers t) settled fault = absurd (fault.3.0 (settled.kept.calls t))

pub returns : goal.returns
returns c = no_fault

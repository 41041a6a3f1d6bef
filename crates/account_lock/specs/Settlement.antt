-- When an account is settled, and why it may not be.
use Rattle.std.specs.Prelude.{◌≡◌, ◌≢◌, ℕ, ◌<◌, ◌≤◌, ◌^◌, Bool, true, false, if◌then◌else◌}
use Rattle.std.specs.Prelude.{List, [], ◌∷◌, Option, Some, None, is_some, All}
use Rattle.call_types.specs.declared.call.Call.{Call}
use Rattle.call_types.specs.declared.call.Entry.{Entry}
use Rattle.call_types.specs.declared.head.Head.{Head}
use Rattle.call_types.specs.Heads.{head_of}
use Rattle.call_model.specs.History.{answer_of, answered, call_of, is_expiry}
use Rattle.usage_ledger.specs.Keeping.{Kept}
use Rattle.usage_ledger.specs.Tallies.{Tallied}
use Rattle.account_lock.specs.Counting.{counts_of}
use Rattle.account_lock.specs.Gathered.{parts_in, counts_in, occurrences, receipts_of, calls_of}
use Rattle.account_lock.specs.Failing.{FailsFirstAt}
use Rattle.account_lock.specs.declared.settle.fault.SettleFault.{SettleFault}
use Rattle.account_lock.specs.declared.settle.fault.SettleFault.TheVariants.{TallyMissing, OutOfMemory}
use Rattle.account_lock.specs.declared.settle.fault.SettleFault.TheVariants.{ReceiptDiffers, ReceiptMissing}
use Rattle.account_lock.specs.declared.settle.fault.SettleFault.TheVariants.{CallDiffers}

-- The head of a call that a caller made; an expiry has none.
abbrev pub made : Call → Option Head
made call = if is_expiry call then None else Some (head_of call)

-- The head of the call with a ticket; past the end there is none, and an expiry has none.
abbrev pub head_at : List Entry → ℕ → Option Head
head_at h t = made (call_of h t)

-- Each pair with this ticket has what is wanted there.
abbrev pub Agree : {X : Type 0} → (ℕ → Option X) → List (ℕ × X) → ℕ → Type 0
Agree wanted pairs t = All (λ pair. pair.0 ≡ t → wanted t ≡ Some pair.1) pairs

-- The same of this part of what each tally keeps.
abbrev pub AllAgree : {X : Type 0} → (ℕ → Option X) → (Kept → List (ℕ × X)) → List Tallied → ℕ → Type 0
AllAgree wanted part tallies t = All (λ tally. Agree wanted (part tally.held.kept) t) tallies

-- In the list, the ticket does not follow a greater one.
abbrev pub Rises : {X : Type 0} → List (ℕ × X) → ℕ → Type 0
Rises [] t = Unit {0}
Rises (pair ∷ pairs) t = (t < pair.0 → occurrences t pairs ≡ 0) × Rises pairs t

-- If no join made the tally, the ticket does not follow a greater one in what it keeps.
abbrev pub RisesUnjoined : Tallied → ℕ → Type 0
RisesUnjoined tally t = tally.held.joined ≡ false → Rises tally.held.kept.calls t

-- The same of each tally.
abbrev pub AllRise : List Tallied → ℕ → Type 0
AllRise tallies t = All (λ tally. RisesUnjoined tally t) tallies

-- Each receipt of the ticket is the history's answer.
abbrev pub ReceiptsAgree : List Entry → List Tallied → ℕ → Type 0
ReceiptsAgree h = AllAgree (answer_of h) (λ kept. kept.receipts)

-- If the ticket was answered, it has a receipt.
abbrev pub HasReceipt : List Entry → List Tallied → ℕ → Type 0
HasReceipt h tallies t = answered h t ≡ true → 1 ≤ receipts_of t tallies

-- What tallies keep of the call with a ticket is right: each kept head is that of the entry; it is kept at most once;
-- in a tally that no join made, it comes after no greater ticket; and if all calls should be kept, a call that is not
-- an expiry is kept.
pub record CallsAgree (all : Bool) (h : List Entry) (tallies : List Tallied) (t : ℕ) : Type 0 where
  pub heads : AllAgree (head_at h) (λ kept. kept.calls) tallies t
  pub once : calls_of t tallies ≤ 1
  pub rising : AllRise tallies t
  pub kept : all ≡ true → is_some (head_at h t) ≡ true → 1 ≤ calls_of t tallies

-- What tallies keep is right at each ticket; if all should be kept, each answer has a receipt.
pub record IsKept (all : Bool) (h : List Entry) (tallies : List Tallied) : Type 0 where
  pub receipts : (t : ℕ) → ReceiptsAgree h tallies t
  pub answered : all ≡ true → (t : ℕ) → HasReceipt h tallies t
  pub calls : (t : ℕ) → CallsAgree all h tallies t

-- Settled: the tallies have all 2^32 parts of each ledger, they have counted what the history counts, and what they
-- keep is right.
pub record IsSettled (all : Bool) (h : List Entry) (tallies : List Tallied) : Type 0 where
  pub parts : parts_in tallies ≡ 2 ^ 32
  pub counts : counts_in tallies ≡ counts_of h
  pub kept : IsKept all h tallies

-- The cause of each fault, in the order of the faults: apart from a failed allocation, no fault above it holds, and its
-- ticket is the least at which it holds.
abbrev pub IsFault : Bool → SettleFault → List Entry → List Tallied → Type 0
IsFault all TallyMissing h tallies = parts_in tallies ≢ 2 ^ 32
IsFault all OutOfMemory h tallies = parts_in tallies ≡ 2 ^ 32
IsFault all (ReceiptDiffers t) h tallies =
    (parts_in tallies ≡ 2 ^ 32) × FailsFirstAt (ReceiptsAgree h tallies) t
IsFault all (ReceiptMissing t) h tallies =
    (parts_in tallies ≡ 2 ^ 32) × ((k : ℕ) → ReceiptsAgree h tallies k) × (all ≡ true)
    × FailsFirstAt (HasReceipt h tallies) t
IsFault all (CallDiffers t) h tallies =
    (parts_in tallies ≡ 2 ^ 32) × ((k : ℕ) → ReceiptsAgree h tallies k)
    × (all ≡ true → (k : ℕ) → HasReceipt h tallies k)
    × FailsFirstAt (CallsAgree all h tallies) t

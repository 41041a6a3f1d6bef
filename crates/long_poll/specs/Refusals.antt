-- The replies to calls that the account's book refused (this project's own).
use Rattle.std.specs.Prelude.{ℕ, Bool, true, false, List, codes}
use Rattle.account_book.specs.declared.book.Refusal.{Refusal}
use Rattle.account_book.specs.declared.book.Refusal.TheVariants.{JournalFull, OutOfMemory}
use Rattle.lambda_wire.specs.Replies.{fault_reply, invoke_fault_reply}
use Rattle.lambda_wire.specs.declared.body_writer.InvokeFault.TheVariants.{Service}
use Rattle.lambda_wire.specs.declared.reply.Reply.{Reply}

-- The message of a refusal.
abbrev pub message_of : Refusal → List ℕ
message_of JournalFull = codes "Journal is full"
message_of OutOfMemory = codes "Out of memory"

-- The error type of a refusal.
abbrev pub kind_of : Refusal → List ℕ
kind_of JournalFull = codes "JournalFull"
kind_of OutOfMemory = codes "OutOfMemory"

-- The reply to a refused call. For an Invoke it is an error of the service (Lambda API, Invoke: ServiceException), for
-- any other call a fault with the error type.
abbrev pub refusal_reply : Bool → Refusal → Reply
refusal_reply true refusal = invoke_fault_reply 500 (codes "ServiceException") Service (message_of refusal)
refusal_reply false refusal = fault_reply 500 (message_of refusal) (kind_of refusal)

-- The replies that an exchange over an account gives to a call.
use Rattle.std.specs.Prelude.{◌≡◌, ◌<◌, ◌≤◌, ◌⊎◌, ◌↔◌, ℕ, true, List, ◌++◌, length, Some}
use Rattle.account_book.specs.Reached.{IsReached}
use Rattle.account_book.specs.ReplyText.{reply_text}
use Rattle.account_book.specs.declared.book.Refusal.{Refusal}
use Rattle.account_book.specs.declared.book.Refusal.TheVariants.{JournalFull}
use Rattle.arn_ids.specs.declared.config.Config.{Config}
use Rattle.call_model.specs.Counts.{full}
use Rattle.call_model.specs.History.{call_of}
use Rattle.call_types.specs.Calls.{is_invoke}
use Rattle.call_types.specs.declared.call.Call.{Call}
use Rattle.call_types.specs.declared.call.Entry.{Entry}
use Rattle.lambda_wire.specs.declared.reply.Reply.{Reply}
use Rattle.long_poll.specs.Refusals.{refusal_reply}

-- The reply to a call in a history: a call equal to this one has a ticket there, and this is the reply that the
-- definitions give to that ticket.
pub record IsReplyIn (config : Config) (salt : ℕ) (h : List Entry) (call : Call) (reply : Reply) : Type 0 where
  pub ticket : ℕ
  pub there : ticket < length h
  pub stands : call_of h ticket ≡ call
  pub gives : reply_text config salt h ticket ≡ Some reply

-- The reply to a call that was taken: its reply in this history, which calls led to.
pub record IsReplyOf (config : Config) (most salt : ℕ) (call : Call) (reply : Reply) (h : List Entry) : Type 0 where
  pub reached : IsReached config most h
  pub is : IsReplyIn config salt h call reply

-- The first history is a beginning of the second: newer entries stand before those of the first.
abbrev pub IsBeginning : List Entry → List Entry → Type 0
IsBeginning h later = (newer : List Entry) × (later ≡ newer ++ h)

-- Two replies, each to its call, are of one history that calls led to.
pub record AreOfOne (config : Config) (most salt : ℕ) (call : Call) (reply : Reply) (call' : Call) (reply' : Reply)
    : Type 0 where
  pub history : List Entry
  pub reached : IsReached config most history
  pub one : IsReplyIn config salt history call reply
  pub other : IsReplyIn config salt history call' reply'

-- The reply to a call that was refused says why: the refusal is JournalFull exactly if this history, which calls led to,
-- has no room for the call.
pub record IsRefusalOf (config : Config) (most : ℕ) (call : Call) (reply : Reply) (h : List Entry) : Type 0 where
  pub reached : IsReached config most h
  pub refusal : Refusal
  pub exactly : (refusal ≡ JournalFull) ↔ (full config most h call ≡ true)
  pub says : reply ≡ refusal_reply (is_invoke call) refusal

-- The reply to a call that was taken after a beginning of the history: its ticket is not in that beginning.
abbrev pub IsReplyAfter : Config → ℕ → ℕ → List Entry → Call → Reply → List Entry → Type 0
IsReplyAfter config most salt since call reply h =
    (given : IsReplyOf config most salt call reply h) × (length since ≤ given.is.ticket)

-- The reply to a call that was submitted after a beginning of this history, whether the call was taken or refused.
abbrev pub IsReplyAt : Config → ℕ → ℕ → List Entry → Call → Reply → List Entry → Type 0
IsReplyAt config most salt since call reply h =
    IsBeginning since h
    × (IsReplyAfter config most salt since call reply h ⊎ IsRefusalOf config most call reply h)

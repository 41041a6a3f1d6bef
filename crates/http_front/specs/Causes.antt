-- Why a request is refused by its head, in the words of the log.
use Rattle.std.specs.Prelude.{Option, Some, None}
use Rattle.request_guard.specs.declared.refusal.Refusal.{Refusal}
use Rattle.request_guard.specs.declared.refusal.Refusal.TheVariants as refusal
use Rattle.long_poll.specs.declared.rejections.rejection.Cause.{Cause}
use Rattle.long_poll.specs.declared.rejections.rejection.Cause.TheVariants as cause

-- A request that only lacked memory is not at fault.
abbrev pub cause_of : Refusal → Option Cause
cause_of refusal.MalformedHost = Some cause.MalformedHost
cause_of refusal.FromPage = Some cause.FromPage
cause_of refusal.ForeignHost = Some cause.ForeignHost
cause_of refusal.ForeignCoding = Some cause.ForeignCoding
cause_of refusal.BrokenBody = Some cause.BrokenBody
cause_of refusal.OutOfMemory = None

-- What is asked of a clock, and the reply.
use Rattle.std.specs.Prelude.{◌≡◌, ◌⊎◌, ◌<◌, ◌≤◌, ◌+◌, ◌^◌, ℕ, Bool, true, false}
use Rattle.decisions.specs.declared.decide.ClockRequest.{ClockRequest}
use Rattle.decisions.specs.declared.decide.ClockRequest.TheVariants.{Show, Advance, Pause, Resume}
use Rattle.lambda_wire.specs.declared.reply.Reply.{Reply}
use Rattle.long_poll.specs.Views.{clock_reply, past_reply}

-- Of a clock, by its readings. `ticks` says of a moment that a Tick was taken there, and `turns_away` of a moment and a
-- reply that a Tick was refused there, and that the reply says so.
module _ (reads : ℕ → Type 0) (ticks : ℕ → Type 0) (turns_away : ℕ → Reply → Type 0) where
  -- The reply to a request to set the clock forward by some milliseconds. The clock read `from` and was moved by these
  -- milliseconds in one step; a Tick was submitted at that reading. If it was taken, everything that was due there has
  -- expired, and the reply shows that reading; if it was refused, the clock has moved all the same, and the reply says why
  -- the Tick was refused. Or the clock would have come past 2^53 - 1; then nothing was moved.
  abbrev pub IsAdvance : ℕ → Reply → Type 0
  IsAdvance by reply =
      (from : ℕ) × reads from
      × (((2 ^ 53 ≤ from + by) × (reply ≡ past_reply))
      ⊎ (reads (from + by) × (from + by < 2 ^ 53)
      × ((ticks (from + by) × ((running : Bool) × (reply ≡ clock_reply (from + by) running)))
      ⊎ turns_away (from + by) reply)))

  -- The reply to what is asked of the clock. It shows a reading of the clock, below 2^53, and whether the clock is
  -- running; it is paused after a pause, and running after a resume.
  abbrev pub IsClockReply : ClockRequest → Reply → Type 0
  IsClockReply Show reply =
      (now : ℕ) × reads now × (now < 2 ^ 53) × ((running : Bool) × (reply ≡ clock_reply now running))
  IsClockReply (Advance by) reply = IsAdvance by reply
  IsClockReply Pause reply = (now : ℕ) × reads now × (now < 2 ^ 53) × (reply ≡ clock_reply now false)
  IsClockReply Resume reply = (now : ℕ) × reads now × (now < 2 ^ 53) × (reply ≡ clock_reply now true)

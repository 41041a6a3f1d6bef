-- A Next that was withdrawn.
use Rattle.std.specs.Prelude.{ℕ, List}
use Rattle.account_lock.specs.Shown.{IsTaken}
use Rattle.arn_ids.specs.declared.config.Config.{Config}
use Rattle.call_types.specs.declared.call.Call.TheVariants.{Withdraw}
use Rattle.call_types.specs.declared.call.Entry.{Entry}

-- A caller that had seen the history `had` withdrew the Next with this ticket, at a moment of which `at_moment` holds, and has
-- then seen the history whose newest entry does that.
pub record IsWithdrawn (config : Config) (most : ℕ) (at_moment : ℕ → Type 0) (had : List Entry) (ticket : ℕ)
    (h : List Entry) : Type 0 where
  pub now : ℕ
  pub moment : at_moment now
  pub at : ℕ
  pub taken : IsTaken config most had now (Withdraw ticket) at h

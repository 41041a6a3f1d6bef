-- Why a request is rejected, by the status of its response.
use Rattle.std.specs.Prelude.{◌==◌, ℕ, cond, Option, Some, None}
use Rattle.long_poll.specs.declared.rejections.rejection.Cause.{Cause}
use Rattle.long_poll.specs.declared.rejections.rejection.Cause.TheVariants.{Malformed, Unregistered, NotFound, WrongMethod, TooLong}

abbrev pub cause_of_status : ℕ → Option Cause
cause_of_status status =
    cond (status == 400) (Some Malformed) (cond (status == 403) (Some Unregistered) (cond (status == 404) (Some NotFound)
    (cond (status == 405) (Some WrongMethod) (cond (status == 413) (Some TooLong) None))))

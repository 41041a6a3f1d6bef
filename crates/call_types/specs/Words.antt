-- The words for reasons that clients of the service receive.
use Rattle.std.specs.Prelude.{ℕ, List, codes}
use Rattle.call_types.specs.declared.answer.Reason.{Reason}
use Rattle.call_types.specs.declared.answer.Reason.TheVariants.{Timeout, Failure, Spindown}
use Rattle.call_types.specs.declared.answer.Rejection.{Rejection}
use Rattle.call_types.specs.declared.answer.Rejection.TheVariants.{State, Replaced, BadId, Unknown, TooLarge, Container}
use Rattle.call_types.specs.declared.answer.Rejection.TheVariants.{NameInUse, TooMany, NotIdle, BadReservation}
use Rattle.call_types.specs.declared.answer.Throttle.{Throttle}
use Rattle.call_types.specs.declared.answer.Throttle.TheVariants.{Function, Account, Environments}

-- The word for the reason why an environment ends (Extensions API: `shutdownReason`).
abbrev pub reason_word : Reason → List ℕ
reason_word Timeout = codes "TIMEOUT"
reason_word Failure = codes "FAILURE"
reason_word Spindown = codes "SPINDOWN"

-- The word for the reason why an invocation is not admitted (Invoke: the `Reason` of `TooManyRequestsException`).
abbrev pub throttle_word : Throttle → List ℕ
throttle_word Function = codes "ReservedFunctionConcurrentInvocationLimitExceeded"
throttle_word Account = codes "ConcurrentInvocationLimitExceeded"
throttle_word Environments = codes "LocalEnvironmentLimitExceeded"

-- The word for the reason why a call is refused.
abbrev pub refusal_word : Rejection → List ℕ
refusal_word State = codes "State"
refusal_word Replaced = codes "Replaced"
refusal_word BadId = codes "BadId"
refusal_word Unknown = codes "Unknown"
refusal_word TooLarge = codes "TooLarge"
refusal_word Container = codes "Container"
refusal_word NameInUse = codes "NameInUse"
refusal_word TooMany = codes "TooMany"
refusal_word NotIdle = codes "NotIdle"
refusal_word BadReservation = codes "BadReservation"

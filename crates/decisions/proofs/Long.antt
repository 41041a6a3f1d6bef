-- The body that stands for those that are too long is too long.
use Rattle.std.proofs.Common.{◌<◌, ℕ, suc, length, replicate, arith}
use Rattle.std.proofs.lemmas.List.{length-replicate}
use Rattle.arn_ids.specs.Limits.{longest_body}
use Rattle.decisions.specs.Received.{some_long_body}

longer : (n : ℕ) → n < length {A = ℕ} (replicate (suc n) 0)
longer n = rw (length-replicate {A = ℕ} (suc n) 0) (omega arith)

pub long : longest_body < length some_long_body
unfolding some_long_body
long = longer longest_body

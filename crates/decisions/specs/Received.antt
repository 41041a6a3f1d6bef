-- The body of a request, as it was received.
use Rattle.std.specs.Prelude.{ℕ, suc, List, replicate, Option, Some, None}
use Rattle.arn_ids.specs.Limits.{longest_body}

-- A body that is too long. Which one it is, is of no account.
unfoldable pub some_long_body : List ℕ
some_long_body = replicate (suc longest_body) 0

-- The bytes of a body that was kept; of one that was not, those of a body that is too long.
abbrev pub body_of : Option (List ℕ) → List ℕ
body_of (Some body) = body
body_of None = some_long_body

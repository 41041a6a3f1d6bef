-- The length that a request declares for its body.
use Rattle.std.specs.Prelude.{ℕ, Bool, false, not, ◌&&◌, nat_lt, codes, Option, Some, None}
use Rattle.std.specs.Prelude.{is_some, option_and_then}
use Rattle.http.specs.HeaderMap.{get}
use Rattle.http.specs.declared.request.Parts.{Parts}
use Rattle.arn_ids.specs.Limits.{longest_body, greatest_ticket}
use Rattle.arn_ids.specs.Numbers.{number_in}

-- The length in `Content-Length`, if the request has one that can be read (RFC 9110, section 8.6).
abbrev pub declared_length : Parts → Option ℕ
declared_length p = option_and_then
    (λ value. number_in greatest_ticket value.bytes) (get p.headers (codes "content-length"))

-- Whether a length is more than a body may have (Lambda quotas: invocation payload).
abbrev pub is_too_long : Option ℕ → Bool
is_too_long None = false
is_too_long (Some length) = nat_lt longest_body length

-- Whether a request declares a body that is too long. A transfer coding overrides the length (RFC 9112, section 6.3).
abbrev pub declares_too_long : Parts → Bool
declares_too_long p = not (is_some (get p.headers (codes "transfer-encoding"))) && is_too_long (declared_length p)

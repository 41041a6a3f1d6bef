-- Limits of sizes and numbers.
use Rattle.std.specs.Prelude.{ℕ}

-- The greatest length of a payload, an output or a report, in bytes (Lambda quotas: invocation payload).
abbrev pub longest_body : ℕ
longest_body = 6291456

-- The greatest number of environments of an account, over all its functions.
abbrev pub most_environments : ℕ
most_environments = 256

-- The greatest number of extensions that a function expects, and that register in one generation of an environment.
abbrev pub most_extensions : ℕ
most_extensions = 10

-- The greatest length of a trace, in bytes.
abbrev pub longest_trace : ℕ
longest_trace = 256

-- The greatest moment: 2^53 - 1 milliseconds, the greatest integer that JSON carries exactly (RFC 8259, section 6).
abbrev pub greatest_moment : ℕ
greatest_moment = 9007199254740991

-- The greatest count in an identifier, 2^48 - 1.
abbrev pub greatest_count : ℕ
greatest_count = 281474976710655

-- The greatest ticket, 2^64 - 1.
abbrev pub greatest_ticket : ℕ
greatest_ticket = 18446744073709551615

-- The greatest reservation that a request can ask for, 2^32 - 1.
abbrev pub greatest_reservation : ℕ
greatest_reservation = 4294967295

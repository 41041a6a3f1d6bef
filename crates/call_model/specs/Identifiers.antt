-- The identifiers that answers show, as text.
use Rattle.std.specs.Prelude.{ℕ, List, Option, Some, None, codes, unwrap_or}
use Rattle.uuid.specs.Text.{hyphenated_text, lower}
use Rattle.arn_ids.specs.Identifiers.{id_word}
use Rattle.arn_ids.specs.declared.identifiers.IdKind.{IdKind}
use Rattle.arn_ids.specs.declared.identifiers.IdKind.TheVariants.{Request}
use Rattle.call_types.specs.Calls.{env_of, invoked}
use Rattle.call_types.specs.declared.call.Entry.{Entry}
use Rattle.call_model.specs.CallCounts.{request_count}
use Rattle.call_model.specs.History.{call_of, upto}

-- The text of an identifier (RFC 9562, section 4); a dash if there is none.
abbrev pub id_text : Option (List ℕ) → List ℕ
id_text None = codes "-"
id_text (Some id) = hyphenated_text lower id

-- The request identifier of the Invoke with a ticket (Runtime API: Lambda-Runtime-Aws-Request-Id).
abbrev pub request_word : ℕ → List Entry → ℕ → List ℕ
request_word salt h p =
    id_word salt Request (unwrap_or (invoked (call_of h p)) 0) (request_count (upto h p) (call_of h p))

-- The identifier of an event or an extension of the environment that the call with ticket `t` names.
abbrev pub env_word : ℕ → IdKind → List Entry → ℕ → ℕ → List ℕ
env_word salt kind h t count = id_word salt kind (unwrap_or (env_of (call_of h t)) 0) count

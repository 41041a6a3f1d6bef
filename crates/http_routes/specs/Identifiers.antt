-- Identifiers in requests: texts in any form of a UUID (RFC 9562, section 4).
use Rattle.std.specs.Prelude.{ℕ, ◌&&◌, ◌==◌, if◌then◌else◌, List, Option, Some, None, option_and_then, codes}
use Rattle.uuid.specs.Text.{parsed}
use Rattle.arn_ids.specs.Identifiers.{high_word, parts_of}
use Rattle.arn_ids.specs.declared.identifiers.IdKind.{IdKind}
use Rattle.arn_ids.specs.declared.identifiers.IdKind.TheVariants.{Request, Extension, Event}
use Rattle.arn_ids.specs.declared.identifiers.IdParts.{IdParts}
use Rattle.http.specs.Uri.{uri_path}
use Rattle.http.specs.declared.request.Parts.{Parts}
use Rattle.http_routes.specs.Paths.{path_part}
use Rattle.http_routes.specs.Heads.{header_text}

-- The count in an identifier, if it has this salt and number.
abbrev pub count_of : ℕ → ℕ → IdParts → Option ℕ
count_of salt number id = if id.salt_word == high_word salt && id.number == number then Some id.count else None

-- The count, if the identifier is that of a request.
abbrev pub of_request : IdKind → Option ℕ → Option ℕ
of_request Request count = count
of_request Extension count = None
of_request Event count = None

-- The count, if the identifier is that of an extension.
abbrev pub of_extension : IdKind → Option ℕ → Option ℕ
of_extension Request count = None
of_extension Extension count = count
of_extension Event count = None

-- The parts of a text, if it is an identifier of this service.
unfoldable pub identifier_in : List ℕ → Option IdParts
identifier_in text = option_and_then parts_of (parsed text)

-- The count in the identifier of a function's invocation.
abbrev pub request_count : ℕ → ℕ → List ℕ → Option ℕ
request_count salt function text =
    option_and_then (λ id. of_request id.kind (count_of salt function id)) (identifier_in text)

-- The count in the identifier of an environment's extension.
abbrev pub extension_count : ℕ → ℕ → List ℕ → Option ℕ
extension_count salt env text = option_and_then (λ id. of_extension id.kind (count_of salt env id)) (identifier_in text)

-- The invocation that a path names after four slashes (Runtime API: AwsRequestId).
abbrev pub request_of : ℕ → ℕ → Parts → Option ℕ
request_of salt function p = option_and_then (request_count salt function) (path_part 4 (uri_path p.uri))

-- The extension that a head names (Extensions API: Lambda-Extension-Identifier).
abbrev pub extension_of : ℕ → ℕ → Parts → Option ℕ
extension_of salt env p =
    option_and_then (extension_count salt env) (header_text (codes "lambda-extension-identifier") p)

-- What a request's parts say is within the limits of the configuration.
use Rattle.std.proofs.Common.{◌≡◌, ℕ, ◌-◌, ◌/◌, ◌%◌, ◌^◌, ◌<◌, ◌≤◌, Bool, true, false, ◌&&◌, ◌||◌, cond}
use Rattle.std.proofs.Common.{nat_le, nat_lt, ◌==◌, List, [], ◌∷◌, length, codes, Option, Some}
use Rattle.std.proofs.Common.{None, Result, Ok, Err, option_map, option_and_then, refl, arith}
use Rattle.std.specs.Option.{is_some}
use Rattle.std.specs.Result.{IfOk}
use Rattle.std.specs.Int.{w128, from_be_bytes}
use Rattle.std.proofs.lemmas.Bool.{ltb-true}
use Rattle.std.proofs.lemmas.Bool.Decides.{nat_tests}
use Rattle.uuid.specs.Text.{parsed}
use Rattle.http.specs.Uri.{uri_path}
use Rattle.http.specs.declared.request.Parts.{Parts}
use Rattle.arn_ids.specs.Grammar.{is_none_or, is_latest, is_qualifier, named_in}
use Rattle.arn_ids.specs.Environments.{number_named}
use Rattle.arn_ids.specs.Identifiers.{high_word, kind_of, parts_of_words, parts_of}
use Rattle.arn_ids.specs.declared.config.Config.{Config}
use Rattle.arn_ids.specs.declared.config.Function.{Function}
use Rattle.arn_ids.specs.declared.identifiers.IdKind.{IdKind}
use Rattle.arn_ids.specs.declared.identifiers.IdKind.TheVariants.{Request, Extension, Event}
use Rattle.arn_ids.specs.declared.identifiers.IdParts.{IdParts}
use Rattle.arn_ids.specs.declared.names.Named.{Named}
use Rattle.arn_ids.specs.declared.names.NameFault.{NameFault}
use Rattle.arn_ids.specs.declared.names.NameFault.TheVariants as fault
use Rattle.lambda_wire.specs.Reading.{◌>>=◌, json_in, number_of, number_below, required}
use Rattle.lambda_wire.specs.Requests.{payload_of, read_payload, reservation_of, read_count}
use Rattle.lambda_wire.specs.declared.fault.WireFault.{WireFault}
use Rattle.lambda_wire.specs.declared.fault.WireFault.TheVariants as wire
use Rattle.arn_ids.specs.Numbers.{env_in}
use Rattle.arn_ids.specs.Limits.{longest_body, greatest_reservation}
use Rattle.call_types.specs.Within.{is_body, is_trace, IsEnv, IsFunction, IsCount, IsTrace}
use Rattle.http_routes.specs.Paths.{path_part}
use Rattle.http_routes.specs.Heads.{header, header_text, that, trace_of}
use Rattle.http_routes.specs.Identifiers.{count_of, of_request, of_extension, identifier_in, request_count, extension_count, request_of, extension_of}
use Rattle.http_routes.specs.Names.{numbered, by_name, invoked, has_qualifier, reserved}
use Rattle.http_routes.specs.AccountDecisions.{environment_of}
use Rattle.http_routes.specs.declared.names.Target.{Target}
use Rattle.http_routes.specs.declared.names.Target.TheVariants as target
use Rattle.call_types.proofs.Within.{Anything, Gives, nothing, gives, anything, and_then, mapped, either, where_true, env_within, named_within}

pub environment_within : (config : Config) (p : Parts) → Gives (environment_of config p) (IsEnv config)
environment_within config p =
    and_then Anything (path_part 3 (uri_path p.uri)) (env_in config) (anything (path_part 3 (uri_path p.uri))) (λ field _. env_within config field)

-- a target that is a function is one of the configuration
unfoldable pub IsTarget : Config → Target → Type 0
IsTarget config target.Malformed = Unit {0}
IsTarget config target.Unknown = Unit {0}
IsTarget config (target.Function f q) = IsFunction config f

numbered_within : (config : Config) (qualified : Bool) (o : Option ℕ) → Gives o (IsFunction config) → IsTarget config (numbered qualified o)
unfolding IsTarget
numbered_within config qualified None h = tt
numbered_within config qualified (Some f) h = h.holds

target_either : (config : Config) (b : Bool) (x y : Target) → IsTarget config x → IsTarget config y → IsTarget config (cond b x y)
target_either config true x y h k = h
target_either config false x y h k = k

unknown_within : (config : Config) → IsTarget config target.Unknown
unfolding IsTarget
unknown_within config = tt

malformed_within : (config : Config) → IsTarget config target.Malformed
unfolding IsTarget
malformed_within config = tt

by_name_within : (config : Config) (q : Option (List ℕ)) (r : Result Named NameFault) → IsTarget config (by_name config q r)
by_name_within config q (Ok named) =
    target_either config (is_none_or is_latest q) (numbered (named.qualified || is_some q) (number_named config named.name)) target.Unknown
    (numbered_within config (named.qualified || is_some q) (number_named config named.name) (named_within config named.name)) (unknown_within config)
by_name_within config q (Err fault.Malformed) = malformed_within config
by_name_within config q (Err fault.ForeignAccount) = unknown_within config
by_name_within config q (Err fault.UnknownQualifier) = unknown_within config
by_name_within config q (Err fault.OutOfMemory) = unknown_within config

pub invoked_within : (config : Config) (name q : Option (List ℕ)) → IsTarget config (invoked config name q)
unfolding invoked
invoked_within config None q = malformed_within config
invoked_within config (Some name) q =
    target_either config (is_none_or is_qualifier q) (by_name config q (named_in config.home name)) target.Malformed
    (by_name_within config q (named_in config.home name)) (malformed_within config)

pub reserved_within : (config : Config) (name : Option (List ℕ)) → IsTarget config (reserved config name)
unfolding reserved
reserved_within config None = malformed_within config
reserved_within config (Some name) =
    target_either config (has_qualifier name) target.Malformed (by_name config None (named_in config.home name))
    (malformed_within config) (by_name_within config None (named_in config.home name))

-- counts of identifiers

counted : (high low : ℕ) → Gives (parts_of_words high low) (λ id. IsCount id.count)
counted high low = either (high / 2 ^ 12 % 16 == 8) (option_map _ (kind_of (low / 2 ^ 60))) None
    (mapped Anything (kind_of (low / 2 ^ 60)) _ (anything (kind_of (low / 2 ^ 60))) (λ kind _. omega arith)) nothing

identifier_counted : (text : List ℕ) → Gives (identifier_in text) (λ id. IsCount id.count)
unfolding identifier_in parts_of
identifier_counted text =
    and_then Anything (parsed text) parts_of (anything (parsed text)) (λ id _. counted (from_be_bytes w128 id / 2 ^ 64) (from_be_bytes w128 id % 2 ^ 64))

count_within : (salt number : ℕ) (id : IdParts) → IsCount id.count → Gives (count_of salt number id) IsCount
count_within salt number id h = either (id.salt_word == high_word salt && id.number == number) (Some id.count) None (gives id.count h) nothing

of_request_within : (kind : IdKind) (count : Option ℕ) → Gives count IsCount → Gives (of_request kind count) IsCount
of_request_within Request count h = h
of_request_within Extension count h = nothing
of_request_within Event count h = nothing

of_extension_within : (kind : IdKind) (count : Option ℕ) → Gives count IsCount → Gives (of_extension kind count) IsCount
of_extension_within Request count h = nothing
of_extension_within Extension count h = h
of_extension_within Event count h = nothing

pub request_within : (salt function : ℕ) (p : Parts) → Gives (request_of salt function p) IsCount
request_within salt function p =
    and_then Anything (path_part 4 (uri_path p.uri)) (request_count salt function) (anything (path_part 4 (uri_path p.uri))) (λ text _.
    and_then (λ id. IsCount id.count) (identifier_in text) _ (identifier_counted text)
    (λ id h. of_request_within id.kind (count_of salt function id) (count_within salt function id h)))

pub extension_within : (salt env : ℕ) (p : Parts) → Gives (extension_of salt env p) IsCount
extension_within salt env p =
    and_then Anything (header_text (codes "lambda-extension-identifier") p) (extension_count salt env)
    (anything (header_text (codes "lambda-extension-identifier") p)) (λ text _.
    and_then (λ id. IsCount id.count) (identifier_in text) _ (identifier_counted text)
    (λ id h. of_extension_within id.kind (count_of salt env id) (count_within salt env id h)))

-- texts of headers

pub that_passes : (passes : List ℕ → Bool) (o : Option (List ℕ)) → Gives (option_and_then (that passes) o) (λ text. passes text ≡ true)
that_passes passes o = and_then Anything o (that passes) (anything o) (λ bytes _. where_true (passes bytes) bytes (λ t. t))

pub trace_within : (p : Parts) → IsTrace (trace_of p)
trace_within p = go (trace_of p) (that_passes is_trace (header (codes "x-amzn-trace-id") p))
  where
    go : (o : Option (List ℕ)) → Gives o (λ text. is_trace text ≡ true) → IsTrace o
    go None h = tt
    go (Some trace) h = h.holds

-- bodies

pub short : (n : ℕ) → nat_lt longest_body n ≡ false → nat_le n longest_body ≡ true
short n h = grind (arith, nat_tests, h)

-- what a reading has, where it reads something
pub record Reads {A : Type 0} (r : Result A WireFault) (Q : A → Type 0) : Type 0 where
  pub holds : IfOk r Q

reads : {A : Type 0} {Q : A → Type 0} (a : A) → Q a → Reads (Ok a) Q
reads a h = record { holds = h }

fails : {A : Type 0} {Q : A → Type 0} (e : WireFault) → Reads {A = A} (Err e) Q
fails e = record { holds = tt }

then_reads : {A B : Type 0} {Q : B → Type 0} (r : Result A WireFault) (f : A → Result B WireFault) → ((a : A) → Reads (f a) Q) → Reads (r >>= f) Q
then_reads (Ok a) f step = step a
then_reads (Err e) f step = fails e

payload_short : (bytes : List ℕ) → is_body bytes ≡ true → Reads (payload_of bytes) (λ payload. is_body payload ≡ true)
payload_short [] h = reads (codes "{}") refl
payload_short (b ∷ bytes) h = then_reads (json_in (b ∷ bytes)) (λ _. Ok (b ∷ bytes)) (λ d. reads (b ∷ bytes) h)

limited : {A : Type 0} {Q : A → Type 0} (bytes : List ℕ) (r : Result A WireFault) → (is_body bytes ≡ true → Reads r Q)
    → Reads (cond (nat_lt longest_body (length bytes)) (Err wire.TooLong) r) Q
limited {A = A} {Q = Q} bytes r h = go (nat_lt longest_body (length bytes)) refl
  where
    go : (b : Bool) → nat_lt longest_body (length bytes) ≡ b → Reads (cond b (Err wire.TooLong) r) Q
    go true e = fails wire.TooLong
    go false e = h (short (length bytes) e)

pub payload_within : (bytes : List ℕ) → Reads (read_payload bytes) (λ payload. is_body payload ≡ true)
unfolding read_payload
payload_within bytes = limited bytes (payload_of bytes) (payload_short bytes)

below : (n : ℕ) (b : Bool) → nat_lt n (2 ^ 32) ≡ b → Reads (cond b (Ok n) (Err wire.BadShape)) (λ n. n ≤ greatest_reservation)
below n true e = let small : n < 2 ^ 32 = ltb-true n (2 ^ 32) e in reads n (omega arith)
below n false e = fails wire.BadShape

required_within : (o : _) → Reads (required (number_below (2 ^ 32)) o) (λ n. n ≤ greatest_reservation)
required_within None = fails wire.BadShape
required_within (Some d) = then_reads (number_of d) _ (λ n. below n (nat_lt n (2 ^ 32)) refl)

pub reservation_within : (bytes : List ℕ) → Reads (read_count bytes) (λ n. n ≤ greatest_reservation)
unfolding read_count
reservation_within bytes = limited bytes (json_in bytes >>= reservation_of) (λ h. then_reads (json_in bytes) reservation_of (λ d. search (required_within)))

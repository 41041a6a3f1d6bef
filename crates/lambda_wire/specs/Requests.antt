-- What the bodies of requests contain: the payload of an Invoke, the registration of an extension, or a reservation.
use Rattle.std.specs.Prelude.{ℕ, ◌^◌, Bool, ◌||◌, nat_lt, if◌then◌else◌, List, [], ◌∷◌, length, bytes_eq, codes}
use Rattle.std.specs.Prelude.{Result, Ok, Err}
use Rattle.std.specs.List.{list_all, list_any}
use Rattle.serde_json.specs.Data.{Data}
use Rattle.serde_json.specs.Find.{get, as_object}
use Rattle.arn_ids.specs.Limits.{longest_body}
use Rattle.lambda_wire.specs.Reading.{◌>>=◌, wanted, json_in, or_else, required, text_of, list_of, number_below}
use Rattle.lambda_wire.specs.declared.fault.WireFault.{WireFault}
use Rattle.lambda_wire.specs.declared.fault.WireFault.TheVariants.{TooLong, BadEvent}
use Rattle.lambda_wire.specs.declared.request_reader.Events.{Events}

-- The reading of a body that has at most 6,291,456 bytes; a longer one is too long (Lambda quotas: invocation payload).
abbrev pub within_limit : {A : Type 0} → List ℕ → Result A WireFault → Result A WireFault
within_limit bytes reading = if nat_lt longest_body (length bytes) then Err TooLong else reading

-- The payload, which must be JSON and stays unchanged; an empty body means an empty object.
abbrev pub payload_of : List ℕ → Result (List ℕ) WireFault
payload_of [] = Ok (codes "{}")
payload_of (b ∷ bytes) = json_in (b ∷ bytes) >>= λ _. Ok (b ∷ bytes)

-- The payload in the body of an Invoke.
unfoldable pub read_payload : List ℕ → Result (List ℕ) WireFault
read_payload bytes = within_limit bytes (payload_of bytes)

-- Whether a text names one of the two events that an extension may register for (Extensions API, Register).
abbrev pub is_event : List ℕ → Bool
is_event text = bytes_eq text (codes "INVOKE") || bytes_eq text (codes "SHUTDOWN")

-- The events that a list of texts names, however often; a text that names no event is a fault.
abbrev pub events_of : List (List ℕ) → Result Events WireFault
events_of texts = if list_all is_event texts
    then Ok (record {
      invoke = list_any (λ t. bytes_eq t (codes "INVOKE")) texts;
      shutdown = list_any (λ t. bytes_eq t (codes "SHUTDOWN")) texts;
    })
    else Err BadEvent

-- The events that an object asks for, by default none; other members are ignored.
abbrev pub registration_of : Data → Result Events WireFault
registration_of d = wanted (as_object d) >>= λ _. or_else [] (list_of text_of) (get (codes "events") d) >>= events_of

-- The events in the body of a registration.
unfoldable pub read_events : List ℕ → Result Events WireFault
read_events bytes = within_limit bytes (json_in bytes >>= registration_of)

-- The reservation that an object asks for; other members are ignored.
abbrev pub reservation_of : Data → Result ℕ WireFault
reservation_of d = required (number_below (2 ^ 32)) (get (codes "ReservedConcurrentExecutions") d)

-- The reservation in the body of a PutFunctionConcurrency request.
unfoldable pub read_count : List ℕ → Result ℕ WireFault
read_count bytes = within_limit bytes (json_in bytes >>= reservation_of)

-- The compact text of each body's value is the body.
use Rattle.std.proofs.Common.{◌≡◌, ℕ, List, [], ◌∷◌, ◌++◌, Option, Some, None, option_map, false, refl, rules, append_assoc, codes, decimal, sym}
use Rattle.json.specs.Print.{quoted}
use Rattle.serde_json.specs.Data.{string, object, no_members, member}
use Rattle.serde_json.specs.Written.{has_float, compact_text}
use Rattle.serde_json.proofs.OnLiterals.{serde_json_on_literals}
use Rattle.lambda_wire.specs.declared.body_writer.InvokeFault.{InvokeFault}
use Rattle.lambda_wire.specs.declared.body_writer.InvokeFault.TheVariants.{User, NotFound, Service}
use Rattle.lambda_wire.specs.Bodies.{fault_text, invoke_fault_text, throttle_text, registered_text, invoke_event_text, shutdown_event_text}
use Rattle.lambda_wire.specs.Objects.{put_if_any}
use Rattle.lambda_wire.specs.BodyValues.{fault_data, invoke_fault_data, throttle_data, registered_data, tracing_data, invoke_event_data, shutdown_event_data}

pub fault_written : (message kind : List ℕ) → compact_text (fault_data message kind) ≡ fault_text message kind
unfolding fault_text serde_json_on_literals
fault_written message kind = search (rules, append_assoc)

pub invoke_fault_written : (form : InvokeFault) (message : List ℕ) → compact_text (invoke_fault_data form message) ≡ invoke_fault_text form message
unfolding invoke_fault_text serde_json_on_literals
invoke_fault_written User message = search rules
invoke_fault_written NotFound message = search rules
invoke_fault_written Service message = search rules

pub throttle_written : (reason : List ℕ) → compact_text (throttle_data reason) ≡ throttle_text reason
unfolding throttle_text serde_json_on_literals
throttle_written reason = search rules

pub registered_written : (account : Option (List ℕ)) (function handler : List ℕ)
    → compact_text (registered_data account function handler) ≡ registered_text account function handler
unfolding registered_text serde_json_on_literals
registered_written None function handler = search (rules, append_assoc)
registered_written (Some account) function handler = search (rules, append_assoc)

-- a registration, whose account is put in last
pub registered_put : (account : Option (List ℕ)) (function handler : List ℕ)
    → object (put_if_any (codes "accountId") (option_map string account) (member (codes "functionName") (string function)
    (member (codes "functionVersion") (string (codes "$LATEST"))
    (member (codes "handler") (string handler) no_members))))
    ≡ registered_data account function handler
registered_put None function handler = refl
registered_put (Some account) function handler = refl

pub registered_whole : (account : Option (List ℕ)) (function handler : List ℕ) → has_float (registered_data account function handler) ≡ false
registered_whole None function handler = refl
registered_whole (Some account) function handler = refl

-- nine parts, put together from either end
nine_parts : (a b c d e f g h i : List ℕ) → a ++ b ++ c ++ d ++ e ++ f ++ g ++ h ++ i ≡ a ++ (b ++ (c ++ (d ++ (e ++ (f ++ (g ++ (h ++ i)))))))
nine_parts a b c d e f g h i = simp append_assoc

-- the text of a trace, and what stands behind it
tracing_written : (trace rest : List ℕ)
    → compact_text (tracing_data trace) ++ rest ≡ codes "{\"type\":\"X-Amzn-Trace-Id\",\"value\":" ++ (quoted trace ++ 125 ∷ rest)
unfolding serde_json_on_literals
tracing_written trace rest = search (rules, append_assoc)

pub invoke_event_written : (deadline : ℕ) (arn request trace : List ℕ)
    → compact_text (invoke_event_data deadline arn request trace) ≡ invoke_event_text deadline arn request trace
unfolding invoke_event_text serde_json_on_literals
invoke_event_written deadline arn request trace = rw (tracing_written trace (125 ∷ []))
    (sym (nine_parts (codes "{\"deadlineMs\":") (decimal deadline) (codes ",\"eventType\":\"INVOKE\",\"invokedFunctionArn\":") (quoted arn)
    (codes ",\"requestId\":") (quoted request) (codes ",\"tracing\":{\"type\":\"X-Amzn-Trace-Id\",\"value\":") (quoted trace) (codes "}}")))

pub shutdown_event_written : (deadline : ℕ) (reason : List ℕ) → compact_text (shutdown_event_data deadline reason) ≡ shutdown_event_text deadline reason
unfolding shutdown_event_text serde_json_on_literals
shutdown_event_written deadline reason = search (rules, append_assoc)

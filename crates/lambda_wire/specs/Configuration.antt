-- The setup that a configuration describes: one JSON object, without members other than these.
use Rattle.std.specs.Prelude.{ℕ, ◌||◌, ◌^◌, Bool, nat_lt, if◌then◌else◌, List, [], length, bytes_eq, codes}
use Rattle.std.specs.Prelude.{Result, Ok, Err}
use Rattle.serde_json.specs.Data.{Data}
use Rattle.serde_json.specs.Find.{get}
use Rattle.arn_ids.specs.declared.config.Slot.{Slot}
use Rattle.arn_ids.specs.declared.config.Function.{Function}
use Rattle.arn_ids.specs.declared.config.Home.{Home}
use Rattle.arn_ids.specs.declared.config.Config.{Config}
use Rattle.lambda_wire.specs.declared.setup.Setup.{Setup}
use Rattle.lambda_wire.specs.declared.fault.WireFault.{WireFault}
use Rattle.lambda_wire.specs.declared.fault.WireFault.TheVariants.{TooLong, BadShape}
use Rattle.lambda_wire.specs.Reading.{◌>>=◌, json_in, has_only, required, or_else, optional}
use Rattle.lambda_wire.specs.Reading.{text_of, number_of, number_below, list_of}

-- Whether a function may have a member with this name.
abbrev pub is_function_member : List ℕ → Bool
is_function_member k = bytes_eq k (codes "name") || bytes_eq k (codes "handler") || bytes_eq k (codes "timeout")
    || bytes_eq k (codes "reserved") || bytes_eq k (codes "extensions") || bytes_eq k (codes "ports")

-- Whether a configuration may have a member with this name.
abbrev pub is_setup_member : List ℕ → Bool
is_setup_member k = bytes_eq k (codes "account") || bytes_eq k (codes "region") || bytes_eq k (codes "functions")
    || bytes_eq k (codes "accountLimit") || bytes_eq k (codes "leastRemainder") || bytes_eq k (codes "invokePort")
    || bytes_eq k (codes "salt") || bytes_eq k (codes "maxEntries")

-- A number below 2^16, which is a port or 0.
abbrev pub port_of : Data → Result ℕ WireFault
port_of = number_below (2 ^ 16)

-- An environment, which is written as its port.
abbrev pub slot_of : Data → Result Slot WireFault
slot_of d = port_of d >>= λ port. Ok (record { port = port })

-- The lists of a function: the extensions that it expects (none by default), and its environments.
unfoldable pub lists_of : Data → Result (List (List ℕ) × List Slot) WireFault
lists_of d = do
  extensions ← or_else [] (list_of text_of) (get (codes "extensions") d)
  slots ← required (list_of slot_of) (get (codes "ports") d)
  Ok (extensions, slots)

-- A function. The defaults are a timeout of 3 seconds, no reservation, the handler `index.handler` and no extensions.
unfoldable pub function_of : Data → Result Function WireFault
function_of d = if has_only is_function_member d then (do
  timeout_s ← or_else 3 (number_below (2 ^ 32)) (get (codes "timeout") d)
  reserved ← optional (number_below (2 ^ 32)) (get (codes "reserved") d)
  name ← required text_of (get (codes "name") d)
  handler ← or_else (codes "index.handler") text_of (get (codes "handler") d)
  lists ← lists_of d
  Ok (record {
    name = name;
    handler = handler;
    timeout_s = timeout_s;
    reserved = reserved;
    extensions = lists.0;
    slots = lists.1;
  }))
    else Err BadShape

-- The account's number and its region.
unfoldable pub home_of : Data → Result Home WireFault
home_of d = do
  account ← required text_of (get (codes "account") d)
  region ← required text_of (get (codes "region") d)
  Ok (record { account = account; region = region })

-- A configuration. The defaults are an account limit of 1,000, a least remainder of 100 and the invoke port 9000.
unfoldable pub config_of : Data → Result Config WireFault
config_of d = do
  account_limit ← or_else 1000 (number_below (2 ^ 32)) (get (codes "accountLimit") d)
  least_remainder ← or_else 100 (number_below (2 ^ 32)) (get (codes "leastRemainder") d)
  invoke_port ← or_else 9000 port_of (get (codes "invokePort") d)
  home ← home_of d
  functions ← required (list_of function_of) (get (codes "functions") d)
  Ok (record {
    home = home;
    account_limit = account_limit;
    least_remainder = least_remainder;
    invoke_port = invoke_port;
    functions = functions;
  })

-- A setup: a configuration, the salt of its identifiers (by default 0) and the greatest number of entries (by default
-- 1,000,000).
unfoldable pub setup_of : Data → Result Setup WireFault
setup_of d = if has_only is_setup_member d then (do
  salt ← or_else 0 number_of (get (codes "salt") d)
  max_entries ← or_else 1000000 number_of (get (codes "maxEntries") d)
  config ← config_of d
  Ok (record { config = config; salt = salt; max_entries = max_entries }))
    else Err BadShape

-- The setup that the bytes describe, regardless of their length.
abbrev pub said_by : List ℕ → Result Setup WireFault
said_by bytes = json_in bytes >>= setup_of

-- The setup that at most 20,000,000 bytes describe.
unfoldable pub read_setup : List ℕ → Result Setup WireFault
read_setup bytes = if nat_lt 20000000 (length bytes) then Err TooLong else said_by bytes

-- The text of a configuration: compact JSON with every member that is set, the keys in the order of their bytes.
use Rattle.std.specs.Prelude.{ℕ, List, map, codes, Option, Some, None}
use Rattle.serde_json.specs.Data.{Data, number, unsigned, string, array, object, Members, no_members, member}
use Rattle.serde_json.specs.View.{items_of}
use Rattle.serde_json.specs.Written.{compact_text}
use Rattle.arn_ids.specs.declared.config.Slot.{Slot}
use Rattle.arn_ids.specs.declared.config.Function.{Function}
use Rattle.arn_ids.specs.declared.config.Config.{Config}

-- The value of a whole number.
abbrev pub number_data : ℕ → Data
number_data n = number (unsigned n)

-- The value of a list of values.
abbrev pub list_data : List Data → Data
list_data ds = array (items_of ds)

-- The value of an environment: its port.
abbrev pub slot_data : Slot → Data
slot_data slot = number_data slot.port

-- The members with the reservation before them, if there is one.
abbrev pub with_reserved : Option ℕ → Members → Members
with_reserved None ms = ms
with_reserved (Some n) ms = member (codes "reserved") (number_data n) ms

-- The value of a function, with its defaults written out.
abbrev pub function_data : Function → Data
function_data f = object
    (member (codes "extensions") (list_data (map string f.extensions))
    (member (codes "handler") (string f.handler)
    (member (codes "name") (string f.name)
    (member (codes "ports") (list_data (map slot_data f.slots))
    (with_reserved f.reserved
    (member (codes "timeout") (number_data f.timeout_s) no_members))))))

-- The value of a setup, with its defaults written out.
abbrev pub setup_data : Config → ℕ → ℕ → Data
setup_data config salt max_entries = object
    (member (codes "account") (string config.home.account)
    (member (codes "accountLimit") (number_data config.account_limit)
    (member (codes "functions") (list_data (map function_data config.functions))
    (member (codes "invokePort") (number_data config.invoke_port)
    (member (codes "leastRemainder") (number_data config.least_remainder)
    (member (codes "maxEntries") (number_data max_entries)
    (member (codes "region") (string config.home.region)
    (member (codes "salt") (number_data salt) no_members))))))))

-- The text of a setup, with its strings quoted as JSON quotes them.
unfoldable pub setup_text : Config → ℕ → ℕ → List ℕ
setup_text config salt max_entries = compact_text (setup_data config salt max_entries)

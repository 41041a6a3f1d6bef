-- The objects of a configuration, as they are put together.
use Rattle.std.proofs.Common.{◌≡◌, ℕ, List, map, codes, Option, Some, None, option_map, Result, Ok, Err, IfOk, refl}
use Rattle.serde_json.specs.Data.{string, array, object, Members, no_members, member}
use Rattle.serde_json.specs.View.{view, items_view}
use Rattle.serde_json.specs.declared.value.Value.{Value}
use Rattle.arn_ids.specs.declared.config.Function.{Function}
use Rattle.arn_ids.specs.declared.config.Config.{Config}
use Rattle.lambda_wire.specs.Objects.{put_if_any}
use Rattle.lambda_wire.specs.ConfigurationText.{number_data, list_data, slot_data, with_reserved, function_data, setup_data}

-- what holds in any case holds where there is a value
pub always : {T E : Type 0} (r : Result T E) (P : Type 0) → P → IfOk r (λ _. P)
always (Ok x) P holds = holds
always (Err e) P holds = tt

-- a function's members, but for its reservation, before which these stand
abbrev before_reserved : Function → Members → Members
before_reserved f ms =
    member (codes "extensions") (list_data (map string f.extensions))
    (member (codes "handler") (string f.handler)
    (member (codes "name") (string f.name)
    (member (codes "ports") (list_data (map slot_data f.slots)) ms)))

-- a reservation finds its place among a function's members
reserved_put : (f : Function) (reserved : Option ℕ) (ms : Members) → ms ≡ member (codes "timeout") (number_data f.timeout_s) no_members
    → put_if_any (codes "reserved") (option_map number_data reserved) (before_reserved f ms) ≡ before_reserved f (with_reserved reserved ms)
reserved_put f None ms e = refl
reserved_put f (Some n) ms e = rw e refl

pub function_put : (f : Function) (extensions ports : List Value) (handler name : List ℕ) → map view extensions ≡ map string f.extensions
    → map view ports ≡ map slot_data f.slots → handler ≡ f.handler → name ≡ f.name
    → object (put_if_any (codes "reserved") (option_map number_data f.reserved)
    (member (codes "extensions") (array (items_view extensions))
    (member (codes "handler") (string handler)
    (member (codes "name") (string name)
    (member (codes "ports") (array (items_view ports))
    (member (codes "timeout") (number_data f.timeout_s) no_members))))))
    ≡ function_data f
function_put f extensions ports handler name es ps hs ns = rw (es, ps, hs, ns, reserved_put f f.reserved _ refl) refl

pub setup_put : (config : Config) (salt max_entries : ℕ) (account region : List ℕ) (functions : List Value) → account ≡ config.home.account
    → region ≡ config.home.region → map view functions ≡ map function_data config.functions
    → object
    (member (codes "account") (string account)
    (member (codes "accountLimit") (number_data config.account_limit)
    (member (codes "functions") (array (items_view functions))
    (member (codes "invokePort") (number_data config.invoke_port)
    (member (codes "leastRemainder") (number_data config.least_remainder)
    (member (codes "maxEntries") (number_data max_entries)
    (member (codes "region") (string region)
    (member (codes "salt") (number_data salt) no_members))))))))
    ≡ setup_data config salt max_entries
setup_put config salt max_entries account region functions a r fs = rw (a, r, fs) refl

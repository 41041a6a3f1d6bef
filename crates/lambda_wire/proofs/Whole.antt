-- What is written has no float.
use Rattle.std.proofs.Common.{◌≡◌, ℕ, List, [], ◌∷◌, map, false, Option, Some, None, refl}
use Rattle.serde_json.specs.Data.{string, Members}
use Rattle.serde_json.specs.View.{items_of}
use Rattle.serde_json.specs.Written.{has_float, items_have_float, members_have_float}
use Rattle.arn_ids.specs.declared.config.Slot.{Slot}
use Rattle.arn_ids.specs.declared.config.Function.{Function}
use Rattle.arn_ids.specs.declared.config.Config.{Config}
use Rattle.lambda_wire.specs.ConfigurationText.{slot_data, with_reserved, function_data, setup_data}

texts_whole : (ts : List (List ℕ)) → items_have_float (items_of (map string ts)) ≡ false
texts_whole [] = refl
texts_whole (t ∷ ts) = texts_whole ts

slots_whole : (ss : List Slot) → items_have_float (items_of (map slot_data ss)) ≡ false
slots_whole [] = refl
slots_whole (s ∷ ss) = slots_whole ss

reserved_whole : (o : Option ℕ) (ms : Members) → members_have_float ms ≡ false → members_have_float (with_reserved o ms) ≡ false
reserved_whole None ms e = e
reserved_whole (Some n) ms e = e

function_whole : (f : Function) → has_float (function_data f) ≡ false
function_whole f = rw (texts_whole f.extensions, slots_whole f.slots) (reserved_whole f.reserved _ refl)

functions_whole : (fs : List Function) → items_have_float (items_of (map function_data fs)) ≡ false
functions_whole [] = refl
functions_whole (f ∷ fs) = rw (function_whole f, functions_whole fs) refl

pub setup_whole : (config : Config) (salt max_entries : ℕ) → has_float (setup_data config salt max_entries) ≡ false
setup_whole config salt max_entries = rw (functions_whole config.functions) refl

-- What is written is read again.
use Rattle.std.proofs.Common.{◌≡◌, ℕ, ◌<◌, ◌≤◌, ◌^◌, List, [], ◌∷◌, map, Option, Some, None, Result, Ok, Err, Vec}
use Rattle.std.proofs.Common.{Global, IfOk, IsUtf8, All, refl, subst, arith, length, codes}
use Rattle.std.proofs.lemmas.List.Elements.{All-head, All-tail}
use Rattle.serde_json.specs.Data.{Data, string, depth, items_depth, members_depth, no_members, member}
use Rattle.serde_json.specs.Read.{read, max_depth}
use Rattle.serde_json.specs.View.{items_of}
use Rattle.arn_ids.specs.declared.config.Slot.{Slot}
use Rattle.arn_ids.specs.declared.config.Function.{Function}
use Rattle.arn_ids.specs.declared.config.Config.{Config}
use Rattle.lambda_wire.specs.declared.setup.Setup.{Setup}
use Rattle.lambda_wire.specs.Reading.{each, text_of, number_below}
use Rattle.lambda_wire.specs.Configuration.{slot_of, lists_of, function_of, home_of, config_of, setup_of, said_by, read_setup}
use Rattle.lambda_wire.specs.ConfigurationText.{slot_data, number_data, with_reserved, function_data, setup_data}
use Rattle.lambda_wire.specs.Ranges.{IsSlotInRange, IsReservedInRange, IsFunctionInRange, IsConfigInRange}
use Rattle.lambda_wire.proofs.Parsed.{json_ok}

below_again : (limit n : ℕ) → n < limit → number_below limit (number_data n) ≡ Ok n
below_again limit n h = grind (arith)

texts_again : (ts : List (List ℕ)) → each text_of (items_of (map string ts)) ≡ Ok ts
texts_again [] = refl
texts_again (t ∷ ts) = rw (texts_again ts) refl

slots_again : (ss : List Slot) → All IsSlotInRange ss → each slot_of (items_of (map slot_data ss)) ≡ Ok ss
slots_again [] h = refl
slots_again (s ∷ ss) h = rw (below_again (2 ^ 16) s.port (All-head IsSlotInRange s ss h), slots_again ss (All-tail IsSlotInRange s ss h)) refl

reserved_again : (o : Option ℕ) (f : Function) → f.reserved ≡ o → IsFunctionInRange f → function_of (function_data f) ≡ Ok f
unfolding lists_of function_of
reserved_again None f e h = rw (e, below_again (2 ^ 32) f.timeout_s h.0, texts_again f.extensions, slots_again f.slots h.2) refl
reserved_again (Some n) f e h =
    let small : n < 2 ^ 32 = subst IsReservedInRange e h.1 in
    rw (e, below_again (2 ^ 32) f.timeout_s h.0, below_again (2 ^ 32) n small, texts_again f.extensions, slots_again f.slots h.2) refl

function_again : (f : Function) → IsFunctionInRange f → function_of (function_data f) ≡ Ok f
function_again f h = reserved_again f.reserved f refl h

functions_again : (fs : List Function) → All IsFunctionInRange fs → each function_of (items_of (map function_data fs)) ≡ Ok fs
functions_again [] h = refl
functions_again (f ∷ fs) h = rw (function_again f (All-head IsFunctionInRange f fs h), functions_again fs (All-tail IsFunctionInRange f fs h)) refl

pub setup_again : (config : Config) (salt max_entries : ℕ) → IsConfigInRange config
    → setup_of (setup_data config salt max_entries) ≡ Ok (record { config = config; salt = salt; max_entries = max_entries })
unfolding home_of config_of setup_of
setup_again config salt max_entries h =
    rw
    (functions_again config.functions h.3, below_again (2 ^ 32) config.account_limit h.0, below_again (2 ^ 32) config.least_remainder h.1, below_again (2 ^ 16) config.invoke_port h.2) refl

slots_flat : (ss : List Slot) → items_depth (items_of (map slot_data ss)) ≡ 0
slots_flat [] = refl
slots_flat (s ∷ ss) = rw (slots_flat ss) refl

texts_flat : (ts : List (List ℕ)) → items_depth (items_of (map string ts)) ≡ 0
texts_flat [] = refl
texts_flat (t ∷ ts) = rw (texts_flat ts) refl

reserved_flat : (o : Option ℕ) (n : ℕ) → members_depth (with_reserved o (member (codes "timeout") (number_data n) no_members)) ≡ 0
reserved_flat None n = refl
reserved_flat (Some r) n = refl

functions_flat : (fs : List Function) → items_depth (items_of (map function_data fs)) ≤ 2
functions_flat [] = omega arith
functions_flat (f ∷ fs) = rw (texts_flat f.extensions, slots_flat f.slots, reserved_flat f.reserved f.timeout_s) (omega (arith, functions_flat fs))

pub setup_flat : (config : Config) (salt max_entries : ℕ) → depth (setup_data config salt max_entries) ≤ max_depth
setup_flat config salt max_entries = omega (arith, functions_flat config.functions)

pub short_again : (bytes : List ℕ) (s : Setup) → said_by bytes ≡ Ok s → length bytes ≤ 20000000 → read_setup bytes ≡ Ok s
unfolding read_setup
short_again bytes s e short = grind (arith)

pub again_ok : {E : Type 0} (r : Result (Vec ℕ Global) E) (d : Data) (config : Config) (salt max_entries : ℕ)
    → IfOk r (λ b. IsUtf8 b.items) → IfOk r (λ b. depth d ≤ max_depth → read b.items ≡ Some d)
    → d ≡ setup_data config salt max_entries → IsConfigInRange config
    → IfOk r (λ b. length b.items ≤ 20000000 → read_setup b.items ≡ Ok (record { config = config; salt = salt; max_entries = max_entries }))
again_ok (Ok b) d config salt max_entries text back is fits =
    let found : read b.items ≡ Some (setup_data config salt max_entries) = rw is at (back (rw is (setup_flat config salt max_entries))) in
    let said : said_by b.items ≡ Ok (record { config = config; salt = salt; max_entries = max_entries }) =
    rw (json_ok b.items (setup_data config salt max_entries) text found) (setup_again config salt max_entries fits) in
    short_again b.items (record { config = config; salt = salt; max_entries = max_entries }) said
again_ok (Err e) d config salt max_entries text back is fits = tt

-- The text of a configuration without a fault is read as that configuration.
use Rattle.std.proofs.Common.{◌≡◌, ℕ, suc, ◌+◌, ◌*◌, ◌^◌, ◌<◌, ◌≤◌, Bool, true, false, not, ◌&&◌, ◌==◌, nat_le, nat_lt}
use Rattle.std.proofs.Common.{List, [], ◌∷◌, length, map, codes, Option, Some, None, Ok, All, refl, ap, ◌∙◌, arith}
use Rattle.std.proofs.Common.{length-append}
use Rattle.std.proofs.lemmas.List.{length-map}
use Rattle.std.specs.List.{list_all, list_any}
use Rattle.std.proofs.lemmas.Bool.{leb-true, ltb-false, eqb-true, or_parts}
use Rattle.std.proofs.lemmas.Bool.Decides.{nat_tests}
use Rattle.std.proofs.lemmas.List.Elements.{All-nil, All-cons, All-head, All-tail}
use Rattle.json.specs.Print.{escape_byte}
use Rattle.serde_json.specs.Data.{Data, string, Members, no_members, member}
use Rattle.serde_json.specs.Read.{of_members}
use Rattle.serde_json.specs.Written.{members_outline, compact_text}
use Rattle.arn_ids.specs.Words.{is_digit, is_name_byte, is_region_byte, is_word, is_printable, is_name, is_label, is_account}
use Rattle.arn_ids.specs.Environments.{owners_from}
use Rattle.arn_ids.specs.Faults.{first_fault, has_bad_name, has_bad_handler, has_too_many_extensions, has_bad_extension}
use Rattle.arn_ids.proofs.Bounds.{sound, functions_64, environments_256, account_is, region_is}
use Rattle.arn_ids.specs.declared.config.Slot.{Slot}
use Rattle.arn_ids.specs.declared.config.Function.{Function}
use Rattle.arn_ids.specs.declared.config.Config.{Config}
use Rattle.lambda_wire.specs.Configuration.{read_setup}
use Rattle.lambda_wire.specs.ConfigurationText.{slot_data, number_data, list_data, with_reserved, function_data, setup_data, setup_text}
use Rattle.lambda_wire.specs.Ranges.{IsSlotInRange, IsReservedInRange, IsFunctionInRange, IsConfigInRange}
use Rattle.lambda_wire.proofs.Again.{setup_again, setup_flat, short_again}
use Rattle.lambda_wire.proofs.Parsed.{json_ok}
use Rattle.lambda_wire.proofs.TextAgain.{Fits, both, fits_weaker, fits_word, IsCarried, carried_number, carried_string}
use Rattle.lambda_wire.proofs.TextAgain.{carried_list, carried_object, total, HasMembers, no_more, with_member}
use Rattle.lambda_wire.proofs.TextAgain.{read_again, utf8_again}

-- the texts of a function are ASCII and not long, and so are its lists
pub record IsModest (f : Function) : Type 0 where
  pub name : Fits 128 f.name
  pub handler : Fits 128 f.handler
  pub extensions : All (λ e. Fits 128 e) f.extensions
  pub few_extensions : length f.extensions ≤ 10
  pub few_slots : length f.slots ≤ 256
  pub in_range : IsFunctionInRange f

-- the members of a function, and those of a configuration
abbrev function_members : Function → Members
function_members f =
    member (codes "extensions") (list_data (map string f.extensions))
    (member (codes "handler") (string f.handler)
    (member (codes "name") (string f.name)
    (member (codes "ports") (list_data (map slot_data f.slots))
    (with_reserved f.reserved
    (member (codes "timeout") (number_data f.timeout_s) no_members)))))

abbrev setup_members : Config → ℕ → ℕ → Members
setup_members config salt max_entries =
    member (codes "account") (string config.home.account)
    (member (codes "accountLimit") (number_data config.account_limit)
    (member (codes "functions") (list_data (map function_data config.functions))
    (member (codes "invokePort") (number_data config.invoke_port)
    (member (codes "leastRemainder") (number_data config.least_remainder)
    (member (codes "maxEntries") (number_data max_entries)
    (member (codes "region") (string config.home.region)
    (member (codes "salt") (number_data salt) no_members)))))))

-- the lists' lengths
extensions_total : (xs : List (List ℕ)) → total 770 xs ≤ 771 * length xs + 1
extensions_total [] = omega arith
extensions_total (x ∷ xs) = omega (arith, extensions_total xs)

slots_total : (xs : List Slot) → total 20 xs ≤ 21 * length xs + 1
slots_total [] = omega arith
slots_total (x ∷ xs) = omega (arith, slots_total xs)

functions_total : (xs : List Function) → total 20000 xs ≤ 20001 * length xs + 1
functions_total [] = omega arith
functions_total (x ∷ xs) = omega (arith, functions_total xs)

strings_carried : (xs : List (List ℕ)) → All (λ e. Fits 128 e) xs → All (λ e. IsCarried 770 (string e)) xs
strings_carried [] all = All-nil (λ e. IsCarried 770 (string e))
strings_carried (x ∷ xs) all =
    All-cons (λ e. IsCarried 770 (string e)) x xs (carried_string 128 x (All-head (λ e. Fits 128 e) x xs all))
    (strings_carried xs (All-tail (λ e. Fits 128 e) x xs all))

slots_carried : (xs : List Slot) → All IsSlotInRange xs → All (λ s. IsCarried 20 (slot_data s)) xs
slots_carried [] all = All-nil (λ s. IsCarried 20 (slot_data s))
slots_carried (x ∷ xs) all =
    let small = All-head IsSlotInRange x xs all in
    All-cons (λ s. IsCarried 20 (slot_data s)) x xs (carried_number x.port (omega (arith, small))) (slots_carried xs (All-tail IsSlotInRange x xs all))

with_reserved_carried : (o : Option ℕ) (n : ℕ) (ms : Members) → IsReservedInRange o → HasMembers n ms → HasMembers (22 + (20 + n)) (with_reserved o ms)
unfolding escape_byte
with_reserved_carried None n ms h c =
    record { numbers = c.numbers; blanks = c.blanks; deep = c.deep; fits = λ later. fits_weaker n (22 + (20 + n)) _ (omega arith) (c.fits later) }
with_reserved_carried (Some r) n ms h c = with_member 20 n (codes "reserved") (number_data r) ms (fits_word 20 _ refl) (carried_number r (omega (arith, h))) c

carried_weaker : (m n : ℕ) (d : Data) → m ≤ n → IsCarried m d → IsCarried n d
carried_weaker m n d le c = record { reads = c.reads; numbers = c.numbers; blanks = c.blanks; deep = c.deep; fits = fits_weaker m n _ le c.fits }

-- the members of a function, behind its lists and texts
function_reads : (f : Function) (o : Option ℕ) → f.reserved ≡ o → IsReservedInRange o
    → IsCarried 7712 (list_data (map string f.extensions)) → IsCarried 5378 (list_data (map slot_data f.slots))
    → IsCarried 20 (number_data f.timeout_s)
    → of_members (members_outline (function_members f)) no_members ≡ Some (function_members f)
function_reads f None e h ext ports timeout = rw (e, ext.reads, ports.reads, timeout.reads) refl
function_reads f (Some r) e h ext ports timeout =
    let count = carried_number r (omega (arith, h)) in rw (e, ext.reads, ports.reads, count.reads, timeout.reads) refl

function_carried : (f : Function) → IsModest f → IsCarried 20000 (function_data f)
unfolding escape_byte
function_carried f m =
    let ext : IsCarried 7712 (list_data (map string f.extensions)) = carried_list 770 7711 string f.extensions (strings_carried f.extensions m.extensions) (omega (arith, extensions_total f.extensions, m.few_extensions)) in
    let ports : IsCarried 5378 (list_data (map slot_data f.slots)) = carried_list 20 5377 slot_data f.slots (slots_carried f.slots m.in_range.2) (omega (arith, slots_total f.slots, m.few_slots)) in
    let timeout = carried_number f.timeout_s (omega (arith, m.in_range.0)) in
    let last = with_member 20 1 (codes "timeout") (number_data f.timeout_s) no_members (fits_word 20 _ refl) timeout no_more in
    let behind = with_reserved_carried f.reserved (22 + (20 + 1)) (member (codes "timeout") (number_data f.timeout_s) no_members) m.in_range.1 last in
    let all = with_member 7712 _ (codes "extensions") _ _ (fits_word 20 _ refl) ext
    (with_member 770 _ (codes "handler") (string f.handler) _ (fits_word 20 _ refl) (carried_string 128 f.handler m.handler)
    (with_member 770 _ (codes "name") (string f.name) _ (fits_word 20 _ refl) (carried_string 128 f.name m.name)
    (with_member 5378 _ (codes "ports") _ _ (fits_word 20 _ refl) ports behind))) in
    carried_weaker _ 20000 (function_data f) (omega arith)
    (carried_object _ (function_members f) (function_reads f f.reserved refl m.in_range.1 ext ports timeout) all)

functions_carried : (fs : List Function) → All IsModest fs → All (λ f. IsCarried 20000 (function_data f)) fs
functions_carried [] all = All-nil (λ f. IsCarried 20000 (function_data f))
functions_carried (f ∷ fs) all =
    All-cons (λ g. IsCarried 20000 (function_data g)) f fs (function_carried f (All-head IsModest f fs all)) (functions_carried fs (All-tail IsModest f fs all))

-- ---- what a configuration without a fault has

word_fits : (p : ℕ → Bool) → ((b : ℕ) → p b ≡ true → nat_lt b 128 ≡ true) → (most : ℕ) (text : List ℕ) → is_word p most text ≡ true → Fits most text
word_fits p low most text h =
    let a = both (nat_le 1 (length text) && nat_le (length text) most) (list_all p text) h in
    record { ascii = each text a.1; short = leb-true (length text) most (both (nat_le 1 (length text)) (nat_le (length text) most) a.0).1 }
  where
    each : (t : List ℕ) → list_all p t ≡ true → list_all (λ b. nat_lt b 128) t ≡ true
    each [] k = refl
    each (b ∷ t) k = let q = both (p b) (list_all p t) k in rw (low b q.0) (each t q.1)

printable_low : (b : ℕ) → is_printable b ≡ true → nat_lt b 128 ≡ true
printable_low b h = let most = (both (nat_le 32 b) (nat_le b 126) h).1 in grind (arith, nat_tests)

digit_low : (b : ℕ) → is_digit b ≡ true → nat_lt b 128 ≡ true
digit_low b h = let most = (both (nat_le 48 b) (nat_le b 57) h).1 in grind (arith, nat_tests)

-- no byte from 128 on is one of a name
name_low : (b : ℕ) → is_name_byte b ≡ true → nat_lt b 128 ≡ true
name_low b h = go (nat_lt b 128) refl
  where
    go : (t : Bool) → nat_lt b 128 ≡ t → t ≡ true
    go true e = refl
    go false e =
        let d0 : nat_le 48 b ≡ true = grind (arith, nat_tests) in
        let d1 : nat_le b 57 ≡ false = grind (arith, nat_tests) in
        let l0 : nat_le 97 b ≡ true = grind (arith, nat_tests) in
        let l1 : nat_le b 122 ≡ false = grind (arith, nat_tests) in
        let u0 : nat_le 65 b ≡ true = grind (arith, nat_tests) in
        let u1 : nat_le b 90 ≡ false = grind (arith, nat_tests) in
        let dash : (b == 45) ≡ false = grind (arith, nat_tests) in
        let line : (b == 95) ≡ false = grind (arith, nat_tests) in
        let never = rw (d0, d1, l0, l1, u0, u1, dash, line) at h in
        cc

region_low : (b : ℕ) → is_region_byte b ≡ true → nat_lt b 128 ≡ true
region_low b h = go (nat_lt b 128) refl
  where
    go : (t : Bool) → nat_lt b 128 ≡ t → t ≡ true
    go true e = refl
    go false e =
        let d0 : nat_le 48 b ≡ true = grind (arith, nat_tests) in
        let d1 : nat_le b 57 ≡ false = grind (arith, nat_tests) in
        let l0 : nat_le 97 b ≡ true = grind (arith, nat_tests) in
        let l1 : nat_le b 122 ≡ false = grind (arith, nat_tests) in
        let dash : (b == 45) ≡ false = grind (arith, nat_tests) in
        let never = rw (d0, d1, l0, l1, dash) at h in
        cc

is_true : (b : Bool) → not b ≡ false → b ≡ true
is_true true h = refl
is_true false h = cc

labels_fit : (xs : List (List ℕ)) → list_any (λ name. not (is_label name)) xs ≡ false → All (λ e. Fits 128 e) xs
labels_fit [] h = All-nil (λ e. Fits 128 e)
labels_fit (x ∷ xs) h =
    let p = or_parts (not (is_label x)) (list_any (λ name. not (is_label name)) xs) h in
    All-cons (λ e. Fits 128 e) x xs (word_fits is_printable printable_low 128 x (is_true (is_label x) p.0)) (labels_fit xs p.1)

modest : (k : ℕ) (fs : List Function) → list_any (λ f. not (is_name f.name)) fs ≡ false
    → list_any (λ f. not (is_label f.handler)) fs ≡ false → list_any (λ f. nat_lt 10 (length f.extensions)) fs ≡ false
    → list_any (λ f. list_any (λ name. not (is_label name)) f.extensions) fs ≡ false → length (owners_from k fs) ≤ 256
    → All IsFunctionInRange fs → All IsModest fs
modest k [] names handlers few labels owned in_range = All-nil IsModest
modest k (f ∷ fs) names handlers few labels owned in_range =
    let name = or_parts (not (is_name f.name)) (list_any (λ g. not (is_name g.name)) fs) names in
    let handler = or_parts (not (is_label f.handler)) (list_any (λ g. not (is_label g.handler)) fs) handlers in
    let count = or_parts (nat_lt 10 (length f.extensions)) (list_any (λ g. nat_lt 10 (length g.extensions)) fs) few in
    let label = or_parts (list_any (λ e. not (is_label e)) f.extensions) (list_any (λ g. list_any (λ e. not (is_label e)) g.extensions) fs) labels in
    let slots : length (owners_from k (f ∷ fs)) ≡ length f.slots + length (owners_from (suc k) fs) =
    length-append (map (λ s. (k, f)) f.slots) (owners_from (suc k) fs)
    ∙ ap (λ (n : ℕ). n + length (owners_from (suc k) fs)) (length-map f.slots (λ s. (k, f))) in
    All-cons IsModest f fs (record {
      name = fits_weaker 64 128 f.name (omega arith) (word_fits is_name_byte name_low 64 f.name (is_true (is_name f.name) name.0));
      handler = word_fits is_printable printable_low 128 f.handler (is_true (is_label f.handler) handler.0);
      extensions = labels_fit f.extensions label.0;
      few_extensions = ltb-false 10 (length f.extensions) count.0;
      few_slots = omega (arith, slots, owned);
      in_range = All-head IsFunctionInRange f fs in_range;
    }) (modest (suc k) fs name.1 handler.1 count.1 label.1 (omega (arith, slots, owned)) (All-tail IsFunctionInRange f fs in_range))

account_fits : (text : List ℕ) → is_account text ≡ true → Fits 12 text
account_fits text h =
    let p = both (length text == 12) (list_all is_digit text) h in
    let twelve = eqb-true (length text) 12 p.0 in
    record { ascii = each text p.1; short = omega (arith, twelve) }
  where
    each : (t : List ℕ) → list_all is_digit t ≡ true → list_all (λ b. nat_lt b 128) t ≡ true
    each [] k = refl
    each (b ∷ t) k = let q = both (is_digit b) (list_all is_digit t) k in rw (digit_low b q.0) (each t q.1)

setup_carried : (config : Config) (salt max_entries : ℕ) → first_fault config ≡ None → IsConfigInRange config
    → salt < 2 ^ 64 → max_entries < 2 ^ 64 → IsCarried 20000000 (setup_data config salt max_entries)
unfolding has_bad_name has_bad_handler has_too_many_extensions has_bad_extension escape_byte
setup_carried config salt max_entries none in_range small few =
    let s = sound config none in
    let functions : IsCarried 1280066 (list_data (map function_data config.functions)) =
    carried_list 20000 1280065 function_data config.functions
    (functions_carried config.functions (modest 1 config.functions s.names s.handlers s.extensions s.extension_names (environments_256 config none) in_range.3))
    (omega (arith, functions_total config.functions, functions_64 config none)) in
    let account = carried_string 12 config.home.account (account_fits config.home.account (account_is config none)) in
    let region = carried_string 32 config.home.region (word_fits is_region_byte region_low 32 config.home.region (region_is config none)) in
    let limit = carried_number config.account_limit (omega (arith, in_range.0)) in
    let least = carried_number config.least_remainder (omega (arith, in_range.1)) in
    let port = carried_number config.invoke_port (omega (arith, in_range.2)) in
    let most = carried_number max_entries few in
    let salted = carried_number salt small in
    let all = with_member 74 _ (codes "account") _ _ (fits_word 20 _ refl) account
    (with_member 20 _ (codes "accountLimit") _ _ (fits_word 20 _ refl) limit
    (with_member 1280066 _ (codes "functions") _ _ (fits_word 20 _ refl) functions
    (with_member 20 _ (codes "invokePort") _ _ (fits_word 20 _ refl) port
    (with_member 20 _ (codes "leastRemainder") _ _ (fits_word 20 _ refl) least
    (with_member 20 _ (codes "maxEntries") _ _ (fits_word 20 _ refl) most
    (with_member 194 _ (codes "region") _ _ (fits_word 20 _ refl) region
    (with_member 20 1 (codes "salt") _ no_members (fits_word 20 _ refl) salted no_more))))))) in
    carried_weaker _ 20000000 (setup_data config salt max_entries) (omega arith)
    (carried_object _ (setup_members config salt max_entries) (rw (functions.reads, limit.reads, least.reads, port.reads, most.reads, salted.reads) refl) all)

-- The configuration's text is read as that configuration.
pub setup_read_again : (config : Config) (salt max_entries : ℕ) → first_fault config ≡ None → IsConfigInRange config → salt < 2 ^ 64 → max_entries < 2 ^ 64
    → read_setup (setup_text config salt max_entries) ≡ Ok (record { config = config; salt = salt; max_entries = max_entries })
unfolding setup_text
setup_read_again config salt max_entries none in_range small few =
    let c = setup_carried config salt max_entries none in_range small few in
    let text = compact_text (setup_data config salt max_entries) in
    let found = read_again 20000000 (setup_data config salt max_entries) c (setup_flat config salt max_entries) in
    short_again text (record { config = config; salt = salt; max_entries = max_entries })
    (rw (json_ok text (setup_data config salt max_entries) (utf8_again 20000000 text c.fits) found) (setup_again config salt max_entries in_range)) c.fits.short

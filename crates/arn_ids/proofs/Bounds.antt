-- What a configuration without a fault keeps to: each of its limits, by function number and by environment number.
use Rattle.std.proofs.Common.{◌≡◌, ℕ, zero, suc, ◌+◌, ◌-◌, ◌<◌, ◌≤◌, Bool, true, false, not, ◌||◌, ◌&&◌, nat_le, nat_lt}
use Rattle.std.proofs.Common.{◌==◌, unwrap_or, bytes_eq, List, [], ◌∷◌, length, map, sum_by, Option, Some, None, refl}
use Rattle.std.proofs.Common.{ap, sym, ◌∙◌, arith, length-append}
use Rattle.std.specs.List.{list_any, list_all, position_or_len}
use Rattle.std.proofs.lemmas.List.Sums.{position_or_len_is}
use Rattle.std.proofs.lemmas.Cmp.{nat_list_eq_equiv}
use Rattle.std.proofs.lemmas.Bool.{ltb-true, ltb-false, lt-ltb, leb-true, eqb-true}
use Rattle.std.proofs.lemmas.List.{length-map}
use Rattle.arn_ids.specs.Words.{is_digit, is_name_byte, is_region_byte, is_printable, is_word, is_account, is_region, is_name, is_label}
use Rattle.arn_ids.specs.Environments.{at, numbered, no_function, function_at, number_named, owners_from, owners, owner_of, function_of}
use Rattle.arn_ids.specs.Faults.{first_fault, earliest, is_between, is_namesake, repeats, reservation_of}
use Rattle.arn_ids.specs.Faults.{has_bad_account, has_bad_region, has_bad_account_limit, has_bad_least_remainder}
use Rattle.arn_ids.specs.Faults.{has_too_many_functions, has_bad_name, has_duplicate_name, has_bad_handler}
use Rattle.arn_ids.specs.Faults.{has_bad_timeout, has_function_without_environment, has_too_many_environments}
use Rattle.arn_ids.specs.Faults.{has_bad_port, has_duplicate_port, has_too_many_extensions, has_bad_extension}
use Rattle.arn_ids.specs.Faults.{has_duplicate_extension, has_reservation_above_environments, has_too_small_remainder}
use Rattle.arn_ids.specs.declared.config.Config.{Config}
use Rattle.arn_ids.specs.declared.config.Function.{Function}
use Rattle.arn_ids.specs.declared.faults.ConfigFault.{ConfigFault}
use Rattle.arn_ids.proofs.Counting.{at_get_or, at_front, at_back, at_same, numbered_at}

-- none of the faults holds
pub record IsSound (config : Config) : Type 0 where
  pub account : has_bad_account config ≡ false
  pub region : has_bad_region config ≡ false
  pub limit : has_bad_account_limit config ≡ false
  pub least_remainder : has_bad_least_remainder config ≡ false
  pub functions : has_too_many_functions config ≡ false
  pub names : has_bad_name config ≡ false
  pub names_differ : has_duplicate_name config ≡ false
  pub handlers : has_bad_handler config ≡ false
  pub timeouts : has_bad_timeout config ≡ false
  pub each_has_one : has_function_without_environment config ≡ false
  pub environments : has_too_many_environments config ≡ false
  pub ports : has_bad_port config ≡ false
  pub ports_differ : has_duplicate_port config ≡ false
  pub extensions : has_too_many_extensions config ≡ false
  pub extension_names : has_bad_extension config ≡ false
  pub extensions_differ : has_duplicate_extension config ≡ false
  pub reservations : has_reservation_above_environments config ≡ false
  pub remainder : has_too_small_remainder config ≡ false

passed : (b : Bool) (fault : ConfigFault) (later : List (Bool × ConfigFault)) → earliest ((b, fault) ∷ later) ≡ None → (b ≡ false) × (earliest later ≡ None)
passed true fault later none = cc
passed false fault later none = (refl, none)

pub sound : (config : Config) → first_fault config ≡ None → IsSound config
unfolding first_fault
sound config none =
    let a = passed _ _ _ none in
    let b = passed _ _ _ a.1 in
    let c = passed _ _ _ b.1 in
    let d = passed _ _ _ c.1 in
    let e = passed _ _ _ d.1 in
    let f = passed _ _ _ e.1 in
    let g = passed _ _ _ f.1 in
    let h = passed _ _ _ g.1 in
    let i = passed _ _ _ h.1 in
    let j = passed _ _ _ i.1 in
    let k = passed _ _ _ j.1 in
    let l = passed _ _ _ k.1 in
    let m = passed _ _ _ l.1 in
    let n = passed _ _ _ m.1 in
    let o = passed _ _ _ n.1 in
    let p = passed _ _ _ o.1 in
    let q = passed _ _ _ p.1 in
    let r = passed _ _ _ q.1 in
    record { account = a.0; region = b.0; limit = c.0; least_remainder = d.0; functions = e.0; names = f.0; names_differ = g.0; handlers = h.0; timeouts = i.0; each_has_one = j.0; environments = k.0; ports = l.0; ports_differ = m.0; extensions = n.0; extension_names = o.0; extensions_differ = p.0; reservations = q.0; remainder = r.0 }

is_true : (b : Bool) → not b ≡ false → b ≡ true
is_true true h = refl
is_true false h = cc

either_true : (b c : Bool) → (b || c) ≡ false → (b ≡ false) × (c ≡ false)
either_true true c h = cc
either_true false c h = (refl, h)

-- no element passes a test
pub none_passes : {A : Type 0} (p : A → Bool) (d : A) (xs : List A) (i : ℕ) → list_any p xs ≡ false → i < length xs → p (at d xs i) ≡ false
none_passes p d [] i h lt = absurd (omega arith)
none_passes p d (x ∷ xs) zero h lt = (either_true (p x) (list_any p xs) h).0
none_passes p d (x ∷ xs) (suc i) h lt = none_passes p d xs i (either_true (p x) (list_any p xs) h).1 (omega arith)

-- no function passes a test
none_at : (p : Function → Bool) (config : Config) (f : ℕ) → list_any p config.functions ≡ false → 1 ≤ f
    → f ≤ length config.functions → p (function_at config f) ≡ false
none_at p config f h from_one there =
    rw (numbered_at no_function config.functions f from_one) (none_passes p no_function config.functions (f - 1) h (omega arith))

between : (low high n : ℕ) → not (is_between low high n) ≡ false → (low ≤ n) × (n ≤ high)
between low high n h = go (nat_le low n) refl (is_true (is_between low high n) h)
  where
    go : (b : Bool) → nat_le low n ≡ b → (b && nat_le n high) ≡ true → (low ≤ n) × (n ≤ high)
    go true e k = (leb-true low n e, leb-true n high k)
    go false e k = cc

-- At most 64 functions.
pub functions_64 : (config : Config) → first_fault config ≡ None → length config.functions ≤ 64
unfolding has_too_many_functions
functions_64 config none = ltb-false 64 (length config.functions) (sound config none).functions

-- At most 256 environments.
pub environments_256 : (config : Config) → first_fault config ≡ None → length (owners config) ≤ 256
unfolding has_too_many_environments
environments_256 config none = ltb-false 256 (length (owners config)) (sound config none).environments

-- The account's limit is between 1 and 1,000,000.
pub limit_between : (config : Config) → first_fault config ≡ None → (1 ≤ config.account_limit) × (config.account_limit ≤ 1000000)
unfolding has_bad_account_limit
limit_between config none = between 1 1000000 config.account_limit (sound config none).limit

-- The reservations and the least remainder are together within the account's limit.
pub reservations_fit : (config : Config) → first_fault config ≡ None → config.least_remainder + sum_by reservation_of config.functions ≤ config.account_limit
unfolding has_too_small_remainder
reservations_fit config none = ltb-false config.account_limit (config.least_remainder + sum_by reservation_of config.functions) (sound config none).remainder

-- The account is twelve digits, and the region of its form.
pub account_is : (config : Config) → first_fault config ≡ None → is_account config.home.account ≡ true
unfolding has_bad_account
account_is config none = is_true (is_account config.home.account) (sound config none).account

pub region_is : (config : Config) → first_fault config ≡ None → is_region config.home.region ≡ true
unfolding has_bad_region
region_is config none = is_true (is_region config.home.region) (sound config none).region

-- Each function's name is of its form, and its handler.
pub name_is : (config : Config) (f : ℕ) → first_fault config ≡ None → 1 ≤ f → f ≤ length config.functions → is_name (function_at config f).name ≡ true
unfolding has_bad_name
name_is config f none from_one there =
    is_true (is_name (function_at config f).name) (none_at (λ function. not (is_name function.name)) config f (sound config none).names from_one there)

-- The length of a text of a form.
word_between : (p : ℕ → Bool) (most : ℕ) (text : List ℕ) → is_word p most text ≡ true → (1 ≤ length text) × (length text ≤ most)
word_between p most text h = go (nat_le 1 (length text)) refl (nat_le (length text) most) refl h
  where
    go : (a : Bool) → nat_le 1 (length text) ≡ a → (b : Bool) → nat_le (length text) most ≡ b
        → (a && b && list_all p text) ≡ true → (1 ≤ length text) × (length text ≤ most)
    go true e true k r = (leb-true 1 (length text) e, leb-true (length text) most k)
    go true e false k r = cc
    go false e b k r = cc

pub name_between : (text : List ℕ) → is_name text ≡ true → (1 ≤ length text) × (length text ≤ 64)
name_between text h = word_between is_name_byte 64 text h

pub label_between : (text : List ℕ) → is_label text ≡ true → (1 ≤ length text) × (length text ≤ 128)
label_between text h = word_between is_printable 128 text h

pub region_between : (text : List ℕ) → is_region text ≡ true → (1 ≤ length text) × (length text ≤ 32)
region_between text h = word_between is_region_byte 32 text h

pub account_12 : (text : List ℕ) → is_account text ≡ true → length text ≡ 12
account_12 text h = go (length text == 12) refl h
  where
    go : (a : Bool) → (length text == 12) ≡ a → (a && list_all is_digit text) ≡ true → length text ≡ 12
    go true e r = eqb-true (length text) 12 e
    go false e r = cc

-- Each function's timeout is between 1 and 900 seconds.
pub timeout_between : (config : Config) (f : ℕ) → first_fault config ≡ None → 1 ≤ f → f ≤ length config.functions
    → (1 ≤ (function_at config f).timeout_s) × ((function_at config f).timeout_s ≤ 900)
unfolding has_bad_timeout
timeout_between config f none from_one there =
    between 1 900 (function_at config f).timeout_s
    (none_at (λ function. not (is_between 1 900 function.timeout_s)) config f (sound config none).timeouts from_one there)

-- What holds of each function that passes no test, and of a function that isn't there, holds at each number.
every : {A : Type 0} (p : A → Bool) (P : A → Type 0) → ((x : A) → p x ≡ false → P x) → (d : A) → P d
    → (xs : List A) (i : ℕ) → list_any p xs ≡ false → P (at d xs i)
every p P to_P d at_d [] i h = at_d
every p P to_P d at_d (x ∷ xs) zero h = to_P x (either_true (p x) (list_any p xs) h).0
every p P to_P d at_d (x ∷ xs) (suc i) h = every p P to_P d at_d xs i (either_true (p x) (list_any p xs) h).1

every_function : (p : Function → Bool) (P : Function → Type 0) → ((x : Function) → p x ≡ false → P x) → P no_function
    → (functions : List Function) (f : ℕ) → list_any p functions ≡ false → P (numbered no_function functions f)
every_function p P to_P at_none functions zero h = at_none
every_function p P to_P at_none functions (suc i) h = every p P to_P no_function at_none functions i h

-- No reservation is above the function's environments, whatever the number.
pub reserved_within : (config : Config) (f n : ℕ) → first_fault config ≡ None → (function_at config f).reserved ≡ Some n
    → n ≤ length (function_at config f).slots
unfolding has_reservation_above_environments
reserved_within config f n none some =
    let within = every_function (λ function. nat_lt (length function.slots) (reservation_of function)) (λ function. reservation_of function ≤ length function.slots)
    (λ function h. ltb-false (length function.slots) (reservation_of function) h) (omega arith) config.functions f (sound config none).reservations in
    let is : reservation_of (function_at config f) ≡ n = ap (λ (o : Option ℕ). unwrap_or o 0) some in
    omega (arith, within, is)

-- An owner among the functions numbered from f on.
pub record Owns (f : ℕ) (functions : List Function) (owner : ℕ × Function) : Type 0 where
  pub from : f ≤ owner.0
  pub below : owner.0 < f + length functions
  pub same : owner.1 ≡ at no_function functions (owner.0 - f)

owns_here : (f : ℕ) (x : Function) (xs : List Function) → Owns f (x ∷ xs) (f, x)
owns_here f x xs = let e : f - f ≡ 0 = omega arith in record { from = omega arith; below = omega arith; same = rw e refl }

owns_later : (f : ℕ) (x : Function) (xs : List Function) (owner : ℕ × Function) → Owns (suc f) xs owner → Owns f (x ∷ xs) owner
owns_later f x xs owner later =
    let e : owner.0 - f ≡ suc (owner.0 - suc f) = omega (arith, later.from) in
    record { from = omega (arith, later.from); below = omega (arith, later.below); same = rw e later.same }

owner_from : (f : ℕ) (functions : List Function) (i : ℕ) → i < length (owners_from f functions)
    → Owns f functions (at (0, no_function) (owners_from f functions) i)
owner_from f [] i lt = absurd (omega arith)
owner_from f (x ∷ xs) i lt = go (λ j. owner_from (suc f) xs j) (nat_lt i (length x.slots)) refl
  where
    go : ((j : ℕ) → j < length (owners_from (suc f) xs) → Owns (suc f) xs (at (0, no_function) (owners_from (suc f) xs) j))
        → (b : Bool) → nat_lt i (length x.slots) ≡ b → Owns f (x ∷ xs) (at (0, no_function) (owners_from f (x ∷ xs)) i)
    go again true e =
        let own : List (ℕ × Function) = map (λ _. (f, x)) x.slots in
        let as_many : length own ≡ length x.slots = length-map {B = ℕ × Function} x.slots (λ _. (f, x)) in
        let within : i < length x.slots = ltb-true i (length x.slots) e in
        rw
        (at_front (0, no_function) own (owners_from (suc f) xs) i (rw as_many within), at_same {B = ℕ × Function} (0, no_function) (f, x) x.slots i within)
        (owns_here f x xs)
    go again false e =
        let own : List (ℕ × Function) = map (λ _. (f, x)) x.slots in
        let as_many : length own ≡ length x.slots = length-map {B = ℕ × Function} x.slots (λ _. (f, x)) in
        let beyond : length x.slots ≤ i = ltb-false i (length x.slots) e in
        let rest : length (owners_from f (x ∷ xs)) ≡ length own + length (owners_from (suc f) xs) = length-append own (owners_from (suc f) xs) in
        rw (at_back (0, no_function) own (owners_from (suc f) xs) i (rw as_many beyond))
        (owns_later f x xs (at (0, no_function) (owners_from (suc f) xs) (i - length own)) (again (i - length own) (omega (arith, lt, rest, as_many, beyond))))

-- An environment's function is one that there is, and is what is configured for its number.
pub owner_is_function : (config : Config) (e : ℕ) → 1 ≤ e → e ≤ length (owners config)
    → (1 ≤ function_of config e) × (function_of config e ≤ length config.functions) × ((owner_of config e).1 ≡ function_at config (function_of config e))
owner_is_function config zero from_one there = absurd (omega arith)
owner_is_function config (suc i) from_one there =
    let owns = owner_from 1 config.functions i (omega arith) in
    (owns.from, omega (arith, owns.below), owns.same ∙ sym (numbered_at no_function config.functions (function_of config (suc i)) owns.from))

-- Of two elements of a list that repeats none, the later isn't the same as the earlier.
apart : {A : Type 0} (same : A → A → Bool) (d : A) (xs : List A) (k i : ℕ) → repeats same xs ≡ false → k < i
    → i < length xs → same (at d xs k) (at d xs i) ≡ false
apart same d [] k i h lt within = absurd (omega arith)
apart same d (x ∷ xs) k zero h lt within = absurd (omega arith)
apart same d (x ∷ xs) zero (suc i) h lt within = none_passes (same x) d xs i (either_true (list_any (same x) xs) (repeats same xs) h).0 (omega arith)
apart same d (x ∷ xs) (suc k) (suc i) h lt within = apart same d xs k i (either_true (list_any (same x) xs) (repeats same xs) h).1 (omega arith) (omega arith)

-- A function is found by its name.
pub named_once : (config : Config) (f : ℕ) → first_fault config ≡ None → 1 ≤ f → f ≤ length config.functions
    → number_named config (function_at config f).name ≡ Some f
unfolding has_duplicate_name
named_once config f none from_one there =
    let functions = config.functions in
    let name : List ℕ = (function_at config f).name in
    let within : f - 1 < length functions = omega arith in
    let is : function_at config f ≡ at no_function functions (f - 1) = numbered_at no_function functions f from_one in
    let place : position_or_len (λ (function : Function). bytes_eq function.name name) functions ≡ f - 1 =
    position_or_len_is (λ (function : Function). bytes_eq function.name name) functions (f - 1) no_function (omega arith)
    (λ k lt. ap (λ (function : Function). bytes_eq function.name name) (sym (at_get_or no_function no_function functions k (omega arith)))
    ∙ ap (λ (function : Function). bytes_eq (at no_function functions k).name function.name) is
    ∙ apart is_namesake no_function functions k (f - 1) (sound config none).names_differ lt within)
    (λ _. ap (λ (function : Function). bytes_eq function.name name) (sym (at_get_or no_function no_function functions (f - 1) within) ∙ sym is) ∙ nat_list_eq_equiv.refl name) in
    let last : suc (f - 1) ≡ f = omega arith in
    rw (place, lt-ltb (f - 1) (length functions) within) (ap Some last)

-- An element that stands again, looked for from the front: what a step of the search leaves to the rest.
use Rattle.std.proofs.Common.{◌≡◌, ℕ, ◌+◌, ◌<◌, Bool, true, false, ◌||◌, List, [], ◌∷◌, length, map, get_or, drop, refl, ap, ◌∙◌, add-one, drop-cons}
use Rattle.std.specs.List.{list_any}
use Rattle.std.proofs.lemmas.List.Folds.{list_any-append}
use Rattle.arn_ids.specs.Faults.{repeats, port_of, ports_of, environment_ports}
use Rattle.arn_ids.specs.declared.config.Function.{Function}

-- a test of what is mapped
pub list_any-map : {A B : Type 0} (p : B → Bool) (f : A → B) (xs : List A) → list_any p (map f xs) ≡ list_any (λ x. p (f x)) xs
list_any-map p f [] = refl
list_any-map p f (x ∷ xs) = ap (λ b. p (f x) || b) (list_any-map p f xs)

-- a test of the ports
pub any_port : (p : ℕ → Bool) (functions : List Function)
    → list_any p (environment_ports functions) ≡ list_any (λ function. list_any (λ slot. p slot.port) function.slots) functions
any_port p [] = refl
any_port p (function ∷ functions) =
    list_any-append p (ports_of function) (environment_ports functions)
    ∙ ap (λ b. b || list_any p (environment_ports functions)) (list_any-map p port_of function.slots)
    ∙ ap (λ b. list_any (λ slot. p slot.port) function.slots || b) (any_port p functions)

-- one step of the search
pub repeats_step : {A : Type 0} (same : A → A → Bool) (xs : List A) (i : ℕ) (x : A) → i < length xs → x ≡ get_or xs i x
    → repeats same (drop i xs) ≡ (list_any (same x) (drop (i + 1) xs) || repeats same (drop (i + 1) xs))
repeats_step same xs i x lt is = rw (add-one, drop-cons xs i x lt, ← is) refl

-- it was found at i
pub repeats_here : {A : Type 0} (same : A → A → Bool) (xs : List A) (i : ℕ) (x : A) → i < length xs → x ≡ get_or xs i x
    → list_any (same x) (drop (i + 1) xs) ≡ true → repeats same (drop i xs) ≡ true
repeats_here same xs i x lt is found = repeats_step same xs i x lt is ∙ ap (λ b. b || repeats same (drop (i + 1) xs)) found

-- it was not
pub repeats_later : {A : Type 0} (same : A → A → Bool) (xs : List A) (i : ℕ) (x : A) → i < length xs → x ≡ get_or xs i x
    → list_any (same x) (drop (i + 1) xs) ≡ false → repeats same (drop i xs) ≡ repeats same (drop (i + 1) xs)
repeats_later same xs i x lt is found = repeats_step same xs i x lt is ∙ ap (λ b. b || repeats same (drop (i + 1) xs)) found

-- a test that stops at its first part, and one that goes on to its second
pub or_first : (r a b : Bool) → r ≡ a → r ≡ true → r ≡ (a || b)
or_first r true b same holds = holds
or_first r false b same holds = cc

pub or_second : (r a b : Bool) → a ≡ false → r ≡ b → r ≡ (a || b)
or_second r a b fails same = rw fails same

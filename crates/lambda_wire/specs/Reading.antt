-- What a JSON body contains, and the steps by which a value is read from it.
use Rattle.std.specs.Prelude.{ℕ, ◌≡◌, Bool, true, false, ◌&&◌, nat_lt, if◌then◌else◌, List, [], ◌∷◌}
use Rattle.std.specs.Prelude.{Option, Some, None, Result, Ok, Err, option_and_then}
use Rattle.std.specs.Str.{is_utf8}
use Rattle.serde_json.specs.Data.{Data, null, boolean, number, string, array, object, Items, no_items, item}
use Rattle.serde_json.specs.Data.{Members, no_members, member}
use Rattle.serde_json.specs.Read.{read}
use Rattle.serde_json.specs.Find.{as_str, as_number, as_u64, as_array}
use Rattle.lambda_wire.specs.declared.fault.WireFault.{WireFault}
use Rattle.lambda_wire.specs.declared.fault.WireFault.TheVariants.{TooLong, NotJson, BadShape, BadEvent, OutOfMemory}

-- The next step of a reading, which a fault ends.
infixl 10 ◌>>=◌
abbrev pub ◌>>=◌ : {A B : Type 0} → Result A WireFault → (A → Result B WireFault) → Result B WireFault
(Ok x) >>= f = f x
(Err e) >>= f = Err e

-- A fault that a function returned is the one that the reading gives, or memory ran out.
abbrev pub Fails : {A : Type 0} → WireFault → Result A WireFault → Type 0
Fails TooLong reading = reading ≡ Err TooLong
Fails NotJson reading = reading ≡ Err NotJson
Fails BadShape reading = reading ≡ Err BadShape
Fails BadEvent reading = reading ≡ Err BadEvent
Fails OutOfMemory reading = Unit {0}

-- What a function returned, under this view, is what the reading gives, unless memory ran out.
abbrev pub GivesAs : {A B : Type 0} → (A → B) → Result A WireFault → Result B WireFault → Type 0
GivesAs seen (Ok x) reading = reading ≡ Ok (seen x)
GivesAs seen (Err e) reading = Fails e reading

-- What a function returned is what the reading gives, unless memory ran out.
abbrev pub Gives : {A : Type 0} → Result A WireFault → Result A WireFault → Type 0
Gives (Ok x) reading = reading ≡ Ok x
Gives (Err e) reading = Fails e reading

-- The value, if there is one; otherwise the shape is bad.
abbrev pub wanted : {A : Type 0} → Option A → Result A WireFault
wanted None = Err BadShape
wanted (Some x) = Ok x

-- The JSON value, if there is one; otherwise the text is not JSON.
abbrev pub json_or : Option Data → Result Data WireFault
json_or None = Err NotJson
json_or (Some d) = Ok d

-- The JSON value of the bytes. If an object has a member more than once, the last one counts.
unfoldable pub json_in : List ℕ → Result Data WireFault
json_in bytes = if is_utf8 bytes then json_or (read bytes) else Err NotJson

-- Whether all members have names that pass a test.
abbrev pub has_only_members : (List ℕ → Bool) → Members → Bool
has_only_members p no_members = true
has_only_members p (member k d ms) = p k && has_only_members p ms

-- Whether a value is an object all of whose members have names that pass a test.
abbrev pub has_only : (List ℕ → Bool) → Data → Bool
has_only p null = false
has_only p (boolean b) = false
has_only p (number n) = false
has_only p (string s) = false
has_only p (array ds) = false
has_only p (object ms) = has_only_members p ms

-- A member that must be present, read by `f`.
abbrev pub required : {A : Type 0} → (Data → Result A WireFault) → Option Data → Result A WireFault
required f None = Err BadShape
required f (Some d) = f d

-- A member that may be absent, read by `f`, with its default.
abbrev pub or_else : {A : Type 0} → A → (Data → Result A WireFault) → Option Data → Result A WireFault
or_else default f None = Ok default
or_else default f (Some d) = f d

-- A member that may be absent, read by `f`.
abbrev pub optional : {A : Type 0} → (Data → Result A WireFault) → Option Data → Result (Option A) WireFault
optional f None = Ok None
optional f (Some d) = f d >>= λ x. Ok (Some x)

-- A string.
abbrev pub text_of : Data → Result (List ℕ) WireFault
text_of d = wanted (as_str d)

-- An integer literal from 0 to 2^64 - 1.
abbrev pub number_of : Data → Result ℕ WireFault
number_of d = wanted (option_and_then as_u64 (as_number d))

-- A whole number below the limit.
abbrev pub number_below : ℕ → Data → Result ℕ WireFault
number_below limit d = number_of d >>= λ n. if nat_lt n limit then Ok n else Err BadShape

-- The items of a list, each read by `f`.
abbrev pub each : {A : Type 0} → (Data → Result A WireFault) → Items → Result (List A) WireFault
each f no_items = Ok []
each f (item d ds) = f d >>= λ x. each f ds >>= λ xs. Ok (x ∷ xs)

-- The items of an array.
abbrev pub items_in : Data → Result Items WireFault
items_in d = wanted (as_array d)

-- The items of an array, each read by `f`.
abbrev pub list_of : {A : Type 0} → (Data → Result A WireFault) → Data → Result (List A) WireFault
list_of f d = items_in d >>= each f

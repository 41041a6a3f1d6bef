-- A map whose template was filled in has the fields of the headers.
use Rattle.std.proofs.Common.{◌≡◌, ℕ, List, [], ◌∷◌, drop, slice_get, bytes_eq, length, None, inl, inr, refl, ap, sym, arith}
use Rattle.std.proofs.lemmas.Option.{none-some}
use Rattle.std.proofs.lemmas.Bool.{cases_Bool}
use Rattle.http_header.specs.FieldValue.{FieldValue}
use Rattle.std.proofs.lemmas.List.Elements.{same_from_all_zip}
use Rattle.std.specs.List.{AllZip, each_same}
use Rattle.http_header.specs.HeaderMap.{Entry, Entries, IsMapClone, get, insert, set_first}
use Rattle.lambda_wire.specs.HeaderFields.{fields, filled}
use Rattle.lambda_wire.specs.HeaderSets.{template, varying, listed}
use Rattle.lambda_wire.specs.declared.header_set.HeaderSet.{HeaderSet}
use Rattle.lambda_wire.specs.declared.header_set.HeaderSet.TheVariants as set

-- without a first value there is none
no_first : {X : Type 0} (name : List ℕ) (value : X) (m : Entries X) (values : List X) → slice_get values 0 ≡ None
    → (name, value ∷ []) ∷ m ≡ (name, value ∷ drop 1 values) ∷ m
no_first name value m [] h = refl
no_first name value m (v ∷ values) h = absurd (none-some v (sym h))

-- a value that a name without a value gets is its first
pub insert_first : {X : Type 0} (m : Entries X) (name : List ℕ) (value : X) → get m name ≡ None
    → insert m name value ≡ set_first m name value
insert_first [] name value h = refl
insert_first (e ∷ m) name value h =
    elim (cases_Bool (bytes_eq e.0 name)) [
      | inl t ↦ rw t (no_first e.0 value m e.1 (rw t at h))
      | inr n ↦ rw n (ap (λ rest. e ∷ rest) (insert_first m name value (rw n at h)))
    ]

-- a set's template with values has the fields of the set's headers with these values
pub fields_filled : (of : HeaderSet) (values : List FieldValue)
    → filled (fields (template of)) (varying of) values ≡ fields (listed of values)
fields_filled set.Empty values = refl
fields_filled set.Json values = refl
fields_filled set.Text values = refl
fields_filled set.Delivery [] = refl
fields_filled set.Delivery (a ∷ []) = refl
fields_filled set.Delivery (a ∷ b ∷ []) = refl
fields_filled set.Delivery (a ∷ b ∷ c ∷ []) = refl
fields_filled set.Delivery (a ∷ b ∷ c ∷ d ∷ values) = refl
fields_filled set.Event [] = refl
fields_filled set.Event (a ∷ values) = refl
fields_filled set.Registration [] = refl
fields_filled set.Registration (a ∷ values) = refl
fields_filled set.Outcome [] = refl
fields_filled set.Outcome (a ∷ values) = refl
fields_filled set.Failure [] = refl
fields_filled set.Failure (a ∷ values) = refl
fields_filled set.Refusal [] = refl
fields_filled set.Refusal (a ∷ values) = refl
fields_filled set.RequestRefusal [] = refl
fields_filled set.RequestRefusal (a ∷ []) = refl
fields_filled set.RequestRefusal (a ∷ b ∷ values) = refl
fields_filled set.Methods [] = refl
fields_filled set.Methods (a ∷ values) = refl

-- without more names, or without more values, nothing is filled in
pub filled_names_end : (m : Entries FieldValue) (names : List (List ℕ)) (values : List FieldValue)
    → length names ≡ 0 → m ≡ filled m names values
filled_names_end m [] values h = refl
filled_names_end m (name ∷ names) values h = absurd (omega arith)

pub filled_values_end : (m : Entries FieldValue) (names : List (List ℕ)) (values : List FieldValue)
    → length values ≡ 0 → m ≡ filled m names values
filled_values_end m [] values h = refl
filled_values_end m (name ∷ names) [] h = refl
filled_values_end m (name ∷ names) (value ∷ values) h = absurd (omega arith)

-- an entry with the same name and the same values is the same
same_entry : {X : Type 0} (e copy : Entry X) → copy.0 ≡ e.0 → copy.1 ≡ e.1 → copy ≡ e
same_entry (name, values) (other, others) names_are values_are = rw (names_are, values_are) refl

-- a map's clone is the map, if its values' clones are the values
pub map_same : {X : Type 0} (m copy : Entries X) → IsMapClone (λ value its. its ≡ value) m copy → copy ≡ m
map_same {X} m copy h =
    same_from_all_zip (λ e its. (its.0 ≡ e.0) × AllZip (λ value other. other ≡ value) e.1 its.1) m copy h
    (λ e its is. same_entry e its is.0 (each_same e.1 its.1 is.1))

-- The name of a configured function is plain: the text reads as itself, without a qualifier.
use Rattle.std.proofs.Common.{◌≡◌, ℕ, suc, Bool, true, false, ◌==◌, nat_lt, List, [], ◌∷◌, length, get_or, bytes_eq}
use Rattle.std.proofs.Common.{position, Option, Some, None, option_map, Ok, refl, ap, sym, ◌∙◌, arith}
use Rattle.std.specs.List.{list_all}
use Rattle.std.specs.Option.{IfSome}
use Rattle.std.proofs.lemmas.Bool.{eqb-true, le-ltb}
use Rattle.std.proofs.lemmas.List.Quantifiers.{position-Some}
use Rattle.std.proofs.lemmas.List.Splits.{slice_split_none}
use Rattle.std.proofs.lemmas.List.Sums.{AllPass-from_list_all}
use Rattle.std.proofs.lemmas.Slice.Eq.{bytes_eq-Decides}
use Rattle.arn_ids.specs.Words.{is_name_byte, is_name}
use Rattle.arn_ids.specs.Grammar.{parts, shape, named_by, named_in}
use Rattle.arn_ids.specs.Environments.{no_function, function_at, number_named}
use Rattle.arn_ids.specs.Faults.{first_fault}
use Rattle.arn_ids.specs.declared.config.Config.{Config}
use Rattle.arn_ids.specs.declared.config.Function.{Function}
use Rattle.arn_ids.specs.declared.config.Home.{Home}
use Rattle.arn_ids.proofs.Bounds.{name_is, name_between}
use Rattle.arn_ids.proofs.Counting.{at_get_or}
use Rattle.arn_ids.proofs.Printable.{both}

-- a byte of a name is not a colon
other : (x : ℕ) → is_name_byte x ≡ true → (x == 58) ≡ false
other x passes = go (x == 58) refl
  where
    go : (b : Bool) → (x == 58) ≡ b → b ≡ false
    go true e = let same : is_name_byte x ≡ is_name_byte 58 = ap is_name_byte (eqb-true x 58 e) in cc
    go false e = refl

one_part : (name : List ℕ) → is_name name ≡ true → parts name ≡ name ∷ []
one_part name named =
    slice_split_none (λ b. b == 58) name
    (λ k d lt. other _ (AllPass-from_list_all is_name_byte name (both _ (list_all is_name_byte name) named).1 k d lt))

named_alone : (home : Home) (name : List ℕ) → is_name name ≡ true → named_by home (shape (name ∷ [])) ≡ Ok (record { name = name; qualified = false })
named_alone home name named = rw named refl

-- A well-formed name reads as itself.
reads_as_itself : (home : Home) (name : List ℕ) → is_name name ≡ true → named_in home name ≡ Ok (record { name = name; qualified = false })
unfolding named_in
reads_as_itself home name named =
    let c = name_between name named in
    let short : nat_lt 170 (length name) ≡ false = le-ltb 170 (length name) (omega (arith, c.1)) in
    rw (short, one_part name named) (named_alone home name named)

place_of : (o : Option ℕ) (f : ℕ) → option_map suc o ≡ Some f → (i : ℕ) × (o ≡ Some i)
place_of None f e = cc
place_of (Some i) f e = (i, refl)

-- What finds a function is a well-formed name.
found_is_name : (config : Config) (name : List ℕ) (f : ℕ) → first_fault config ≡ None → number_named config name ≡ Some f → is_name name ≡ true
found_is_name config name f none found =
    let functions = config.functions in
    let at_place = place_of (position (λ (function : Function). bytes_eq function.name name) functions) f found in
    let i : ℕ = at_place.0 in
    let there = position-Some (λ (function : Function). bytes_eq function.name name) functions i no_function at_place.1 in
    let is : (get_or functions i no_function).name ≡ name = (bytes_eq-Decides (get_or functions i no_function).name name).0 there.1 in
    let same : (function_at config (suc i)).name ≡ name = ap (λ (function : Function). function.name) (at_get_or no_function no_function functions i there.0) ∙ is in
    ap is_name (sym same) ∙ name_is config (suc i) none (omega arith) (omega (arith, there.0))

-- What finds a function reads as its name, without a qualifier.
pub found_reads : (config : Config) (name : List ℕ) (found : Option ℕ) → first_fault config ≡ None → found ≡ number_named config name
    → IfSome found (λ _. named_in config.home name ≡ Ok (record { name = name; qualified = false }))
found_reads config name None none found = tt
found_reads config name (Some f) none found = reads_as_itself config.home name (found_is_name config name f none (sym found))

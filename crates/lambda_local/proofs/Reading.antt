-- Of a text that is too long, one byte too many says as much as all of them.
use Rattle.std.proofs.Common.{◌≡◌, ℕ, ◌<◌, ◌≤◌, true, nat_lt, List, [], ◌++◌, length, take, ◌⊎◌, inl, inr, Option, Some}
use Rattle.std.proofs.Common.{None, option_map, IfSome, Result, Ok, Err, refl, sym, ap, ◌∙◌, arith}
use Rattle.std.proofs.lemmas.Bool.{cases_lt}
use Rattle.std.proofs.lemmas.Bool.Decides.{nat_tests}
use Rattle.std.proofs.lemmas.List.{length-take-le, take_all}
use Rattle.lambda_wire.specs.Configuration.{read_setup}
use Rattle.lambda_wire.specs.declared.fault.WireFault.TheVariants.{TooLong}
use Rattle.lambda_wire.specs.declared.setup.Setup.{Setup}
use Rattle.lambda_local.specs.Explaining.{IsSetupOf}
use Rattle.lambda_local.specs.declared.serve_fault.ServeFault.{ServeFault}
use Rattle.lambda_local.specs.declared.serve_fault.ServeFault.TheVariants.{Config, Wire, PortInBoth, Settlement, Read, Write}
use Rattle.lambda_local.specs.declared.serve_fault.ServeFault.TheVariants.{Network, TooFewDescriptors, TooFewThreads}
use Rattle.lambda_local.specs.declared.serve_fault.ServeFault.TheVariants.{OutOfMemory}

too_long : (text : List ℕ) → 20000000 < length text → read_setup text ≡ Err TooLong
unfolding read_setup
too_long text long = let test : nat_lt 20000000 (length text) ≡ true = grind (arith, nat_tests, long) in rw test refl

enough : (input : List ℕ) → read_setup (take 20000001 input) ≡ read_setup input
enough input = go (cases_lt 20000000 (length input))
  where
    go : (20000000 < length input) ⊎ (length input ≤ 20000000) → read_setup (take 20000001 input) ≡ read_setup input
    go (inl long) =
        let cut : length (take 20000001 input) ≡ 20000001 = length-take-le 20000001 input (omega (arith, long)) in
        too_long (take 20000001 input) (omega (arith, cut)) ∙ sym (too_long input long)
    go (inr short) = ap read_setup (take_all 20000001 input (omega (arith, short)))

same_setup : (text input : List ℕ) (r : Result Setup ServeFault) → read_setup text ≡ read_setup input → IsSetupOf text r → IsSetupOf input r
same_setup text input (Ok setup) same is = sym same ∙ is
same_setup text input (Err (Config fault)) same is = is
same_setup text input (Err (Wire fault)) same is = sym same ∙ is
same_setup text input (Err PortInBoth) same is = is
same_setup text input (Err (Settlement fault)) same is = is
same_setup text input (Err Read) same is = is
same_setup text input (Err Write) same is = is
same_setup text input (Err Network) same is = is
same_setup text input (Err TooFewDescriptors) same is = is
same_setup text input (Err TooFewThreads) same is = is
same_setup text input (Err OutOfMemory) same is = is

-- what the text says, the input says
pub as_input : (known : Option (List ℕ)) (text : List ℕ) (r : Result Setup ServeFault)
    → IfSome known (λ input. text ≡ take 20000001 input) → IsSetupOf text r → IfSome known (λ input. IsSetupOf input r)
as_input None text r is told = is
as_input (Some input) text r is told = same_setup text input r (ap read_setup is ∙ enough input) told

-- what was read of a reader that was cut off
pub cut_off : (known : Option (List ℕ)) (n : ℕ) (old new : List ℕ) → old ≡ []
    → IfSome (option_map (take n) known) (λ xs. new ≡ old ++ xs) → IfSome known (λ input. new ≡ take n input)
cut_off None n old new empty is = is
cut_off (Some input) n old new empty is = is ∙ ap (λ o. o ++ take n input) empty

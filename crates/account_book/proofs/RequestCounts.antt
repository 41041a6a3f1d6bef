-- How many Invokes each function has had, after one more entry.
use Rattle.std.proofs.Common.{◌≡◌, ◌≢◌, ℕ, zero, suc, ◌+◌, ◌-◌, ◌<◌, ◌≤◌, Bool, false, List, ◌∷◌, length, map, Option, set, get_or, sym, ap, ◌∙◌, arith, ◌==◌}
use Rattle.std.proofs.lemmas.Bool.Decides.{nat_tests}
use Rattle.std.proofs.lemmas.List.{length-map}
use Rattle.std.proofs.lemmas.List.Sums.{count_by-le-length}
use Rattle.arn_ids.specs.declared.config.Config.{Config}
use Rattle.arn_ids.specs.Environments.{function_numbers, count_from}
use Rattle.call_model.proofs.AfterEntry.{requests_cons}
use Rattle.call_model.proofs.Basics.{eqb-self}
use Rattle.environment_step.proofs.Stands.{one_changes}
use Rattle.call_types.specs.declared.call.Call.TheVariants.{Invoke}
use Rattle.call_types.specs.declared.call.Entry.{Entry}
use Rattle.call_model.specs.History.{is_invoke_of, requests}
use Rattle.account_book.specs.Taking.{request_counts}
use Rattle.fleet.proofs.Loops.{count_length}

pub counts_length : (config : Config) (h : List Entry) → length (request_counts config h) ≡ length config.functions
counts_length config h = length-map (function_numbers config) (requests h) ∙ count_length 1 (length config.functions)

pub numbered_at : {A : Type 0} (g : ℕ → A) (a n i : ℕ) (d : A) → i < n → get_or (map g (count_from a n)) i d ≡ g (a + i)
numbered_at g a zero i d lt = absurd (omega (arith, lt))
numbered_at g a (suc n) zero d lt = let same : a ≡ a + 0 = omega arith in ap g same
numbered_at g a (suc n) (suc i) d lt = let same : suc a + i ≡ a + suc i = omega arith in numbered_at g (suc a) n i d (omega (arith, lt)) ∙ ap g same

pub request_at : (config : Config) (h : List Entry) (f d : ℕ) → 1 ≤ f → f ≤ length config.functions → get_or (request_counts config h) (f - 1) d ≡ requests h f
request_at config h f d low high =
    let same : 1 + (f - 1) ≡ f = omega (arith, low) in numbered_at (requests h) 1 (length config.functions) (f - 1) d (omega (arith, low, high)) ∙ ap (requests h) same

pub requests_few : (h : List Entry) (f : ℕ) → requests h f ≤ length h
requests_few h f = count_by-le-length (λ (entry : Entry). is_invoke_of f entry.call) h

-- an Invoke is counted for its function alone
pub counts_after_invoke : (config : Config) (h : List Entry) (entry : Entry) (f : ℕ) (qualified : Bool) (trace : Option (List ℕ)) (body : List ℕ)
    → entry.call ≡ Invoke f qualified trace body → 1 ≤ f → f ≤ length config.functions
    → request_counts config (entry ∷ h) ≡ set (request_counts config h) (f - 1) (requests h f + 1)
counts_after_invoke config h entry f qualified trace body same low high =
    let back : 1 + (f - 1) ≡ f = omega (arith, low) in
    one_changes (requests (entry ∷ h)) (requests h) 1 (length config.functions) (f - 1)
    (λ g ne. requests_cons entry h g ∙ rw (same, other g (λ q. ne (q ∙ sym back))) (omega arith))
    (omega (arith, low, high))
    ∙ ap (set (request_counts config h) (f - 1)) (ap (requests (entry ∷ h)) back ∙ requests_cons entry h f ∙ rw (same, eqb-self f) (omega arith))
  where
    other : (g : ℕ) → g ≢ f → (f == g) ≡ false
    other g ne = grind (arith, nat_tests, ne)

pub one_more : (h : List Entry) (entry : Entry) (f : ℕ) (qualified : Bool) (trace : Option (List ℕ)) (body : List ℕ)
    → entry.call ≡ Invoke f qualified trace body → requests (entry ∷ h) f ≡ requests h f + 1
one_more h entry f qualified trace body same = requests_cons entry h f ∙ rw (same, eqb-self f) (omega arith)

-- How many entries a call adds.
use Rattle.std.proofs.Common.{◌≡◌, ℕ, suc, ◌+◌, ◌≤◌, false, List, [], ◌∷◌, length, filter_map, Option, Some, None, refl}
use Rattle.std.proofs.Common.{ap, ◌∙◌, arith, length-append, nat_lt, ◌*◌}
use Rattle.std.proofs.lemmas.List.{length-map}
use Rattle.std.specs.List.{cons_option}
use Rattle.call_types.specs.declared.call.Call.{Call}
use Rattle.call_types.specs.declared.call.Call.TheVariants.{Expire, Stop}
use Rattle.call_types.specs.declared.call.Entry.{Entry}
use Rattle.arn_ids.specs.declared.config.Config.{Config}
use Rattle.arn_ids.specs.Environments.{environments}
use Rattle.call_model.specs.Life.{phase}
use Rattle.call_model.specs.Next.{due, due_at, deadline_of, by_deadline, entry_of, entered, expiries, added, moment_at, next}
use Rattle.call_model.specs.Counts.{full, most_added}
use Rattle.call_model.specs.History.{is_stop}
use Rattle.call_model.proofs.Deadlines.{by_deadline_length}
use Rattle.std.proofs.lemmas.Bool.Decides.{nat_tests}

expiries_length : (config : Config) (m : ℕ) (es : List ℕ) (h : List Entry) → length (expiries config m es h) ≡ length es
expiries_length config m [] h = refl
expiries_length config m (e ∷ rest) h =
    length-append (expiries config m rest (entered config h m (Expire e))) (entry_of config h m (Expire e) ∷ [])
    ∙ one (expiries_length config m rest (entered config h m (Expire e)))
  where
    one : {n : ℕ} → n ≡ length rest → n + 1 ≡ suc (length rest)
    one q = omega (arith, q)

-- A call adds its own entry, and one for each environment whose deadline has come.
pub added_length : (config : Config) (h : List Entry) (now : ℕ) (call : Call) → length (added config h now call) ≡ suc (length (due config h (moment_at h now)))
unfolding added
added_length config h now call = ap suc (expiries_length config (moment_at h now) (due config h (moment_at h now)) h)

found_length : (f : ℕ → Option (ℕ × ℕ)) (xs : List ℕ) → length (filter_map f xs) ≤ length xs
found_length f [] = omega arith
found_length f (x ∷ xs) = go (f x) (found_length f xs)
  where
    go : (o : Option (ℕ × ℕ)) → length (filter_map f xs) ≤ length xs → length (cons_option o (filter_map f xs)) ≤ suc (length xs)
    go None k = omega (arith, k)
    go (Some y) k = omega (arith, k)

-- At most all environments are due.
pub due_length : (config : Config) (h : List Entry) (m : ℕ) → length (due config h m) ≤ length (environments config)
unfolding due
due_length config h m =
    let found : length (by_deadline (filter_map (λ e. due_at m e (deadline_of (phase config h e))) (environments config))) ≤ length (environments config) = rw (by_deadline_length (filter_map (λ e. due_at m e (deadline_of (phase config h e))) (environments config))) (found_length (λ e. due_at m e (deadline_of (phase config h e))) (environments config)) in
    rw (length-map (by_deadline (filter_map (λ e. due_at m e (deadline_of (phase config h e))) (environments config))) (λ (a : ℕ × ℕ). a.1)) found

-- So a call adds at most one entry more than there are environments,
pub next_length : (config : Config) (h : List Entry) (now : ℕ) (call : Call) → length (next config h now call) ≤ length h + most_added config
unfolding next
next_length config h now call =
    rw (length-append (added config h now call) h, added_length config h now call) (omega (arith, due_length config h (moment_at h now)))

-- and after any call but a Stop there is room for a Stop.
pub room_for_stop : (config : Config) (most : ℕ) (h : List Entry) (now : ℕ) (call : Call)
    → full config most h call ≡ false → is_stop call ≡ false → full config most (next config h now call) Stop ≡ false
room_for_stop config most h now call q s = enough (rw s at q) (next_length config h now call)
  where
    enough : nat_lt most (length h + 2 * most_added config) ≡ false
        → length (next config h now call) ≤ length h + most_added config
        → nat_lt most (length (next config h now call) + most_added config) ≡ false
    enough r k = grind (arith, nat_tests, r, k)

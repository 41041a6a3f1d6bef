-- Where the journal is not full there is room for all that a call adds.
use Rattle.std.proofs.Common.{◌≡◌, ℕ, ◌+◌, ◌*◌, ◌≤◌, Bool, true, false, List, length, sym, ap, ◌∙◌, arith, nat_lt, if◌then◌else◌}
use Rattle.std.proofs.lemmas.Bool.Decides.{nat_tests}
use Rattle.arn_ids.specs.declared.config.Config.{Config}
use Rattle.arn_ids.specs.Environments.{owners}
use Rattle.call_model.specs.Counts.{full}
use Rattle.call_types.specs.declared.call.Call.{Call}
use Rattle.call_types.specs.declared.call.Entry.{Entry}
use Rattle.call_model.specs.History.{is_stop}
use Rattle.call_model.specs.Next.{due}
use Rattle.call_model.proofs.Added.{due_length}
use Rattle.account_book.specs.Room.{wanted}
use Rattle.fleet.proofs.Loops.{count_length}

-- the journal is full where what a call wants goes past the most entries
pub full_is : (config : Config) (max : ℕ) (h : List Entry) (call : Call) → full config max h call ≡ nat_lt max (length h + wanted (length (owners config)) call)
full_is config max h call = ap (λ n. nat_lt max (length h + (if is_stop call then n + 1 else 2 * (n + 1)))) (count_length 1 (length (owners config)))

pub room_for : (config : Config) (max : ℕ) (h : List Entry) (call : Call) (m : ℕ) → full config max h call ≡ false
    → length h + (length (due config h m) + 1) ≤ max
room_for config max h call m free = go (is_stop call) (sym (full_is config max h call) ∙ free)
  where
    n : ℕ
    n = length (owners config)

    few : length (due config h m) ≤ n
    few = omega (arith, due_length config h m, count_length 1 n)

    enough : (k : ℕ) → n + 1 ≤ k → nat_lt max (length h + k) ≡ false → length h + (length (due config h m) + 1) ≤ max
    enough k le q = let within : length h + k ≤ max = grind (arith, nat_tests, q) in omega (arith, within, le, few)

    go : (b : Bool) → nat_lt max (length h + (if b then n + 1 else 2 * (n + 1))) ≡ false → length h + (length (due config h m) + 1) ≤ max
    go true q = enough (n + 1) (omega arith) q
    go false q = enough (2 * (n + 1)) (omega arith) q

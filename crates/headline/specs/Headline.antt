-- The headline: what holds of an account's history whenever no step is in progress.
use Rattle.std.specs.Prelude.{◌≡◌, ◌≤◌, ◌⊎◌, ℕ, true, false, List, ◌∷◌, ◌++◌, Some, None}
use Rattle.arn_ids.specs.Environments.{function_of}
use Rattle.arn_ids.specs.declared.config.Config.{Config}
use Rattle.call_types.specs.declared.call.Entry.{Entry}
use Rattle.call_types.specs.declared.stats.Stats.{Stats}
use Rattle.call_model.specs.Counts.{stats}
use Rattle.call_model.specs.History.{call_of, is_invoke_of, pending, place_of}
use Rattle.call_model.specs.Laws.{admits, times}
use Rattle.call_model.specs.Life.{phase}
use Rattle.call_model.specs.Limits.{in_flight, remainder, reservation, unreserved_in_flight}
use Rattle.call_model.specs.Next.{IsLegal}
use Rattle.call_model.specs.Stand.{at_hand, bound_of}

-- An invocation waits for its answer in the environment where it was placed: that environment serves it, or has it
-- bound until its next Init is over; no other environment has it; and no other invocation that was placed there waits.
pub record Waits (config : Config) (h : List Entry) (p e : ℕ) : Type 0 where
  pub waits : pending h p ≡ true
  pub there : at_hand (phase config h e) ≡ Some p
  pub nowhere_else : (d : ℕ) → at_hand (phase config h d) ≡ Some p → d ≡ e
  pub alone : (q : ℕ) → place_of h q ≡ Some e → pending h q ≡ true → q ≡ p

-- An invocation was answered exactly once: it no longer waits, and no environment has it bound, so none will serve it.
pub record Answered (config : Config) (h : List Entry) (p : ℕ) : Type 0 where
  pub once : times h p ≡ 1
  pub over : pending h p ≡ false
  pub nowhere : (d : ℕ) → bound_of (phase config h d) ≡ Some p → ⊥

-- A ticket that was placed in an environment is that of an Invoke of the environment's function, and has one fate: it
-- waits, or it was answered.
pub record HasOneFate (config : Config) (h : List Entry) (p e : ℕ) : Type 0 where
  pub invoke : is_invoke_of (function_of config e) (call_of h p) ≡ true
  pub fate : Waits config h p e ⊎ Answered config h p

-- The limits on an entry that admitted an Invoke of a function. If the function had a reservation in force, it then
-- had no more in flight than the reservation; if it had none, all functions without a reservation together had no more
-- in flight than the remainder.
pub record IsWithinLimits (config : Config) (h : List Entry) (entry : Entry) (f : ℕ) : Type 0 where
  pub reserved : (limit : ℕ) → reservation config (entry ∷ h) f ≡ Some limit → in_flight config (entry ∷ h) f ≤ limit
  pub unreserved : reservation config (entry ∷ h) f ≡ None
      → unreserved_in_flight config (entry ∷ h) ≤ remainder config (entry ∷ h)

-- The headline of a configuration, a history and the counts that are shown of it. The code maintains the first field;
-- the others follow from it, and are stated here to be read.
pub record Headline (config : Config) (h : List Entry) (told : Stats) : Type 0 where
  -- The history is one that a single thread could have made: moments never go back, what is due expires before any
  -- other call is taken, and the answers and the place of each entry are those that the entries before it, its moment
  -- and its call determine.
  pub legal : IsLegal config h
  -- Every admitted invocation either waits in exactly one environment or was answered exactly once.
  pub fates : (p e : ℕ) → place_of h p ≡ Some e → HasOneFate config h p e
  -- No admission exceeded a limit at the time at which it was made.
  pub limits : (later earlier : List Entry) (entry : Entry) (f : ℕ) → h ≡ later ++ (entry ∷ earlier)
      → admits f entry ≡ true → IsWithinLimits config earlier entry f
  -- The counts are those of the history.
  pub counts : told ≡ stats config h

-- An extension that is answered Registered may be registered, also once the parked Nexts have their answers.
use Rattle.std.proofs.Common.{◌≡◌, ℕ, suc, Bool, true, false, List, [], ◌∷◌, map, length, Some, Err, Ok, refl, ap}
use Rattle.std.proofs.Common.{if◌then◌else◌, ◌||◌, bytes_eq, nat_le, is_some}
use Rattle.std.specs.List.{list_any}
use Rattle.std.proofs.lemmas.List.{length-map}
use Rattle.call_types.specs.declared.answer.Answer.TheVariants.{Registered, Refused}
use Rattle.call_types.specs.declared.answer.Rejection.TheVariants.{NameInUse as InUse, TooMany as Full}
use Rattle.call_types.specs.declared.answer.Phase.{Phase}
use Rattle.call_types.specs.declared.answer.Phase.TheVariants.{Starting, Idle, Busy, Closing, Off}
use Rattle.call_types.specs.declared.call.Call.{Call}
use Rattle.call_types.specs.declared.call.Call.TheVariants.{Register}
use Rattle.call_model.specs.Generation.{Member, as_registered}
use Rattle.call_model.specs.Stand.{Stand}
use Rattle.call_model.specs.Table.{own_answer, by_phase, registers, refused_state, refused_container}
use Rattle.environment_step.specs.After.{Step}
use Rattle.extension_set.specs.declared.register_fault.RegisterFault.TheVariants.{NameInUse, TooMany}
use Rattle.extension_set.specs.declared.turn.Turn.{Turn}
use Rattle.extension_set.specs.Registering.{admits}
use Rattle.extension_set.specs.Turns.{member_after}
use Rattle.env_phase.specs.First.{turn_of, IsWelcome}

-- no call changes a name
names_same : (turn : Turn) (call : Call) (name : List ℕ) (xs : List Member)
    → list_any (λ x. bytes_eq name x.extension.name) (map (member_after turn call) xs) ≡ list_any (λ x. bytes_eq name x.extension.name) xs
names_same turn call name [] = refl
names_same turn call name (x ∷ xs) = ap (λ (b : Bool). bytes_eq name x.extension.name || b) (names_same turn call name xs)

admits_same : (turn : Turn) (call : Call) (name : List ℕ) (xs : List Member) → admits (map (member_after turn call) xs) name ≡ admits xs name
admits_same turn call name xs = rw (names_same turn call name xs, length-map xs (member_after turn call)) refl

-- what is answered Registered is admitted
by_verdict : (xs : List Member) (e : ℕ) (name : List ℕ) (invoke shutdown account : Bool) (n : ℕ) (used full : Bool)
    → admits xs name ≡ (if used then Err NameInUse else if full then Err TooMany else Ok tt)
    → IsWelcome xs (as_registered (Register e name invoke shutdown account) (Some (if used then Refused InUse else if full then Refused Full else Registered n)))
by_verdict xs e name invoke shutdown account n true full q = tt
by_verdict xs e name invoke shutdown account n false true q = tt
by_verdict xs e name invoke shutdown account n false false q = q

by_row : (s : Stand) (xs : List Member) (e : ℕ) (name : List ℕ) (invoke shutdown account : Bool) → admits xs name ≡ admits s.members name → (P : Phase)
    → IsWelcome xs (as_registered (Register e name invoke shutdown account) ((by_phase (registers s name) refused_state refused_state refused_state refused_state refused_container s P).own))
by_row s xs e name invoke shutdown account q (Starting d bound) =
    by_verdict xs e name invoke shutdown account (suc s.registrations)
    (list_any (λ x. bytes_eq name x.extension.name) s.members) (nat_le 10 (length s.members)) q
by_row s xs e name invoke shutdown account q Idle = tt
by_row s xs e name invoke shutdown account q (Busy p d) = go (is_some s.request)
  where
    go : (b : Bool) → IsWelcome xs (as_registered (Register e name invoke shutdown account) (if b then refused_state else refused_state).own)
    go true = tt
    go false = tt
by_row s xs e name invoke shutdown account q (Closing reason until bound) = tt
by_row s xs e name invoke shutdown account q Off = tt

pub welcome : (step : Step) (s : Stand) (call : Call)
    → IsWelcome (map (member_after (turn_of step s call) call) s.members) (as_registered call (own_answer s call))
unfolding own_answer
welcome step s (Register e name invoke shutdown account) =
    by_row s
    (map (member_after (turn_of step s (Register e name invoke shutdown account)) (Register e name invoke shutdown account)) s.members) e name invoke shutdown account
    (admits_same (turn_of step s (Register e name invoke shutdown account)) (Register e name invoke shutdown account) name s.members) s.phase
welcome step s call = tt

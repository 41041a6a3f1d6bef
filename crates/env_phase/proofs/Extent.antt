-- How many extensions there are, and how many events and registrations, after a call and after a history.
use Rattle.std.proofs.Common.{◌≡◌, ℕ, suc, ◌+◌, ◌*◌, ◌<◌, ◌≤◌, Bool, true, false, List, [], ◌∷◌, length, map, Option}
use Rattle.std.proofs.Common.{Some, None, Ok, Err, refl, ap, ◌∙◌, arith, if◌then◌else◌, nat_le, length-append}
use Rattle.std.proofs.lemmas.Bool.Decides.{nat_tests}
use Rattle.std.specs.List.{list_any}
use Rattle.std.specs.Prelude.{bytes_eq}
use Rattle.std.proofs.lemmas.List.{length-map}
use Rattle.arn_ids.specs.declared.config.Config.{Config}
use Rattle.call_types.specs.declared.answer.Answer.{Answer}
use Rattle.call_types.specs.declared.call.Call.{Call}
use Rattle.call_types.specs.declared.call.Call.TheVariants.{Register}
use Rattle.call_types.specs.declared.call.Entry.{Entry}
use Rattle.environment_step.specs.After.{Fixed, Step, stand_after, turned, closing_ends, expires_now, first_stand}
use Rattle.environment_step.specs.After.{members_first, fresh_members, finished, restarted, settled_stand}
use Rattle.environment_step.specs.After.{settled_phase, member_second, fixed_of, step_at, count_at, member_first}
use Rattle.call_model.specs.Generation.{Extension, as_registered, Member, members}
use Rattle.call_model.specs.Life.{stand, concerns, seen, life}
use Rattle.call_model.specs.Next.{IsLegal, IsTimely}
use Rattle.call_model.specs.Polls.{begun}
use Rattle.call_model.specs.Stand.{Stand}
use Rattle.call_model.specs.Table.{own_answer}
use Rattle.environment_step.proofs.Frame.{stand_elsewhere}
use Rattle.environment_step.proofs.StepLaws.{stand_is}
use Rattle.extension_set.specs.declared.register_fault.RegisterFault.{RegisterFault}
use Rattle.extension_set.specs.declared.register_fault.RegisterFault.TheVariants.{NameInUse, TooMany}
use Rattle.extension_set.specs.Registering.{admits}
use Rattle.extension_set.specs.Turns.{member_after}
use Rattle.env_phase.specs.First.{IsWelcome, turn_of}
use Rattle.env_phase.specs.Taking.{registered_name}
use Rattle.env_phase.proofs.Room.{events_more, registrations_more}
use Rattle.env_phase.proofs.Welcome.{welcome}

-- an extension is admitted where there are fewer than ten
refused : (e : RegisterFault) (x : Unit {0}) → Err e ≡ Ok x → ⊥
refused e x k = cc

by_tests : (used full : Bool) (n : ℕ) (x : Unit {0}) → nat_le 10 n ≡ full → (if used then Err NameInUse else if full then Err TooMany else Ok x) ≡ Ok x → n < 10
by_tests true full n x p r = absurd (refused NameInUse x r)
by_tests false true n x p r = absurd (refused TooMany x r)
by_tests false false n x p r = grind (arith, nat_tests, p)

admitted_few : (xs : List Member) (name : List ℕ) → admits xs name ≡ Ok tt → length xs < 10
admitted_few xs name q = by_tests (list_any (λ x. bytes_eq name x.extension.name) xs) (nat_le 10 (length xs)) (length xs) tt refl q

-- after the lines that follow each entry
turned_members : (fixed : Fixed) (step : Step) (s : Stand) (call : Call) → length (stand_after fixed step s call).members ≤ length (members_first step s call)
unfolding stand_after finished turned first_stand
turned_members fixed step s call = go (closing_ends (expires_now s call) (first_stand fixed step s call))
  where
    go : (b : Bool)
        → length (if b then restarted step.now (first_stand fixed step s call) else settled_stand fixed step.now s.phase (first_stand fixed step s call)).members ≤ length (members_first step s call)
    go true = omega arith
    go false =
        omega (arith, length-map (members_first step s call) (member_second (begun s.phase (settled_phase fixed step.now (first_stand fixed step s call)))))

first_members : (step : Step) (s : Stand) (call : Call)
    → length (members_first step s call) ≡ length (fresh_members (as_registered call (own_answer s call))) + length s.members
first_members step s call =
    length-append (fresh_members (as_registered call (own_answer s call))) (map (member_first step s call) s.members)
    ∙ ap (λ n. length (fresh_members (as_registered call (own_answer s call))) + n) (length-map s.members (member_first step s call))

pub ten_kept : (fixed : Fixed) (step : Step) (s : Stand) (call : Call) → length s.members ≤ 10 → length (stand_after fixed step s call).members ≤ 10
ten_kept fixed step s call ten = go (as_registered call (own_answer s call)) (welcome step s call) (first_members step s call)
  where
    go : (o : Option Extension) → IsWelcome (map (member_after (turn_of step s call) call) s.members) o
        → length (members_first step s call) ≡ length (fresh_members o) + length s.members
        → length (stand_after fixed step s call).members ≤ 10
    go None w q = omega (arith, turned_members fixed step s call, q, ten)
    go (Some x) w q =
        omega
        (arith, turned_members fixed step s call, q, admitted_few (map (member_after (turn_of step s call) call) s.members) x.name w, length-map s.members (member_after (turn_of step s call) call))

-- only a Register brings an extension
pub none_joins : (fixed : Fixed) (step : Step) (s : Stand) (call : Call) → registered_name call ≡ None
    → length (stand_after fixed step s call).members ≤ length s.members
none_joins fixed step s call none = omega (arith, turned_members fixed step s call, first_members step s call, nobody call none (own_answer s call))
  where
    nobody : (c : Call) → registered_name c ≡ None → (a : Option Answer) → length (fresh_members (as_registered c a)) ≡ 0
    nobody (Register e name invoke shutdown account) q a = absurd (some-none q)
      where
        some-none : Some name ≡ None → ⊥
        some-none k = cc
    nobody c q a = refl

-- what a history says of an environment is little
pub record IsLittle (n : ℕ) (s : Stand) : Type 0 where
  pub ten : length s.members ≤ 10
  pub events : s.events ≤ 24 * n
  pub registrations : s.registrations ≤ n

pub little : (config : Config) (h : List Entry) (e : ℕ) → IsLegal config h → IsLittle (length h) (stand config h e)
unfolding seen life members
little config [] e l = record { ten = omega arith; events = omega arith; registrations = omega arith }
little config (entry ∷ h) e l = go (concerns h e entry) refl (little config h e l.0)
  where
    go : (b : Bool) → concerns h e entry ≡ b → IsLittle (length h) (stand config h e) → IsLittle (suc (length h)) (stand config (entry ∷ h) e)
    go false q k =
        rw (stand_elsewhere IsTimely config h entry e l.0 l.1 q)
        (record { ten = k.ten; events = omega (arith, k.events); registrations = omega (arith, k.registrations) })
    go true q k = rw (stand_is config h entry e l.0 l.1 q) (record {
      ten = ten_kept (fixed_of config e) (step_at h entry (count_at config h entry e)) (stand config h e) entry.call k.ten;
      events = omega (arith, events_more (fixed_of config e) (step_at h entry (count_at config h entry e)) (stand config h e) entry.call, k.events, k.ten);
      registrations =
          omega (arith, registrations_more (fixed_of config e) (step_at h entry (count_at config h entry e)) (stand config h e) entry.call, k.registrations);
    })

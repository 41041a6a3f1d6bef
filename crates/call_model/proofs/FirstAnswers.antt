-- What the table answers by itself is no answer of a Busy that begins, and one that only a Busy gives is the waiting call's.
use Rattle.std.proofs.Common.{Bool, true, false, Option, Some, ◌≡◌, refl, ℕ, ◌+◌, ◌-◌, List, length, None, ◌||◌}
use Rattle.std.proofs.Common.{if◌then◌else◌, nat_lt, not, ◌&&◌, ◌==◌, sym, ◌∙◌, true≢false, ap}
use Rattle.call_types.specs.declared.answer.Answer.{Answer}
use Rattle.call_types.specs.declared.answer.Answer.TheVariants.{Delivered, Told, Output, TimedOut, OutputTooLarge}
use Rattle.call_types.specs.declared.answer.Answer.TheVariants.{Stopped, Refused, Reserved, Ending, Withdrawn}
use Rattle.call_types.specs.declared.answer.Rejection.TheVariants.{BadReservation}
use Rattle.call_types.specs.declared.answer.Reason.{Reason}
use Rattle.call_types.specs.declared.call.Call.{Call}
use Rattle.call_types.specs.declared.call.Call.TheVariants.{Invoke, Tick, Withdraw, Stop, Reserve, RuntimeNext, ExtNext}
use Rattle.call_types.specs.declared.call.Entry.{Entry}
use Rattle.arn_ids.specs.declared.config.Config.{Config}
use Rattle.arn_ids.specs.Environments.{function_at}
use Rattle.call_model.specs.History.{stopped, or_else}
use Rattle.call_types.specs.Calls.{env_of}
use Rattle.call_model.specs.Generation.{hears_end, reports_exit}
use Rattle.call_model.specs.Stand.{Stand, Role, NoRole, Waiting, RuntimePoll, ExtensionPoll, role}
use Rattle.call_model.specs.Table.{own_answer, closes, to_waiting}
use Rattle.call_model.specs.Polls.{at_close, replaced, by_role}
use Rattle.call_model.specs.Life.{stand, names}
use Rattle.call_model.specs.Limits.{verdict, Verdict, AfterStop, Refuses, Admits, reserved_in_all, or_zero, reservation}
use Rattle.call_model.specs.Answers.{own_first, own_at, verdict_answer, reserve_answer, first_answer, home, other_answer, answer_at}
use Rattle.call_model.proofs.Cells.{own_values, waiting_values}

-- an answer of a Busy that begins, or one that only a Busy gives
abbrev pub special : Option Answer → Bool
special (Some (Delivered p d)) = true
special (Some (Told p d event)) = true
special (Some (Output source)) = true
special (Some OutputTooLarge) = true
special (Some TimedOut) = true
special _ = false

-- the own answers are none of these
own_plain : (s : Stand) (call : Call) → special (own_answer s call) ≡ false
own_plain s call = own_values (λ a. special a ≡ false) s refl refl (λ kind. refl) refl (λ reason until. refl) call

pub own_first_plain : (config : Config) (h : List Entry) (call : Call) → special (own_first config h call) ≡ false
unfolding own_first
own_first_plain config h (Invoke f qualified trace body) = go (verdict config h f)
  where
    go : (v : Verdict) → special (verdict_answer v) ≡ false
    go AfterStop = refl
    go (Refuses reason) = refl
    go (Admits e) = refl
own_first_plain config h Tick = refl
own_first_plain config h (Withdraw t) = refl
own_first_plain config h Stop = refl
own_first_plain config h (Reserve f c) = go (stopped h) c
  where
    two : (b : Bool) (k : ℕ) → special (Some (if b then Refused BadReservation else Reserved k)) ≡ false
    two true k = refl
    two false k = refl

    go : (b : Bool) (c : Option ℕ) → special (Some (if b then Stopped else reserve_answer config h f c)) ≡ false
    go true c = refl
    go false None = refl
    go false (Some k) =
        two
        (nat_lt (length (function_at config f).slots) k || nat_lt config.account_limit (((reserved_in_all config h - or_zero (reservation config h f)) + k) + config.least_remainder)) k
own_first_plain config h call = at_env (env_of call)
  where
    at_env : (o : Option ℕ) → special (own_at config h call o) ≡ false
    at_env None = refl
    at_env (Some e) = own_plain (stand config h e) call

or_plain : (a b : Option Answer) → special a ≡ false → special b ≡ false → special (or_else a b) ≡ false
or_plain None b p q = q
or_plain (Some a) b p q = p

close_plain : (now : ℕ) (c : Option Reason) (call : Call) (r : Role) → special (at_close now c call r) ≡ false
close_plain now (Some reason) call (ExtensionPoll x) = go (hears_end x && not (reports_exit x.extension.count call))
  where
    go : (b : Bool)
        → special (if b then Some (Ending reason (now + 2000) 0) else Some (Refused Rattle.call_types.specs.declared.answer.Rejection.TheVariants.Container)) ≡ false
    go true = refl
    go false = refl
close_plain now (Some reason) call RuntimePoll = refl
close_plain now (Some reason) call NoRole = refl
close_plain now (Some reason) call Waiting = refl
close_plain now None call r = refl

replaced_plain : (t : ℕ) (call : Call) (r : Role) → special (replaced t call r) ≡ false
replaced_plain t (RuntimeNext e) RuntimePoll = refl
replaced_plain t (ExtNext e x) (ExtensionPoll y) = go (y.extension.count == x)
  where
    go : (b : Bool) → special (if b then Some (Refused Rattle.call_types.specs.declared.answer.Rejection.TheVariants.Replaced) else None) ≡ false
    go true = refl
    go false = refl
replaced_plain t (Withdraw u) RuntimePoll = go (u == t)
  where
    go : (b : Bool) → special (if b then Some Withdrawn else None) ≡ false
    go true = refl
    go false = refl
replaced_plain t (Withdraw u) (ExtensionPoll y) = go (u == t)
  where
    go : (b : Bool) → special (if b then Some Withdrawn else None) ≡ false
    go true = refl
    go false = refl
replaced_plain t call r = refl

-- a poll gets none of these by the table
pub poll_plain : (own now : ℕ) (s : Stand) (call : Call) (t : ℕ) (r : Role) → special (by_role own now s call t r) ≡ true → r ≡ Waiting
poll_plain own now s call t NoRole q = absurd (true≢false (sym q))
poll_plain own now s call t Waiting q = refl
poll_plain own now s call t RuntimePoll q =
    absurd
    (true≢false (sym q ∙ or_plain (at_close now (closes s call) call RuntimePoll) (replaced t call RuntimePoll) (close_plain now (closes s call) call RuntimePoll) (replaced_plain t call RuntimePoll)))
poll_plain own now s call t (ExtensionPoll x) q =
    absurd
    (true≢false (sym q ∙ or_plain (at_close now (closes s call) call (ExtensionPoll x)) (replaced t call (ExtensionPoll x)) (close_plain now (closes s call) call (ExtensionPoll x)) (replaced_plain t call (ExtensionPoll x))))

abbrev pub second : Option Answer → Bool
second (Some (Delivered p d)) = true
second (Some (Told p d event)) = true
second _ = false

second_special : (a : Option Answer) → second a ≡ true → special a ≡ true
second_special (Some (Delivered p d)) q = refl
second_special (Some (Told p d event)) q = refl
second_special None q = absurd (true≢false (sym q))
second_special (Some a) q = absurd (true≢false (sym q))

waiting_first : (own : ℕ) (s : Stand) (call : Call) → second (to_waiting own s call) ≡ false
waiting_first own s call = waiting_values (λ a. second a ≡ false) own s refl refl refl refl refl refl refl call

-- no first answer is one of a Busy that begins
pub first_first : (config : Config) (h : List Entry) (now : ℕ) (call : Call) (t : ℕ) → second (first_answer config h now call t) ≡ false
unfolding first_answer
first_first config h now call t = go (t == length h)
  where
    not_true : (b : Bool) → (b ≡ true → ⊥) → b ≡ false
    not_true true f = absurd (f refl)
    not_true false f = refl

    by_waiting : (s : Stand) (r : Role) → r ≡ Waiting → second (by_role (length h) now s call t r) ≡ true → ⊥
    by_waiting s r e q = true≢false (sym q ∙ ap (λ (r : Role). second (by_role (length h) now s call t r)) e ∙ waiting_first (length h) s call)

    at_env : (e : ℕ) (b : Bool) → second (answer_at config h now e call t b) ≡ false
    at_env e false = refl
    at_env e true =
        not_true (second (by_role (length h) now (stand config h e) call t (role (stand config h e) t)))
        (λ q. by_waiting (stand config h e) (role (stand config h e) t) (poll_plain (length h) now (stand config h e) call t (role (stand config h e) t) (second_special (by_role (length h) now (stand config h e) call t (role (stand config h e) t)) q)) q)

    other : (o : Option ℕ) → second (other_answer config h now call t o) ≡ false
    other None = refl
    other (Some e) = at_env e (names h e call)

    go : (b : Bool) → second (if b then own_first config h call else other_answer config h now call t (home h t)) ≡ false
    go true = not_true (second (own_first config h call)) (λ q. true≢false (sym (second_special (own_first config h call) q) ∙ own_first_plain config h call))
    go false = other (home h t)

-- The tickets that an answer's text is made of are the function's own.
use Rattle.std.proofs.Common.{◌≡◌, ℕ, suc, ◌+◌, ◌<◌, Bool, true, false, List, [], ◌∷◌, length, Option, Some, None, sym}
use Rattle.std.proofs.Common.{refl, ap, ◌∙◌, subst, arith, not, ◌&&◌, ◌==◌, true≢false, if◌then◌else◌}
use Rattle.std.proofs.lemmas.Bool.{eqb-true}
use Rattle.call_types.specs.declared.answer.Answer.{Answer}
use Rattle.call_types.specs.declared.answer.Answer.TheVariants.{Ending, TimedOut, InitTimedOut, Stopped, OutputTooLarge, Told, Withdrawn}
use Rattle.call_types.specs.declared.answer.Phase.{Phase}
use Rattle.call_types.specs.declared.call.Call.{Call}
use Rattle.call_types.specs.declared.call.Call.TheVariants.{Invoke, RuntimeNext, Response, ResponseTooLarge, Failure}
use Rattle.call_types.specs.declared.call.Call.TheVariants.{InitFailure, Register, ExtNext, ExtInitFailure}
use Rattle.call_types.specs.declared.call.Call.TheVariants.{ExtExitFailure, Tick, Withdraw, Spindown, Stop, Expire}
use Rattle.call_types.specs.declared.call.Call.TheVariants.{Reserve}
use Rattle.call_types.specs.declared.call.Entry.{Entry}
use Rattle.arn_ids.specs.declared.config.Config.{Config}
use Rattle.arn_ids.specs.Environments.{function_of}
use Rattle.call_model.specs.History.{answer_in, answer_of, call_of, place_of, stopped, or_else}
use Rattle.call_types.specs.Calls.{env_of}
use Rattle.call_model.specs.Generation.{Member}
use Rattle.call_model.specs.Stand.{Stand, at_hand, role, Role, NoRole, Waiting, RuntimePoll, ExtensionPoll}
use Rattle.call_model.specs.Table.{closes, own_answer, refused, to_waiting}
use Rattle.call_model.specs.Life.{phase, stand, names}
use Rattle.call_model.specs.Answers.{answers, each_from, answer_to, home, first_answer, first_answers, second_answer}
use Rattle.call_model.specs.Answers.{second_at, own_first, other_answer, answer_at, verdict_answer, reserve_answer}
use Rattle.call_model.specs.Answers.{with_event}
use Rattle.call_model.specs.Limits.{verdict, Verdict, Admits, AfterStop, Refuses}
use Rattle.call_types.specs.declared.answer.Phase.TheVariants.{Busy}
use Rattle.call_types.specs.declared.answer.Rejection.TheVariants.{Container, Replaced}
use Rattle.call_types.specs.declared.answer.Reason.{Reason}
use Rattle.call_model.specs.Polls.{by_role, delivered, begun, at_close, replaced}
use Rattle.call_model.specs.Isolation.{named}
use Rattle.call_model.proofs.Pairs.{in_each, eqb-other}
use Rattle.call_model.proofs.AnswerValues.{seen_by, numbered_keeps}
use Rattle.call_model.proofs.OwnAnswers.{first_fit, first_of}
use Rattle.call_model.proofs.OwnHistory.{others_silent}
use Rattle.call_model.proofs.OwnStands.{same_fit}
use Rattle.call_model.specs.Next.{IsLegal}
use Rattle.call_model.specs.Own.{own_ticket, is_own}
use Rattle.call_model.proofs.Once.{fresh}
use Rattle.call_model.proofs.OwnTickets.{own_home, own_old}
use Rattle.call_model.proofs.Basics.{eqb-self, some-none}
use Rattle.call_model.proofs.Cells.{own_values, waiting_values}

abbrev pub names_of : Option Answer → Option ℕ
names_of a = seen_by named None a

abbrev pub IsMute : Option Answer → Type 0
IsMute a = names_of a ≡ None

mute_if : (b : Bool) (x y : Option Answer) → IsMute x → IsMute y → IsMute (if b then x else y)
mute_if true x y p q = p
mute_if false x y p q = q

-- the own answer of a call on an environment is made of no other call
mute_own : (s : Stand) (call : Call) → IsMute (own_answer s call)
mute_own s call = own_values IsMute s refl refl (λ kind. refl) refl (λ reason until. refl) call

mute_verdict : (v : Verdict) → IsMute (verdict_answer v)
mute_verdict AfterStop = refl
mute_verdict (Refuses reason) = refl
mute_verdict (Admits e) = refl

mute_reserve : (config : Config) (h : List Entry) (f : ℕ) (count : Option ℕ) → named (reserve_answer config h f count) ≡ None
mute_reserve config h f None = refl
mute_reserve config h f (Some count) = go _
  where
    go : (b : Bool)
        → named (if b then Rattle.call_types.specs.declared.answer.Answer.TheVariants.Refused Rattle.call_types.specs.declared.answer.Rejection.TheVariants.BadReservation else Rattle.call_types.specs.declared.answer.Answer.TheVariants.Reserved count) ≡ None
    go true = refl
    go false = refl

mute_stopped : (b : Bool) (a : Answer) → named a ≡ None → named (if b then Stopped else a) ≡ None
mute_stopped true a p = refl
mute_stopped false a p = p

mute_first : (config : Config) (h : List Entry) (call : Call) → IsMute (own_first config h call)
unfolding own_first
mute_first config h (Invoke g qualified trace body) = mute_verdict (verdict config h g)
mute_first config h Tick = refl
mute_first config h (Withdraw t) = refl
mute_first config h Stop = refl
mute_first config h (Reserve g count) = mute_stopped (stopped h) (reserve_answer config h g count) (mute_reserve config h g count)
mute_first config h (RuntimeNext e) = mute_own (stand config h e) (RuntimeNext e)
mute_first config h (Response e id body) = mute_own (stand config h e) (Response e id body)
mute_first config h (ResponseTooLarge e id) = mute_own (stand config h e) (ResponseTooLarge e id)
mute_first config h (Failure e id body) = mute_own (stand config h e) (Failure e id body)
mute_first config h (InitFailure e body) = mute_own (stand config h e) (InitFailure e body)
mute_first config h (Register e name invoke shutdown account) = mute_own (stand config h e) (Register e name invoke shutdown account)
mute_first config h (ExtNext e x) = mute_own (stand config h e) (ExtNext e x)
mute_first config h (ExtInitFailure e x body) = mute_own (stand config h e) (ExtInitFailure e x body)
mute_first config h (ExtExitFailure e x body) = mute_own (stand config h e) (ExtExitFailure e x body)
mute_first config h (Spindown e) = mute_own (stand config h e) (Spindown e)
mute_first config h (Expire e) = mute_own (stand config h e) (Expire e)

-- what an answer is made of, if anything, is the call n
abbrev pub IsOf : ℕ → Option Answer → Type 0
IsOf n a = (p : ℕ) → names_of a ≡ Some p → n ≡ p

of_mute : (n : ℕ) (a : Option Answer) → IsMute a → IsOf n a
of_mute n a m p q = absurd (some-none (sym q ∙ m))

of_self : (n p : ℕ) → Some n ≡ Some p → n ≡ p
of_self n p q = cc

of_waiting : (n : ℕ) (s : Stand) (call : Call) → IsOf n (to_waiting n s call)
of_waiting n s call =
    waiting_values (IsOf n) n s (of_mute n None refl) (λ p q. of_self n p q) (of_mute n (Some OutputTooLarge) refl)
    (λ p q. of_self n p q) (of_mute n (Some InitTimedOut) refl) (of_mute n (Some TimedOut) refl)
    (of_mute n (Some Stopped) refl) call

mute_or : (a b : Option Answer) → IsMute a → IsMute b → IsMute (or_else a b)
mute_or None b p q = q
mute_or (Some a) b p q = p

mute_close_runtime : (now : ℕ) (c : Option Reason) (call : Call) → IsMute (at_close now c call RuntimePoll)
mute_close_runtime now None call = refl
mute_close_runtime now (Some reason) call = refl

mute_close_member : (now : ℕ) (c : Option Reason) (call : Call) (x : Member) → IsMute (at_close now c call (ExtensionPoll x))
mute_close_member now None call x = refl
mute_close_member now (Some reason) call x =
    mute_if
    (Rattle.call_model.specs.Generation.hears_end x && not (Rattle.call_model.specs.Generation.reports_exit x.extension.count call))
    (Some (Ending reason (now + 2000) 0)) (refused Container) refl refl

mute_replaced_runtime : (t : ℕ) (call : Call) → IsMute (replaced t call RuntimePoll)
mute_replaced_runtime t (RuntimeNext e) = refl
mute_replaced_runtime t (Withdraw u) = mute_if (u == t) (Some Withdrawn) None refl refl
mute_replaced_runtime t call = refl

mute_replaced_member : (t : ℕ) (call : Call) (x : Member) → IsMute (replaced t call (ExtensionPoll x))
mute_replaced_member t (ExtNext e y) x = mute_if (x.extension.count == y) (refused Replaced) None refl refl
mute_replaced_member t (Withdraw u) x = mute_if (u == t) (Some Withdrawn) None refl refl
mute_replaced_member t call x = refl

of_role : (n now : ℕ) (s : Stand) (call : Call) (t : ℕ) (r : Role) → IsOf n (by_role n now s call t r)
of_role n now s call t NoRole = of_mute n None refl
of_role n now s call t Waiting = of_waiting n s call
of_role n now s call t RuntimePoll =
    of_mute n (or_else (at_close now (closes s call) call RuntimePoll) (replaced t call RuntimePoll))
    (mute_or (at_close now (closes s call) call RuntimePoll) (replaced t call RuntimePoll) (mute_close_runtime now (closes s call) call) (mute_replaced_runtime t call))
of_role n now s call t (ExtensionPoll x) =
    of_mute n (or_else (at_close now (closes s call) call (ExtensionPoll x)) (replaced t call (ExtensionPoll x)))
    (mute_or (at_close now (closes s call) call (ExtensionPoll x)) (replaced t call (ExtensionPoll x)) (mute_close_member now (closes s call) call x) (mute_replaced_member t call x))

-- the first answers are made of the entry's own call only
pub of_first : (config : Config) (h : List Entry) (now : ℕ) (call : Call) (t : ℕ) → IsOf (length h) (first_answer config h now call t)
unfolding first_answer
of_first config h now call t = go (t == length h)
  where
    at_env : (e : ℕ) (b : Bool) → IsOf (length h) (answer_at config h now e call t b)
    at_env e true = of_role (length h) now (stand config h e) call t (role (stand config h e) t)
    at_env e false = of_mute (length h) None refl

    at_home : (o : Option ℕ) → IsOf (length h) (other_answer config h now call t o)
    at_home None = of_mute (length h) None refl
    at_home (Some e) = at_env e (names h e call)

    go : (b : Bool) → IsOf (length h) (if b then own_first config h call else other_answer config h now call t (home h t))
    go true = of_mute (length h) (own_first config h call) (mute_first config h call)
    go false = at_home (home h t)

abbrev pub first_number : Option (ℕ × ℕ) → Option ℕ
first_number None = None
first_number (Some b) = Some b.0

pub begun_hand : (P Q : Phase) (p : ℕ) → first_number (begun P Q) ≡ Some p → at_hand Q ≡ Some p
begun_hand (Busy q b) Q p e = absurd (some-none (sym e))
begun_hand P (Busy q d) p e = e
begun_hand P Q p e = absurd (some-none (sym e))

pub delivered_number : (b : Option (ℕ × ℕ)) (r : Role) (p : ℕ) → names_of (delivered b r) ≡ Some p → first_number b ≡ Some p
delivered_number (Some b) RuntimePoll p e = e
delivered_number (Some b) (ExtensionPoll x) p e = go x.extension.invoke e
  where
    go : (c : Bool) → names_of (if c then Some (Told b.0 b.1 0) else None) ≡ Some p → Some b.0 ≡ Some p
    go true q = q
    go false q = absurd (some-none (sym q))
delivered_number b r p e = absurd (some-none (sym e))

-- what a Busy that begins delivers is the function's
second_mine : (config : Config) (h : List Entry) (entry : Entry) (f t p : ℕ) → IsLegal config (entry ∷ h)
    → is_own config h f entry.call ≡ true → own_ticket config (entry ∷ h) f t ≡ true
    → names_of (second_answer config h (first_of config h entry) t) ≡ Some p → own_ticket config (entry ∷ h) f p ≡ true
unfolding second_answer
second_mine config h entry f t p l w k e = go (home (y ∷ h) t) mine e
  where
    y : Entry
    y = first_of config h entry

    mine : (d : ℕ) → home (y ∷ h) t ≡ Some d → function_of config d ≡ f
    mine d q =
        own_home config (entry ∷ h) f t l k d
        (ap (λ (n : Option ℕ). or_else (if t == length h then n else place_of h t) (env_of (if t == length h then entry.call else call_of h t))) (l.1.place) ∙ q)

    go : (o : Option ℕ) → ((d : ℕ) → o ≡ Some d → function_of config d ≡ f)
        → names_of (second_at config h y t o) ≡ Some p → own_ticket config (entry ∷ h) f p ≡ true
    go None at q = absurd (some-none (sym q))
    go (Some d) at q = (same_fit config h y f d l.0 (first_fit config h entry.moment entry.call) w (at d refl)).1 p
        (begun_hand (phase config h d) (phase config (y ∷ h) d) p (delivered_number (begun (phase config h d) (phase config (y ∷ h) d)) (role (stand config (y ∷ h) d) t) p q))

pub keeps_named : (n : ℕ) (a : Answer) → named (with_event n a) ≡ named a
keeps_named n (Told p d event) = refl
keeps_named n (Ending reason until event) = refl
keeps_named n a = refl

named_now : (config : Config) (h : List Entry) (entry : Entry) (f t p : ℕ) → IsLegal config (entry ∷ h)
    → is_own config h f entry.call ≡ true → own_ticket config (entry ∷ h) f t ≡ true
    → names_of (answer_in entry.answers t) ≡ Some p → own_ticket config (entry ∷ h) f p ≡ true
unfolding answers answer_to first_answers
named_now config h entry f t p l w k e =
    go (first_answer config h entry.moment entry.call t) refl
    (sym (ap (λ (a : Option Answer). names_of (or_else a (second_answer config h y t))) firsts) ∙ sym whole ∙ e)
  where
    y : Entry
    y = first_of config h entry

    old : t < suc (length h)
    old = own_old config (entry ∷ h) f t k

    firsts : answer_in y.answers t ≡ first_answer config h entry.moment entry.call t
    firsts = in_each 0 (suc (length h)) t (first_answer config h entry.moment entry.call) (omega arith) (omega (arith, old))

    whole : names_of (answer_in entry.answers t) ≡ names_of (or_else (answer_in y.answers t) (second_answer config h y t))
    whole = ap (λ xs. names_of (answer_in xs t)) (l.1.answers)
        ∙ numbered_keeps named keeps_named None h y [] (each_from 0 (suc (length h)) (answer_to config h y)) t
        ∙ ap names_of (in_each 0 (suc (length h)) t (answer_to config h y) (omega arith) (omega (arith, old)))

    go : (a : Option Answer) → first_answer config h entry.moment entry.call t ≡ a
        → names_of (or_else a (second_answer config h y t)) ≡ Some p → own_ticket config (entry ∷ h) f p ≡ true
    go None r q = second_mine config h entry f t p l w k q
    go (Some a) r q =
        subst (λ n. own_ticket config (entry ∷ h) f n ≡ true) (of_first config h entry.moment entry.call t p (ap names_of r ∙ q)) (rw (eqb-self (length h)) w)

-- What an answer to the function is made of is the function's.
pub named_own : (config : Config) (h : List Entry) (f t p : ℕ) (a : Answer) → IsLegal config h
    → own_ticket config h f t ≡ true → answer_of h t ≡ Some a → named a ≡ Some p → own_ticket config h f p ≡ true
named_own config [] f t p a l k q n = absurd (true≢false (sym k))
named_own config (entry ∷ h) f t p a l k q n = go (answer_in entry.answers t) refl (named_own config h f t p a l.0) q
  where
    now : names_of (answer_in entry.answers t) ≡ Some p → (b : Bool) → is_own config h f entry.call ≡ b → own_ticket config (entry ∷ h) f p ≡ true
    now e true w = named_now config h entry f t p l w k e
    now e false w = absurd (some-none (sym e ∙ ap names_of (others_silent config h entry f t l w k)))

    older : own_ticket config h f p ≡ true → own_ticket config (entry ∷ h) f p ≡ true
    older m = rw (eqb-other p (length h) (let lt : p < length h = own_old config h f p m in omega (arith, lt))) m

    before : answer_of h t ≡ Some a → (b : Bool) → (t == length h) ≡ b
        → (if b then is_own config h f entry.call else own_ticket config h f t) ≡ true → own_ticket config h f t ≡ true
    before r true s m = let same : t ≡ length h = eqb-true t (length h) s in absurd (some-none (sym r ∙ fresh config h t l.0 (omega (arith, same))))
    before r false s m = m

    go : (x : Option Answer) → answer_in entry.answers t ≡ x
        → (own_ticket config h f t ≡ true → answer_of h t ≡ Some a → named a ≡ Some p → own_ticket config h f p ≡ true)
        → or_else x (answer_of h t) ≡ Some a → own_ticket config (entry ∷ h) f p ≡ true
    go (Some b) r ih m = now (ap names_of (r ∙ m) ∙ n) (is_own config h f entry.call) refl
    go None r ih m = older (ih (before m (t == length h) refl k) m n)

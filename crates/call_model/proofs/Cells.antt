-- The table of phases by its cells: which values they hold, and which row holds what in which phase.
use Rattle.std.proofs.Common.{◌≡◌, ap, ℕ, suc, Bool, true, false, Option, Some, None, refl, if◌then◌else◌, not, ◌&&◌, is_some, bytes_eq, nat_le, length}
use Rattle.std.specs.List.{list_any, find}
use Rattle.call_types.specs.declared.answer.Answer.{Answer}
use Rattle.call_types.specs.declared.answer.Answer.TheVariants.{Ending, Registered, Accepted, Output, Error, TimedOut}
use Rattle.call_types.specs.declared.answer.Answer.TheVariants.{InitTimedOut, OutputTooLarge, Stopped, Refused}
use Rattle.call_types.specs.declared.answer.Rejection.{Rejection}
use Rattle.call_types.specs.declared.answer.Rejection.TheVariants.{State, BadId, Unknown, TooLarge, Container, NameInUse, TooMany, NotIdle}
use Rattle.call_types.specs.declared.answer.Reason.{Reason}
use Rattle.call_types.specs.declared.answer.Phase.{Phase}
use Rattle.call_types.specs.declared.answer.Phase.TheVariants.{Starting, Idle, Busy, Closing, Off}
use Rattle.call_types.specs.declared.call.Call.{Call}
use Rattle.call_types.specs.declared.call.Call.TheVariants.{Invoke, RuntimeNext, Response, ResponseTooLarge, Failure}
use Rattle.call_types.specs.declared.call.Call.TheVariants.{InitFailure, Register, ExtNext, ExtInitFailure}
use Rattle.call_types.specs.declared.call.Call.TheVariants.{ExtExitFailure, Tick, Withdraw, Spindown, Stop, Expire}
use Rattle.call_types.specs.declared.call.Call.TheVariants.{Reserve}
use Rattle.call_model.specs.History.{is_stop}
use Rattle.call_model.specs.Generation.{Member, hears_end, has_count}
use Rattle.call_model.specs.Stand.{Stand, is_known, is_number}
use Rattle.call_model.specs.Table.{Cell, row, by_phase, extension_row, only, refused, next_in_closing}
use Rattle.call_model.specs.Table.{refused_container, unknown, gets_output, too_large, gets_error, fails}
use Rattle.call_model.specs.Table.{init_times_out, times_out, spins_down, stops, tells_stopped, refused_state, not_idle}
use Rattle.call_model.specs.Table.{nothing, accepted, registers, bad_id, if_named, table, own_answer, closes}
use Rattle.call_model.specs.Table.{to_waiting}

-- What holds in each phase of the cell that a row has for it holds of the row.
pub in_row : {A : Type 0} (Q : Phase → A → Type 0) (s : Stand) (a b c d e f : A)
    → ((k u : Option ℕ) → Q (Starting k u) a) → Q Idle b → ((p k : ℕ) → Q (Busy p k) c) → ((p k : ℕ) → Q (Busy p k) d)
    → ((r : Reason) (k : ℕ) (u : Option ℕ) → Q (Closing r k u) e) → Q Off f
    → Q s.phase (row s a b c d e f)
in_row Q s a b c d e f qa qb qc qd qe qf = go s.phase
  where
    busy : (p k : ℕ) (x : Bool) → Q (Busy p k) (if x then c else d)
    busy p k true = qc p k
    busy p k false = qd p k

    go : (P : Phase) → Q P (by_phase a b c d e f s P)
    go (Starting k u) = qa k u
    go Idle = qb
    go (Busy p k) = busy p k (is_some s.request)
    go (Closing r k u) = qe r k u
    go Off = qf

-- what holds of each cell of a row
pub of_row : {A : Type 0} (Q : A → Type 0) (s : Stand) (a b c d e f : A) → Q a → Q b → Q c → Q d → Q e → Q f → Q (row s a b c d e f)
of_row Q s a b c d e f qa qb qc qd qe qf = in_row (λ P x. Q x) s a b c d e f (λ k u. qa) qb (λ p k. qc) (λ p k. qd) (λ r k u. qe) qf

of_either : {A : Type 0} (Q : A → Type 0) (b : Bool) (x y : A) → Q x → Q y → Q (if b then x else y)
of_either Q true x y q r = q
of_either Q false x y q r = r

-- what holds of each cell of an extension's row
pub of_extension_row : (Q : Cell → Type 0) (s : Stand) (x : ℕ) (a b c d e : Cell) → Q a → Q b → Q c → Q d → Q e
    → Q unknown → Q refused_container → Q (extension_row s x a b c d e)
of_extension_row Q s x a b c d e qa qb qc qd qe apart off =
    of_either Q (is_known s x) _ _ (of_row Q s a b c d e refused_container qa qb qc qd qe off)
    (of_row Q s unknown unknown unknown unknown unknown refused_container apart apart apart apart apart off)

-- What holds of each kind of cell, in the phases that may have it, holds of the table; a Stop is a case of its own.
pub record AreCells (Q : Phase → Cell → Type 0) (s : Stand) : Type 0 where
  pub waits : (P : Phase) → Q P nothing
  pub accepts : (P : Phase) → Q P accepted
  pub refuses : (kind : Rejection) (P : Phase) → Q P (only (refused kind))
  pub registers : (P : Phase) → Q P (only (Some (Registered (suc s.registrations))))
  pub tells : (reason : Reason) (until : ℕ) (P : Phase) → Q P (only (Some (Ending reason until 0)))
  pub output : (p d : ℕ) → Q (Busy p d) gets_output
  pub too_large : (p d : ℕ) → Q (Busy p d) too_large
  pub error : (p d : ℕ) → Q (Busy p d) gets_error
  pub fails : (P : Phase) → Q P fails
  pub init_times_out : (d bound : Option ℕ) → Q (Starting d bound) init_times_out
  pub times_out : (p d : ℕ) → Q (Busy p d) times_out
  pub spins_down : Q Idle spins_down

pub in_table : (Q : Phase → Cell → Type 0) (s : Stand) → AreCells Q s → (call : Call)
    → (is_stop call ≡ true → Q s.phase (table s Stop)) → Q s.phase (table s call)
in_table Q s k call stop = go call stop
  where
    st : (P : Phase) → Q P refused_state
    st P = k.refuses State P

    off : (P : Phase) → Q P refused_container
    off P = k.refuses Container P

    busy : (P : Phase) → Q P not_idle
    busy P = k.refuses NotIdle P

    open_row : (a b c d e f : Cell) → ((P : Phase) → Q P a) → ((P : Phase) → Q P b) → ((p n : ℕ) → Q (Busy p n) c)
        → ((P : Phase) → Q P d) → ((P : Phase) → Q P e) → ((P : Phase) → Q P f) → Q s.phase (row s a b c d e f)
    open_row a b c d e f qa qb qc qd qe qf =
        in_row Q s a b c d e f (λ n u. qa (Starting n u)) (qb Idle) qc (λ p n. qd (Busy p n)) (λ r n u. qe (Closing r n u)) (qf Off)

    any_row : (a b c d e f : Cell) → ((P : Phase) → Q P a) → ((P : Phase) → Q P b) → ((P : Phase) → Q P c)
        → ((P : Phase) → Q P d) → ((P : Phase) → Q P e) → ((P : Phase) → Q P f) → Q s.phase (row s a b c d e f)
    any_row a b c d e f qa qb qc qd qe qf = open_row a b c d e f qa qb (λ p n. qc (Busy p n)) qd qe qf

    report : (id : ℕ) (cell : Cell) → ((p d : ℕ) → Q (Busy p d) cell)
        → Q s.phase (row s refused_state refused_state (if_named s id cell) refused_state refused_state refused_container)
    report id cell q =
        open_row _ _ _ _ _ _ st st (λ p d. of_either (Q (Busy p d)) (is_number s.request id) cell bad_id (q p d) (k.refuses BadId (Busy p d))) st st off

    register_one : (used full : Bool) (P : Phase)
        → Q P (only (Some (if used then Refused NameInUse else if full then Refused TooMany else Registered (suc s.registrations))))
    register_one true full P = k.refuses NameInUse P
    register_one false true P = k.refuses TooMany P
    register_one false false P = k.registers P

    tell : (reason : Reason) (until : ℕ) (b : Bool) (P : Phase) → Q P (only (if b then Some (Ending reason until 0) else refused Container))
    tell reason until true P = k.tells reason until P
    tell reason until false P = off P

    tell_one : (o : Option Member) (now P : Phase) → Q P (only (next_in_closing o now))
    tell_one (Some x) (Closing reason until bound) P = tell reason until (hears_end x && not x.told) P
    tell_one None now P = off P
    tell_one (Some x) now P = off P

    ext : (x : ℕ) (a b c d e : Cell) → ((P : Phase) → Q P a) → ((P : Phase) → Q P b) → ((P : Phase) → Q P c)
        → ((P : Phase) → Q P d) → ((P : Phase) → Q P e) → Q s.phase (extension_row s x a b c d e)
    ext x a b c d e qa qb qc qd qe =
        of_either (Q s.phase) (is_known s x) _ _ (any_row a b c d e refused_container qa qb qc qd qe off)
        (any_row _ _ _ _ _ _ (k.refuses Unknown) (k.refuses Unknown) (k.refuses Unknown) (k.refuses Unknown) (k.refuses Unknown) off)

    go : (call : Call) → (is_stop call ≡ true → Q s.phase (table s Stop)) → Q s.phase (table s call)
    go (RuntimeNext e) stop = any_row _ _ _ _ _ _ k.waits k.waits st k.waits off off
    go (Response e id body) stop = report id _ k.output
    go (ResponseTooLarge e id) stop = report id _ k.too_large
    go (Failure e id body) stop = report id _ k.error
    go (InitFailure e body) stop = any_row _ _ _ _ _ _ k.fails st st st st off
    go (Register e name invoke shutdown account) stop =
        any_row _ _ _ _ _ _ (register_one (list_any (λ x. bytes_eq name x.extension.name) s.members) (nat_le 10 (length s.members))) st st st st off
    go (ExtNext e x) stop = ext x _ _ _ _ _ k.waits k.waits k.waits k.waits (tell_one (find (has_count x) s.members) s.phase)
    go (ExtInitFailure e x body) stop = ext x _ _ _ _ _ k.fails st st st st
    go (ExtExitFailure e x body) stop = ext x _ _ _ _ _ k.fails k.fails k.fails k.fails k.accepts
    go (Spindown e) stop =
        in_row Q s _ _ _ _ _ _ (λ n u. busy (Starting n u)) k.spins_down (λ p n. busy (Busy p n))
        (λ p n. busy (Busy p n)) (λ r n u. busy (Closing r n u)) (busy Off)
    go (Expire e) stop = in_row Q s _ _ _ _ _ _ k.init_times_out (k.waits Idle) k.times_out k.times_out (λ r n u. k.waits (Closing r n u)) (k.waits Off)
    go Stop stop = stop refl
    go (Invoke f qualified trace body) stop = k.waits s.phase
    go Tick stop = k.waits s.phase
    go (Withdraw t) stop = k.waits s.phase
    go (Reserve f count) stop = k.waits s.phase

-- the row of a Stop
pub of_stop : (Q : Cell → Type 0) (s : Stand) → Q nothing → Q stops → Q tells_stopped → Q (table s Stop)
of_stop Q s none first closing = of_either Q s.stopped _ _ none (of_row Q s _ _ _ _ _ _ first first first first closing closing)

-- the first one
pub first_stop : (s : Stand) → s.stopped ≡ false → table s Stop ≡ row s stops stops stops stops tells_stopped tells_stopped
first_stop s q = ap (λ (b : Bool). if b then nothing else row s stops stops stops stops tells_stopped tells_stopped) q

-- The answers that a call itself can get by the table.
pub own_values : (Q : Option Answer → Type 0) (s : Stand) → Q None → Q (Some Accepted)
    → ((kind : Rejection) → Q (refused kind)) → Q (Some (Registered (suc s.registrations)))
    → ((reason : Reason) (until : ℕ) → Q (Some (Ending reason until 0)))
    → (call : Call) → Q (own_answer s call)
unfolding own_answer
own_values Q s none accepts refuses registers tells call =
    in_table (λ P cell. Q cell.own) s (record {
      waits = λ P. none;
      accepts = λ P. accepts;
      refuses = λ kind P. refuses kind;
      registers = λ P. registers;
      tells = λ reason until P. tells reason until;
      output = λ p d. accepts;
      too_large = λ p d. refuses TooLarge;
      error = λ p d. accepts;
      fails = λ P. accepts;
      init_times_out = λ d bound. none;
      times_out = λ p d. none;
      spins_down = accepts;
    }) call (λ _. of_stop (λ cell. Q cell.own) s none none none)

-- The answers that the waiting call can get by it.
pub waiting_values : (Q : Option Answer → Type 0) (own : ℕ) (s : Stand) → Q None → Q (Some (Output own))
    → Q (Some OutputTooLarge) → Q (Some (Error own)) → Q (Some InitTimedOut) → Q (Some TimedOut) → Q (Some Stopped)
    → (call : Call) → Q (to_waiting own s call)
unfolding to_waiting
waiting_values Q own s none output too_large error init_timed_out timed_out stopped call =
    in_table (λ P cell. Q (cell.waiting own)) s (record {
      waits = λ P. none;
      accepts = λ P. none;
      refuses = λ kind P. none;
      registers = λ P. none;
      tells = λ reason until P. none;
      output = λ p d. output;
      too_large = λ p d. too_large;
      error = λ p d. error;
      fails = λ P. error;
      init_times_out = λ d bound. init_timed_out;
      times_out = λ p d. timed_out;
      spins_down = none;
    }) call (λ _. of_stop (λ cell. Q (cell.waiting own)) s none stopped stopped)

-- a Next closes nothing
pub next_closes : (s : Stand) (e : ℕ) → closes s (RuntimeNext e) ≡ None
unfolding closes
next_closes s e = of_row (λ (cell : Cell). cell.close ≡ None) s _ _ _ _ _ _ refl refl refl refl refl refl

pub ext_next_closes : (s : Stand) (e x : ℕ) → closes s (ExtNext e x) ≡ None
unfolding closes
ext_next_closes s e x = of_extension_row (λ (cell : Cell). cell.close ≡ None) s x _ _ _ _ _ refl refl refl refl refl refl refl

-- a Stop is answered elsewhere
pub stop_own : (s : Stand) → own_answer s Stop ≡ None
unfolding own_answer
stop_own s = of_stop (λ cell. cell.own ≡ None) s refl refl refl

-- The line of a call is read as that call.
use Rattle.std.proofs.Common.{◌≡◌, ℕ, ◌<◌, ◌≤◌, Bool, true, false, ◌&&◌, nat_le, ◌==◌, List, [], ◌∷◌, length, codes}
use Rattle.std.proofs.Common.{bytes_eq, Option, Some, None, option_map, decimal, All, refl, sym, ap, ◌∙◌, arith}
use Rattle.std.proofs.lemmas.Bool.{le-leb, eqb-true}
use Rattle.std.proofs.lemmas.List.Elements.{All-weaker}
use Rattle.arn_ids.specs.Words.{is_label, is_word, is_printable}
use Rattle.arn_ids.specs.Environments.{owners, function_at}
use Rattle.arn_ids.specs.Faults.{first_fault}
use Rattle.arn_ids.specs.declared.config.Config.{Config}
use Rattle.arn_ids.proofs.Bounds.{environments_256, name_is, named_once}
use Rattle.call_types.specs.declared.call.Call.{Call}
use Rattle.call_types.specs.declared.call.Call.TheVariants.{Invoke, RuntimeNext, Response, ResponseTooLarge, Failure}
use Rattle.call_types.specs.declared.call.Call.TheVariants.{InitFailure, Register, ExtNext, ExtInitFailure}
use Rattle.call_types.specs.declared.call.Call.TheVariants.{ExtExitFailure, Tick, Withdraw, Spindown, Stop, Expire}
use Rattle.call_types.specs.declared.call.Call.TheVariants.{Reserve}
use Rattle.arn_ids.specs.Numbers.{number_in, env_in}
use Rattle.arn_ids.specs.Limits.{greatest_moment, greatest_count, greatest_ticket, greatest_reservation}
use Rattle.call_types.specs.Within.{is_body, is_trace, IsEnv, IsFunction, IsCount, IsTrace, IsReservation, IsWithin}
use Rattle.script.specs.TextFields.{text_field, text_that, body_in, name_in, trace_in}
use Rattle.script.specs.Lines.{count_in, flag_in, events_in, reservation_in, invoke_in, lone_env_in, env_and_count_in}
use Rattle.script.specs.Lines.{report_in, init_failure_in, register_in, withdraw_in, reserve_in, extension_call_in}
use Rattle.script.specs.Lines.{runtime_call_in, call_by_word, timed_call_in, call_in}
use Rattle.script.specs.CallText.{before_moment, flag, or_dash, events, reservation, call_words, call_text}
use Rattle.call_types.specs.Calls.{body_of}
use Rattle.script.proofs.NumberLemmas.{number_again}
use Rattle.arn_ids.proofs.Printable.{both, ascii_from_printable}
use Rattle.script.proofs.TextFieldLemmas.{decoded_again}
use Rattle.script.proofs.SplitLemmas.{IsPlain, ArePlain, split_again, plain_by_test, plain_decimal, plain_text, plain_name}

-- ---- each field

abbrev IsByte : ℕ → Type 0
IsByte b = b < 256

env_again : (config : Config) (e : ℕ) → first_fault config ≡ None → IsEnv config e → env_in config (decimal e) ≡ Some e
env_again config e sound is_e =
    let most = environments_256 config sound in
    let read = number_again (length (owners config)) e is_e.1 (omega arith) in
    let some : nat_le 1 e ≡ true = le-leb 1 e is_e.0 in
    rw (read, some) refl

count_again : (n : ℕ) → IsCount n → count_in (decimal n) ≡ Some n
count_again n small = number_again greatest_count n small (omega arith)

text_again : (passes : List ℕ → Bool) (text : List ℕ) → All IsByte text → passes text ≡ true → text_that passes (text_field text) ≡ Some text
text_again passes text small passed = rw (decoded_again text small, passed) refl

printable_bytes : (most : ℕ) (text : List ℕ) → is_word is_printable most text ≡ true → All IsByte text
printable_bytes most text h =
    All-weaker (λ b. b < 128) IsByte (λ b small. omega arith) text
    (ascii_from_printable text (both (nat_le 1 (length text) && nat_le (length text) most) _ h).1)

body_again : (body : List ℕ) → All IsByte body → is_body body ≡ true → body_in (text_field body) ≡ Some body
body_again = text_again is_body

name_again : (name : List ℕ) → is_label name ≡ true → name_in (text_field name) ≡ Some name
name_again name h = text_again is_label name (printable_bytes 128 name h) h

trace_again : (trace : Option (List ℕ)) → IsTrace trace → trace_in (or_dash text_field trace) ≡ Some trace
trace_again None h = refl
trace_again (Some text) h = ap (option_map Some) (text_again is_trace text (printable_bytes 256 text h) h)

qualified_again : (set : Bool) → flag_in (codes "q") (flag (codes "q") set) ≡ Some set
qualified_again true = refl
qualified_again false = refl

account_again : (set : Bool) → flag_in (codes "a") (flag (codes "a") set) ≡ Some set
account_again true = refl
account_again false = refl

events_again : (invoke shutdown : Bool) → events_in (events invoke shutdown) ≡ Some (invoke, shutdown)
events_again true true = refl
events_again true false = refl
events_again false true = refl
events_again false false = refl

-- ---- each form of line

lone_env_again : (config : Config) (e : ℕ) → first_fault config ≡ None → IsEnv config e → lone_env_in config (decimal e ∷ []) ≡ Some e
unfolding lone_env_in
lone_env_again config e sound is_e = env_again config e sound is_e

env_and_count_again : (config : Config) (e n : ℕ) → first_fault config ≡ None → IsEnv config e → IsCount n
    → env_and_count_in config (decimal e ∷ decimal n ∷ []) ≡ Some (e, n)
unfolding env_and_count_in
env_and_count_again config e n sound is_e is_n = rw (env_again config e sound is_e, count_again n is_n) refl

report_again : (config : Config) (e n : ℕ) (body : List ℕ) → first_fault config ≡ None → IsEnv config e → IsCount n
    → is_body body ≡ true → All IsByte body
    → report_in config (decimal e ∷ decimal n ∷ text_field body ∷ []) ≡ Some (e, n, body)
unfolding report_in
report_again config e n body sound is_e is_n is_b small = rw (env_again config e sound is_e, count_again n is_n, body_again body small is_b) refl

one_byte : (ds : List ℕ) → bytes_eq ds (45 ∷ []) ≡ true → ds ≡ 45 ∷ []
one_byte [] h = cc
one_byte (d ∷ []) h = let e : d ≡ 45 = eqb-true d 45 (both (d == 45) true h).0 in rw e refl
one_byte (d ∷ e ∷ ds) h = let never = (both (d == 45) false h).1 in cc

not_dash : (n : ℕ) → n ≤ greatest_reservation → bytes_eq (decimal n) (codes "-") ≡ false
not_dash n small = go (bytes_eq (decimal n) (codes "-")) refl
  where
    go : (t : Bool) → bytes_eq (decimal n) (codes "-") ≡ t → t ≡ false
    go true e =
        let dash : decimal n ≡ 45 ∷ [] = one_byte (decimal n) e in
        let read : number_in greatest_reservation (45 ∷ []) ≡ Some n = ap (number_in greatest_reservation) (sym dash) ∙ number_again greatest_reservation n small (omega arith) in
        cc
    go false e = refl

reservation_again : (count : Option ℕ) → IsReservation count → reservation_in (reservation count) ≡ Some count
reservation_again None h = refl
reservation_again (Some n) small = rw (not_dash n small) (ap (option_map Some) (number_again greatest_reservation n small (omega arith)))

-- ---- each call, by its word

-- the words of a call behind its moment
abbrev Again : Config → Call → List (List ℕ) → Type 0
Again config call [] = ⊥
Again config call (word ∷ line) = call_by_word true config word line ≡ Some call

call_again : (config : Config) (call : Call) → first_fault config ≡ None → IsWithin config call
    → All IsByte (body_of call) → Again config call (call_words config call)
unfolding call_words call_by_word runtime_call_in extension_call_in invoke_in init_failure_in register_in withdraw_in reserve_in
call_again config (Invoke f qualified trace body) sound (is_f, is_t, is_b) small =
    rw (named_once config f sound is_f.0 is_f.1, qualified_again qualified, trace_again trace is_t, body_again body small is_b) refl
call_again config (RuntimeNext e) sound is_e small = rw (lone_env_again config e sound is_e) refl
call_again config (Response e n body) sound (is_e, is_n, is_b) small = rw (report_again config e n body sound is_e is_n is_b small) refl
call_again config (ResponseTooLarge e n) sound (is_e, is_n) small = rw (env_and_count_again config e n sound is_e is_n) refl
call_again config (Failure e n body) sound (is_e, is_n, is_b) small = rw (report_again config e n body sound is_e is_n is_b small) refl
call_again config (InitFailure e body) sound (is_e, is_b) small = rw (env_again config e sound is_e, body_again body small is_b) refl
call_again config (Register e name invoke shutdown account) sound (is_e, is_n) small =
    rw (env_again config e sound is_e, name_again name is_n, events_again invoke shutdown, account_again account) refl
call_again config (ExtNext e x) sound (is_e, is_x) small = rw (env_and_count_again config e x sound is_e is_x) refl
call_again config (ExtInitFailure e x body) sound (is_e, is_x, is_b) small = rw (report_again config e x body sound is_e is_x is_b small) refl
call_again config (ExtExitFailure e x body) sound (is_e, is_x, is_b) small = rw (report_again config e x body sound is_e is_x is_b small) refl
call_again config Tick sound h small = refl
call_again config (Withdraw t) sound is_t small = rw (number_again greatest_ticket t is_t (omega arith)) refl
call_again config (Spindown e) sound is_e small = rw (lone_env_again config e sound is_e) refl
call_again config Stop sound h small = refl
call_again config (Expire e) sound h small = absurd h
call_again config (Reserve f count) sound (is_f, is_c) small = rw (named_once config f sound is_f.0 is_f.1, reservation_again count is_c) refl

-- ---- no word of a call has a space

plain_flag : (word : List ℕ) (set : Bool) → All IsPlain word → All IsPlain (flag word set)
plain_flag word true plain = plain
plain_flag word false plain = plain_by_test (codes "-") refl

plain_events : (invoke shutdown : Bool) → All IsPlain (events invoke shutdown)
plain_events true true = plain_by_test (codes "is") refl
plain_events true false = plain_by_test (codes "i") refl
plain_events false true = plain_by_test (codes "s") refl
plain_events false false = plain_by_test (codes "-") refl

plain_trace : (trace : Option (List ℕ)) → All IsPlain (or_dash text_field trace)
plain_trace None = plain_by_test (codes "-") refl
plain_trace (Some text) = plain_text text

plain_reservation : (count : Option ℕ) → IsReservation count → All IsPlain (reservation count)
plain_reservation None h = plain_by_test (codes "-") refl
plain_reservation (Some n) small = plain_decimal n (omega arith)

plain_env : (config : Config) (e : ℕ) → first_fault config ≡ None → IsEnv config e → All IsPlain (decimal e)
plain_env config e sound is_e = let most = environments_256 config sound in plain_decimal e (omega arith)

plain_count : (n : ℕ) → IsCount n → All IsPlain (decimal n)
plain_count n small = plain_decimal n (omega arith)

plain_function : (config : Config) (f : ℕ) → first_fault config ≡ None → IsFunction config f → All IsPlain (function_at config f).name
plain_function config f sound is_f = plain_name (function_at config f).name (name_is config f sound is_f.0 is_f.1)

plain_words : (config : Config) (call : Call) → first_fault config ≡ None → IsWithin config call → ArePlain (call_words config call)
unfolding call_words
plain_words config (Invoke f qualified trace body) sound (is_f, is_t, is_b) =
    (plain_by_test (codes "invoke") refl, (plain_function config f sound is_f, (plain_flag (codes "q") qualified (plain_by_test (codes "q") refl), (plain_trace trace, (plain_text body, tt)))))
plain_words config (RuntimeNext e) sound is_e = (plain_by_test (codes "next") refl, (plain_env config e sound is_e, tt))
plain_words config (Response e n body) sound (is_e, is_n, is_b) =
    (plain_by_test (codes "response") refl, (plain_env config e sound is_e, (plain_count n is_n, (plain_text body, tt))))
plain_words config (ResponseTooLarge e n) sound (is_e, is_n) =
    (plain_by_test (codes "response-too-large") refl, (plain_env config e sound is_e, (plain_count n is_n, tt)))
plain_words config (Failure e n body) sound (is_e, is_n, is_b) =
    (plain_by_test (codes "failure") refl, (plain_env config e sound is_e, (plain_count n is_n, (plain_text body, tt))))
plain_words config (InitFailure e body) sound (is_e, is_b) = (plain_by_test (codes "init-failure") refl, (plain_env config e sound is_e, (plain_text body, tt)))
plain_words config (Register e name invoke shutdown account) sound (is_e, is_n) =
    (plain_by_test (codes "register") refl, (plain_env config e sound is_e, (plain_text name, (plain_events invoke shutdown, (plain_flag (codes "a") account (plain_by_test (codes "a") refl), tt)))))
plain_words config (ExtNext e x) sound (is_e, is_x) = (plain_by_test (codes "ext-next") refl, (plain_env config e sound is_e, (plain_count x is_x, tt)))
plain_words config (ExtInitFailure e x body) sound (is_e, is_x, is_b) =
    (plain_by_test (codes "ext-init-failure") refl, (plain_env config e sound is_e, (plain_count x is_x, (plain_text body, tt))))
plain_words config (ExtExitFailure e x body) sound (is_e, is_x, is_b) =
    (plain_by_test (codes "ext-exit-failure") refl, (plain_env config e sound is_e, (plain_count x is_x, (plain_text body, tt))))
plain_words config Tick sound h = (plain_by_test (codes "tick") refl, tt)
plain_words config (Withdraw t) sound is_t = (plain_by_test (codes "withdraw") refl, (plain_decimal t (omega arith), tt))
plain_words config (Spindown e) sound is_e = (plain_by_test (codes "spindown") refl, (plain_env config e sound is_e, tt))
plain_words config Stop sound h = (plain_by_test (codes "stop") refl, tt)
plain_words config (Expire e) sound h = absurd h
plain_words config (Reserve f count) sound (is_f, is_c) =
    (plain_by_test (codes "reserve") refl, (plain_function config f sound is_f, (plain_reservation count is_c, tt)))

-- ---- the whole line

pub no_mark : (config : Config) (call : Call) → IsWithin config call → before_moment call ≡ []
no_mark config (Invoke f qualified trace body) h = refl
no_mark config (RuntimeNext e) h = refl
no_mark config (Response e n body) h = refl
no_mark config (ResponseTooLarge e n) h = refl
no_mark config (Failure e n body) h = refl
no_mark config (InitFailure e body) h = refl
no_mark config (Register e name invoke shutdown account) h = refl
no_mark config (ExtNext e x) h = refl
no_mark config (ExtInitFailure e x body) h = refl
no_mark config (ExtExitFailure e x body) h = refl
no_mark config Tick h = refl
no_mark config (Withdraw t) h = refl
no_mark config (Spindown e) h = refl
no_mark config Stop h = refl
no_mark config (Expire e) h = absurd h
no_mark config (Reserve f count) h = refl

timed_again : (config : Config) (m : ℕ) (call : Call) (words : List (List ℕ)) → m ≤ greatest_moment
    → Again config call words → timed_call_in true config (decimal m ∷ words) ≡ Some (m, call)
timed_again config m call [] small again = absurd again
timed_again config m call (word ∷ line) small again = rw (number_again greatest_moment m small (omega arith), again) refl

pub read_again : (config : Config) (m : ℕ) (call : Call) → first_fault config ≡ None → m ≤ greatest_moment
    → IsWithin config call → All (λ b. b < 256) (body_of call)
    → call_in true config (call_text config m call) ≡ Some (m, call)
unfolding call_in call_text
read_again config m call sound early within small =
    rw (no_mark config call within, split_again (decimal m) (call_words config call) (plain_decimal m (omega arith)) (plain_words config call sound within))
    (timed_again config m call (call_words config call) early (call_again config call sound within small))

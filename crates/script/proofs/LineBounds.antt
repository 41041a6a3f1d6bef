-- The line of a call or an answer has no control byte, so that it is one line, and is no longer than a line may be.
use Rattle.std.proofs.Common.{◌≡◌, ℕ, suc, ◌+◌, ◌≤◌, Bool, true, false, ◌&&◌, ◌==◌, nat_le, List, [], ◌∷◌, ◌++◌, length}
use Rattle.std.proofs.Common.{codes, Option, Some, None, decimal, refl, arith}
use Rattle.std.specs.List.{list_all}
use Rattle.std.proofs.lemmas.Bool.{leb-true}
use Rattle.std.proofs.lemmas.Bool.Decides.{nat_tests}
use Rattle.arn_ids.specs.Words.{is_name_byte, is_name, is_printable, is_word}
use Rattle.arn_ids.specs.Environments.{function_at}
use Rattle.arn_ids.specs.Faults.{first_fault}
use Rattle.arn_ids.specs.declared.identifiers.IdKind.TheVariants.{Request, Extension, Event}
use Rattle.arn_ids.specs.declared.config.Config.{Config}
use Rattle.arn_ids.proofs.Bounds.{name_is}
use Rattle.call_types.specs.declared.call.Call.{Call}
use Rattle.call_types.specs.declared.call.Call.TheVariants.{Invoke, RuntimeNext, Response, ResponseTooLarge, Failure}
use Rattle.call_types.specs.declared.call.Call.TheVariants.{InitFailure, Register, ExtNext, ExtInitFailure}
use Rattle.call_types.specs.declared.call.Call.TheVariants.{ExtExitFailure, Tick, Withdraw, Spindown, Stop, Expire}
use Rattle.call_types.specs.declared.call.Call.TheVariants.{Reserve}
use Rattle.call_types.specs.declared.call.Entry.{Entry}
use Rattle.call_types.specs.declared.answer.Answer.{Answer}
use Rattle.call_types.specs.declared.answer.Answer.TheVariants.{Delivered, Told, Ending, Registered, Accepted, Done}
use Rattle.call_types.specs.declared.answer.Answer.TheVariants.{Output, Error, TimedOut, InitTimedOut, OutputTooLarge}
use Rattle.call_types.specs.declared.answer.Answer.TheVariants.{Throttled, Stopped, Withdrawn, Refused, Reserved}
use Rattle.call_types.specs.declared.answer.Answer.TheVariants.{Unreserved}
use Rattle.call_types.specs.declared.answer.Reason.{Reason}
use Rattle.call_types.specs.declared.answer.Reason.TheVariants.{Timeout, Failure as Failed, Spindown as SpunDown}
use Rattle.call_types.specs.declared.answer.Throttle.{Throttle}
use Rattle.call_types.specs.declared.answer.Throttle.TheVariants.{Function, Account, Environments}
use Rattle.call_types.specs.declared.answer.Rejection.{Rejection}
use Rattle.call_types.specs.declared.answer.Rejection.TheVariants.{State, Replaced, BadId, Unknown, TooLarge, Container}
use Rattle.call_types.specs.declared.answer.Rejection.TheVariants.{NameInUse, TooMany, NotIdle, BadReservation}
use Rattle.call_model.specs.History.{call_of}
use Rattle.call_types.specs.Within.{is_body, IsTrace, IsWithin}
use Rattle.script.specs.TextFields.{text_field}
use Rattle.script.specs.CallText.{line_of, or_dash, flag, events, reservation, call_words, before_moment, call_text}
use Rattle.call_types.specs.Calls.{body_of}
use Rattle.call_types.specs.Words.{reason_word, refusal_word, throttle_word}
use Rattle.script.specs.AnswerText.{body_word, answer_words}
use Rattle.script.specs.Writing.{spaced}
use Rattle.arn_ids.proofs.Printable.{both}
use Rattle.script.proofs.WordBounds.{Fits, is_plain, fits_weaker, fits_append, fits_cons, fits_word, fits_decimal, fits_id, fits_text}

-- ---- words in a line

-- words that take so many bytes with a space before each
pub record FitWords (n : ℕ) (words : List (List ℕ)) : Type 0 where
  pub fit : Fits n (spaced words)

fits_none : FitWords 0 []
fits_none = record { fit = fits_word 0 [] refl }

fits_more : (m n : ℕ) (word : List ℕ) (words : List (List ℕ)) → Fits m word → FitWords n words → FitWords (suc m + n) (word ∷ words)
fits_more m n word words f g = record { fit = fits_append (suc m) n (32 ∷ word) (spaced words) (fits_cons m 32 word (omega arith) f) g.fit }

fits_line : (m n : ℕ) (word : List ℕ) (words : List (List ℕ)) → Fits m word → FitWords n words → Fits (m + n) (line_of (word ∷ words))
fits_line m n word words f g = fits_append m n word (spaced words) f g.fit

-- ---- the words of calls

name_byte_plain : (b : ℕ) → is_name_byte b ≡ true → nat_le 32 b ≡ true
name_byte_plain b h = go (nat_le 32 b) refl
  where
    go : (t : Bool) → nat_le 32 b ≡ t → t ≡ true
    go true e = refl
    go false e =
        let digit : nat_le 48 b ≡ false = grind (arith, nat_tests) in
        let lower : nat_le 97 b ≡ false = grind (arith, nat_tests) in
        let upper : nat_le 65 b ≡ false = grind (arith, nat_tests) in
        let dash : (b == 45) ≡ false = grind (arith, nat_tests) in
        let line : (b == 95) ≡ false = grind (arith, nat_tests) in
        let never = rw (digit, lower, upper, dash, line) at h in
        cc

name_plain : (name : List ℕ) → list_all is_name_byte name ≡ true → is_plain name ≡ true
name_plain [] h = refl
name_plain (b ∷ bs) h = let p = both (is_name_byte b) (list_all is_name_byte bs) h in rw (name_byte_plain b p.0) (name_plain bs p.1)

fits_name : (name : List ℕ) → is_name name ≡ true → Fits 64 name
fits_name name h =
    let p = both (nat_le 1 (length name) && nat_le (length name) 64) (list_all is_name_byte name) h in
    record { plain = name_plain name p.1; short = leb-true (length name) 64 (both (nat_le 1 (length name)) (nat_le (length name) 64) p.0).1 }

word_short : (most : ℕ) (text : List ℕ) → is_word is_printable most text ≡ true → length text ≤ most
word_short most text h =
    let p = both (nat_le 1 (length text) && nat_le (length text) most) (list_all is_printable text) h in
    leb-true (length text) most (both (nat_le 1 (length text)) (nat_le (length text) most) p.0).1

fits_flag : (word : List ℕ) (set : Bool) → Fits 2 word → Fits 2 (flag word set)
fits_flag word true f = f
fits_flag word false f = fits_word 2 (codes "-") refl

fits_trace : (trace : Option (List ℕ)) → IsTrace trace → Fits 769 (or_dash text_field trace)
fits_trace None h = fits_word 769 (codes "-") refl
fits_trace (Some text) h = fits_text 256 text (word_short 256 text h)

fits_events : (invoke shutdown : Bool) → Fits 2 (events invoke shutdown)
fits_events true true = fits_word 2 (codes "is") refl
fits_events true false = fits_word 2 (codes "i") refl
fits_events false true = fits_word 2 (codes "s") refl
fits_events false false = fits_word 2 (codes "-") refl

fits_reservation : (count : Option ℕ) → Fits 64 (reservation count)
fits_reservation None = fits_word 64 (codes "-") refl
fits_reservation (Some n) = fits_decimal n

fits_body : (body : List ℕ) → is_body body ≡ true → Fits 18874369 (text_field body)
fits_body body h = fits_text 6291456 body (leb-true (length body) 6291456 h)

-- at most so many bytes are a line's words behind the first
abbrev Few : List (List ℕ) → Type 0
Few words = FitWords 18900000 words

few : (n : ℕ) (words : List (List ℕ)) → FitWords n words → n ≤ 18900000 → Few words
few n words f le = record { fit = fits_weaker n 18900000 (spaced words) le f.fit }

call_fits : (config : Config) (call : Call) → first_fault config ≡ None → IsWithin config call → Few (call_words config call)
unfolding call_words
call_fits config (Invoke f qualified trace body) sound (is_f, is_t, is_b) =
    few _ _
    (fits_more _ _ _ _ (fits_word 6 (codes "invoke") refl) (fits_more _ _ _ _ (fits_name (function_at config f).name (name_is config f sound is_f.0 is_f.1)) (fits_more _ _ _ _ (fits_flag (codes "q") qualified (fits_word 2 (codes "q") refl)) (fits_more _ _ _ _ (fits_trace trace is_t) (fits_more _ _ _ _ (fits_body body is_b) fits_none)))))
    (omega arith)
call_fits config (RuntimeNext e) sound h =
    few _ _ (fits_more _ _ _ _ (fits_word 4 (codes "next") refl) (fits_more _ _ _ _ (fits_decimal e) fits_none)) (omega arith)
call_fits config (Response e n body) sound (is_e, is_n, is_b) =
    few _ _
    (fits_more _ _ _ _ (fits_word 8 (codes "response") refl) (fits_more _ _ _ _ (fits_decimal e) (fits_more _ _ _ _ (fits_decimal n) (fits_more _ _ _ _ (fits_body body is_b) fits_none))))
    (omega arith)
call_fits config (ResponseTooLarge e n) sound h =
    few _ _
    (fits_more _ _ _ _ (fits_word 18 (codes "response-too-large") refl) (fits_more _ _ _ _ (fits_decimal e) (fits_more _ _ _ _ (fits_decimal n) fits_none)))
    (omega arith)
call_fits config (Failure e n body) sound (is_e, is_n, is_b) =
    few _ _
    (fits_more _ _ _ _ (fits_word 7 (codes "failure") refl) (fits_more _ _ _ _ (fits_decimal e) (fits_more _ _ _ _ (fits_decimal n) (fits_more _ _ _ _ (fits_body body is_b) fits_none))))
    (omega arith)
call_fits config (InitFailure e body) sound (is_e, is_b) =
    few _ _
    (fits_more _ _ _ _ (fits_word 12 (codes "init-failure") refl) (fits_more _ _ _ _ (fits_decimal e) (fits_more _ _ _ _ (fits_body body is_b) fits_none)))
    (omega arith)
call_fits config (Register e name invoke shutdown account) sound (is_e, is_n) =
    few _ _
    (fits_more _ _ _ _ (fits_word 8 (codes "register") refl) (fits_more _ _ _ _ (fits_decimal e) (fits_more _ _ _ _ (fits_text 128 name (word_short 128 name is_n)) (fits_more _ _ _ _ (fits_events invoke shutdown) (fits_more _ _ _ _ (fits_flag (codes "a") account (fits_word 2 (codes "a") refl)) fits_none)))))
    (omega arith)
call_fits config (ExtNext e x) sound h =
    few _ _
    (fits_more _ _ _ _ (fits_word 8 (codes "ext-next") refl) (fits_more _ _ _ _ (fits_decimal e) (fits_more _ _ _ _ (fits_decimal x) fits_none)))
    (omega arith)
call_fits config (ExtInitFailure e x body) sound (is_e, is_x, is_b) =
    few _ _
    (fits_more _ _ _ _ (fits_word 16 (codes "ext-init-failure") refl) (fits_more _ _ _ _ (fits_decimal e) (fits_more _ _ _ _ (fits_decimal x) (fits_more _ _ _ _ (fits_body body is_b) fits_none))))
    (omega arith)
call_fits config (ExtExitFailure e x body) sound (is_e, is_x, is_b) =
    few _ _
    (fits_more _ _ _ _ (fits_word 16 (codes "ext-exit-failure") refl) (fits_more _ _ _ _ (fits_decimal e) (fits_more _ _ _ _ (fits_decimal x) (fits_more _ _ _ _ (fits_body body is_b) fits_none))))
    (omega arith)
call_fits config Tick sound h = few _ _ (fits_more _ _ _ _ (fits_word 4 (codes "tick") refl) fits_none) (omega arith)
call_fits config (Withdraw t) sound h =
    few _ _ (fits_more _ _ _ _ (fits_word 8 (codes "withdraw") refl) (fits_more _ _ _ _ (fits_decimal t) fits_none)) (omega arith)
call_fits config (Spindown e) sound h =
    few _ _ (fits_more _ _ _ _ (fits_word 8 (codes "spindown") refl) (fits_more _ _ _ _ (fits_decimal e) fits_none)) (omega arith)
call_fits config Stop sound h = few _ _ (fits_more _ _ _ _ (fits_word 4 (codes "stop") refl) fits_none) (omega arith)
call_fits config (Expire e) sound h = absurd h
call_fits config (Reserve f count) sound (is_f, is_c) =
    few _ _
    (fits_more _ _ _ _ (fits_word 7 (codes "reserve") refl) (fits_more _ _ _ _ (fits_name (function_at config f).name (name_is config f sound is_f.0 is_f.1)) (fits_more _ _ _ _ (fits_reservation count) fits_none)))
    (omega arith)

expire_fits : (config : Config) (e : ℕ) → Few (call_words config (Expire e))
unfolding call_words
expire_fits config e = few _ _ (fits_more _ _ _ _ (fits_word 6 (codes "expire") refl) (fits_more _ _ _ _ (fits_decimal e) fits_none)) (omega arith)

mark_fits : (call : Call) → Fits 3 (before_moment call)
mark_fits (Expire e) = fits_word 3 (codes "## ") refl
mark_fits (Invoke f qualified trace body) = fits_word 3 [] refl
mark_fits (RuntimeNext e) = fits_word 3 [] refl
mark_fits (Response e n body) = fits_word 3 [] refl
mark_fits (ResponseTooLarge e n) = fits_word 3 [] refl
mark_fits (Failure e n body) = fits_word 3 [] refl
mark_fits (InitFailure e body) = fits_word 3 [] refl
mark_fits (Register e name invoke shutdown account) = fits_word 3 [] refl
mark_fits (ExtNext e x) = fits_word 3 [] refl
mark_fits (ExtInitFailure e x body) = fits_word 3 [] refl
mark_fits (ExtExitFailure e x body) = fits_word 3 [] refl
mark_fits Tick = fits_word 3 [] refl
mark_fits (Withdraw t) = fits_word 3 [] refl
mark_fits (Spindown e) = fits_word 3 [] refl
mark_fits Stop = fits_word 3 [] refl
mark_fits (Reserve f count) = fits_word 3 [] refl

text_fits : (config : Config) (moment : ℕ) (call : Call) → Few (call_words config call) → Fits 20000000 (call_text config moment call)
unfolding call_text
text_fits config moment call f =
    fits_weaker (3 + (64 + 18900000)) 20000000 _ (omega arith)
    (fits_append 3 (64 + 18900000) (before_moment call) (line_of (decimal moment ∷ call_words config call)) (mark_fits call) (fits_line 64 18900000 (decimal moment) (call_words config call) (fits_decimal moment) f))

-- The line of a call within the limits.
pub call_line_fits : (config : Config) (moment : ℕ) (call : Call) → first_fault config ≡ None → IsWithin config call
    → Fits 20000000 (call_text config moment call)
call_line_fits config moment call sound within = text_fits config moment call (call_fits config call sound within)

-- The line of an expiry.
pub expiry_line_fits : (config : Config) (moment e : ℕ) → Fits 20000000 (call_text config moment (Expire e))
expiry_line_fits config moment e = text_fits config moment (Expire e) (expire_fits config e)

-- ---- the words of answers

-- no call of a history has a longer body than a call may have
abbrev pub HasShortBodies : List Entry → Type 0
HasShortBodies h = (t : ℕ) → length (body_of (call_of h t)) ≤ 6291456

reason_fits : (reason : Reason) → Fits 8 (reason_word reason)
reason_fits Timeout = fits_word 8 (codes "TIMEOUT") refl
reason_fits Failed = fits_word 8 (codes "FAILURE") refl
reason_fits SpunDown = fits_word 8 (codes "SPINDOWN") refl

throttle_fits : (reason : Throttle) → Fits 64 (throttle_word reason)
throttle_fits Function = fits_word 64 (codes "ReservedFunctionConcurrentInvocationLimitExceeded") refl
throttle_fits Account = fits_word 64 (codes "ConcurrentInvocationLimitExceeded") refl
throttle_fits Environments = fits_word 64 (codes "LocalEnvironmentLimitExceeded") refl

refusal_fits : (refusal : Rejection) → Fits 16 (refusal_word refusal)
refusal_fits State = fits_word 16 (codes "State") refl
refusal_fits Replaced = fits_word 16 (codes "Replaced") refl
refusal_fits BadId = fits_word 16 (codes "BadId") refl
refusal_fits Unknown = fits_word 16 (codes "Unknown") refl
refusal_fits TooLarge = fits_word 16 (codes "TooLarge") refl
refusal_fits Container = fits_word 16 (codes "Container") refl
refusal_fits NameInUse = fits_word 16 (codes "NameInUse") refl
refusal_fits TooMany = fits_word 16 (codes "TooMany") refl
refusal_fits NotIdle = fits_word 16 (codes "NotIdle") refl
refusal_fits BadReservation = fits_word 16 (codes "BadReservation") refl

body_fits : (h : List Entry) (t : ℕ) → HasShortBodies h → Fits 18874369 (body_word h t)
body_fits h t short = fits_text 6291456 (body_of (call_of h t)) (short t)

answer_fits : (salt : ℕ) (h : List Entry) (t : ℕ) (answer : Answer) → HasShortBodies h → Few (answer_words salt h t answer)
unfolding answer_words
answer_fits salt h t (Delivered p deadline) short =
    few _ _
    (fits_more _ _ _ _ (fits_word 7 (codes "deliver") refl) (fits_more _ _ _ _ (fits_id salt Request _ _) (fits_more _ _ _ _ (fits_decimal deadline) (fits_more _ _ _ _ (body_fits h p short) fits_none))))
    (omega arith)
answer_fits salt h t (Told p deadline event) short =
    few _ _
    (fits_more _ _ _ _ (fits_word 4 (codes "tell") refl) (fits_more _ _ _ _ (fits_id salt Event _ event) (fits_more _ _ _ _ (fits_id salt Request _ _) (fits_more _ _ _ _ (fits_decimal deadline) fits_none))))
    (omega arith)
answer_fits salt h t (Ending reason until event) short =
    few _ _
    (fits_more _ _ _ _ (fits_word 8 (codes "shutdown") refl) (fits_more _ _ _ _ (fits_id salt Event _ event) (fits_more _ _ _ _ (reason_fits reason) (fits_more _ _ _ _ (fits_decimal until) fits_none))))
    (omega arith)
answer_fits salt h t (Registered count) short =
    few _ _ (fits_more _ _ _ _ (fits_word 10 (codes "registered") refl) (fits_more _ _ _ _ (fits_id salt Extension _ count) fits_none)) (omega arith)
answer_fits salt h t Accepted short = few _ _ (fits_more _ _ _ _ (fits_word 8 (codes "accepted") refl) fits_none) (omega arith)
answer_fits salt h t Done short = few _ _ (fits_more _ _ _ _ (fits_word 4 (codes "done") refl) fits_none) (omega arith)
answer_fits salt h t (Output source) short =
    few _ _ (fits_more _ _ _ _ (fits_word 6 (codes "output") refl) (fits_more _ _ _ _ (body_fits h source short) fits_none)) (omega arith)
answer_fits salt h t (Error source) short =
    few _ _ (fits_more _ _ _ _ (fits_word 5 (codes "error") refl) (fits_more _ _ _ _ (body_fits h source short) fits_none)) (omega arith)
answer_fits salt h t TimedOut short = few _ _ (fits_more _ _ _ _ (fits_word 7 (codes "timeout") refl) fits_none) (omega arith)
answer_fits salt h t InitTimedOut short = few _ _ (fits_more _ _ _ _ (fits_word 12 (codes "init-timeout") refl) fits_none) (omega arith)
answer_fits salt h t OutputTooLarge short = few _ _ (fits_more _ _ _ _ (fits_word 16 (codes "too-large-output") refl) fits_none) (omega arith)
answer_fits salt h t (Throttled reason) short =
    few _ _ (fits_more _ _ _ _ (fits_word 9 (codes "throttled") refl) (fits_more _ _ _ _ (throttle_fits reason) fits_none)) (omega arith)
answer_fits salt h t Stopped short = few _ _ (fits_more _ _ _ _ (fits_word 7 (codes "stopped") refl) fits_none) (omega arith)
answer_fits salt h t Withdrawn short = few _ _ (fits_more _ _ _ _ (fits_word 9 (codes "withdrawn") refl) fits_none) (omega arith)
answer_fits salt h t (Refused refusal) short =
    few _ _ (fits_more _ _ _ _ (fits_word 7 (codes "refused") refl) (fits_more _ _ _ _ (refusal_fits refusal) fits_none)) (omega arith)
answer_fits salt h t (Reserved count) short =
    few _ _ (fits_more _ _ _ _ (fits_word 8 (codes "reserved") refl) (fits_more _ _ _ _ (fits_decimal count) fits_none)) (omega arith)
answer_fits salt h t Unreserved short = few _ _ (fits_more _ _ _ _ (fits_word 10 (codes "unreserved") refl) fits_none) (omega arith)

-- an answer as a comment, without its ending
abbrev pub comment : ℕ → List Entry → ℕ → ℕ × Answer → List ℕ
comment salt h number a = codes "# " ++ line_of (decimal number ∷ decimal a.0 ∷ answer_words salt h a.0 a.1)

pub comment_fits : (salt : ℕ) (h : List Entry) (number : ℕ) (a : ℕ × Answer) → HasShortBodies h → Fits 20000000 (comment salt h number a)
comment_fits salt h number a short =
    fits_weaker (2 + (64 + (65 + 18900000))) 20000000 _ (omega arith) (fits_append 2 (64 + (65 + 18900000)) (codes "# ") _ (fits_word 2 (codes "# ") refl)
    (fits_line 64 (65 + 18900000) (decimal number) (decimal a.0 ∷ answer_words salt h a.0 a.1) (fits_decimal number) (fits_more 64 18900000 (decimal a.0) (answer_words salt h a.0 a.1) (fits_decimal a.0) (answer_fits salt h a.0 a.1 short))))

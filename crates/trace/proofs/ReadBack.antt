-- The call of an entry is read back from the tokens of its object.
use Rattle.std.proofs.Common.{◌≡◌, ℕ, zero, suc, ◌<◌, ◌≤◌, ◌^◌, Bool, true, false, if◌then◌else◌, bytes_eq, List, []}
use Rattle.std.proofs.Common.{◌∷◌, ◌++◌, drop, codes, decimal, Option, Some, None, option_map, length, All, refl, ap}
use Rattle.std.proofs.Common.{◌∙◌, arith, append_assoc}
use Rattle.std.proofs.lemmas.Fmt.{decimal_is_IsNumeral}
use Rattle.std.specs.List.{flat_map}
use Rattle.std.specs.Result.{result_ok}
use Rattle.std.specs.Str.{is_utf8}
use Rattle.std.specs.Str.Parse.{digits_value}
use Rattle.arn_ids.specs.Environments.{function_at}
use Rattle.arn_ids.specs.Faults.{first_fault}
use Rattle.arn_ids.specs.Limits.{greatest_moment}
use Rattle.arn_ids.specs.declared.config.Config.{Config}
use Rattle.arn_ids.proofs.Bounds.{environments_256, named_once}
use Rattle.base64.specs.Engines.{standard}
use Rattle.base64.specs.GeneralPurpose.{IsBytes, decode_of, encode_of}
use Rattle.base64.proofs.EngineFacts.{decode_of-encode_of}
use Rattle.call_types.specs.Calls.{body_of}
use Rattle.call_types.specs.Within.{IsEnv, IsFunction}
use Rattle.call_types.specs.declared.answer.Answer.{Answer}
use Rattle.call_types.specs.declared.answer.Answer.TheVariants.{Delivered, Told, Ending, Registered, Accepted, Done}
use Rattle.call_types.specs.declared.answer.Answer.TheVariants.{Output, Error, TimedOut, InitTimedOut, OutputTooLarge}
use Rattle.call_types.specs.declared.answer.Answer.TheVariants.{Throttled, Stopped, Withdrawn, Refused, Reserved}
use Rattle.call_types.specs.declared.answer.Answer.TheVariants.{Unreserved}
use Rattle.call_types.specs.declared.call.Call.{Call}
use Rattle.call_types.specs.declared.call.Call.TheVariants.{Invoke, RuntimeNext, Response, ResponseTooLarge, Failure}
use Rattle.call_types.specs.declared.call.Call.TheVariants.{InitFailure, Register, ExtNext, ExtInitFailure}
use Rattle.call_types.specs.declared.call.Call.TheVariants.{ExtExitFailure, Tick, Withdraw, Spindown, Stop, Expire}
use Rattle.call_types.specs.declared.call.Call.TheVariants.{Reserve}
use Rattle.call_types.specs.declared.call.Entry.{Entry}
use Rattle.json.specs.Lex.{tokens}
use Rattle.json.specs.Print.{print}
use Rattle.json.specs.Token.{Token, end_object, end_array, key, string, number, boolean}
use Rattle.script.specs.CallText.{call_text}
use Rattle.trace.specs.Members.{body_member, number_if, object, text_member}
use Rattle.trace.specs.CallObject.{call_object, trace_if}
use Rattle.trace.specs.AnswerObject.{answer_object}
use Rattle.trace.specs.Object.{charged_at, expired, object_tokens, told, Turn, turns_at}
use Rattle.trace.specs.Reading.{member, after_list, after_object, body_in, invoke_in, counted_in, report_in}
use Rattle.trace.specs.Reading.{init_failure_in, register_in, reserve_in, extension_call_in, runtime_call_in}
use Rattle.trace.specs.Reading.{call_by_kind, call_in, entry_in, line_in, IsTold}

-- ---- numbers and bytes

number_again : (n : ℕ) → n < 2 ^ 64 → digits_value 10 (decimal n) ≡ n
number_again n small = (decimal_is_IsNumeral n small).1

env_small : (config : Config) (e : ℕ) → first_fault config ≡ None → IsEnv config e → e < 2 ^ 64
env_small config e sound is = let most = environments_256 config sound in omega (arith, is.1)

are_bytes : (body : List ℕ) → All (λ b. b < 256) body → IsBytes body
are_bytes [] small i = omega arith
are_bytes (x ∷ xs) small zero = small 0 0 (omega arith)
are_bytes (x ∷ xs) small (suc i) = are_bytes xs (λ k d lt. small (suc k) d (omega (arith, lt))) i

decoded : (body : List ℕ) → All (λ b. b < 256) body → result_ok (decode_of standard (encode_of standard body)) ≡ Some body
decoded body small = ap result_ok (decode_of-encode_of standard body refl (are_bytes body small))

-- ---- the member with a body, whichever name it has

either_past : (b : Bool) (name text coded : List ℕ) (rest : List Token) → bytes_eq (codes "body") name ≡ false → bytes_eq (codes "bodyBase64") name ≡ false
    → member name ((if b then text_member (codes "body") text else text_member (codes "bodyBase64") coded) ++ rest) ≡ member name rest
unfolding member
either_past true name text coded rest p q = rw p refl
either_past false name text coded rest p q = rw q refl

past_body : (name body : List ℕ) (rest : List Token) → bytes_eq (codes "body") name ≡ false → bytes_eq (codes "bodyBase64") name ≡ false
    → member name (body_member true body ++ rest) ≡ member name rest
unfolding body_member
past_body name body rest p q = either_past (is_utf8 body) name body (encode_of standard body) rest p q

either_back : (b : Bool) (body : List ℕ) (rest : List Token) → All (λ x. x < 256) body → member (codes "body") rest ≡ None
    → body_in ((if b then text_member (codes "body") body else text_member (codes "bodyBase64") (encode_of standard body)) ++ rest) ≡ Some body
unfolding member body_in
either_back true body rest small none = refl
either_back false body rest small none = rw none (decoded body small)

body_back : (body : List ℕ) (rest : List Token) → All (λ x. x < 256) body → member (codes "body") rest ≡ None
    → body_in (body_member true body ++ rest) ≡ Some body
unfolding body_member
body_back body rest small none = either_back (is_utf8 body) body rest small none

-- ---- a list of answers has one end

either_list : (b : Bool) (text coded : List ℕ) (rest : List Token)
    → after_list ((if b then text_member (codes "body") text else text_member (codes "bodyBase64") coded) ++ rest) ≡ after_list rest
unfolding after_list
either_list true text coded rest = refl
either_list false text coded rest = refl

body_list : (bodies : Bool) (body : List ℕ) (rest more : List Token) → after_list ((body_member bodies body ++ rest) ++ more) ≡ after_list (rest ++ more)
unfolding body_member after_list
body_list false body rest more = refl
body_list true body rest more =
    ap after_list
    (append_assoc (if is_utf8 body then text_member (codes "body") body else text_member (codes "bodyBase64") (encode_of standard body)) rest more)
    ∙ either_list (is_utf8 body) body (encode_of standard body) (rest ++ more)

answer_past : (bodies : Bool) (salt : ℕ) (h : List Entry) (t : ℕ) (answer : Answer) (more : List Token)
    → after_list (answer_object bodies salt h t answer ++ more) ≡ after_list more
unfolding after_list answer_object
answer_past bodies salt h t (Delivered p deadline) more = body_list bodies _ _ more
answer_past bodies salt h t (Told p deadline event) more = refl
answer_past bodies salt h t (Ending reason until event) more = refl
answer_past bodies salt h t (Registered count) more = refl
answer_past bodies salt h t Accepted more = refl
answer_past bodies salt h t Done more = refl
answer_past bodies salt h t (Output source) more = body_list bodies _ _ more
answer_past bodies salt h t (Error source) more = body_list bodies _ _ more
answer_past bodies salt h t TimedOut more = refl
answer_past bodies salt h t InitTimedOut more = refl
answer_past bodies salt h t OutputTooLarge more = refl
answer_past bodies salt h t (Throttled reason) more = refl
answer_past bodies salt h t Stopped more = refl
answer_past bodies salt h t Withdrawn more = refl
answer_past bodies salt h t (Refused refusal) more = refl
answer_past bodies salt h t (Reserved count) more = refl
answer_past bodies salt h t Unreserved more = refl

regroup : (a b c d : List Token) → ((a ++ b) ++ c) ++ d ≡ a ++ ((b ++ c) ++ d)
regroup a b c d = simp append_assoc

answers_past : (bodies : Bool) (salt : ℕ) (h : List Entry) (pairs : List (ℕ × Answer)) (more : List Token)
    → after_list ((flat_map (λ a. answer_object bodies salt h a.0 a.1) pairs ++ end_array ∷ []) ++ more) ≡ more
unfolding after_list
answers_past bodies salt h [] more = refl
answers_past bodies salt h (a ∷ pairs) more =
    ap after_list (regroup (answer_object bodies salt h a.0 a.1) (flat_map (λ a. answer_object bodies salt h a.0 a.1) pairs) (end_array ∷ []) more)
    ∙ answer_past bodies salt h a.0 a.1 _
    ∙ answers_past bodies salt h pairs more

-- ---- the object of a call has one end

either_object : (b : Bool) (text coded : List ℕ) (rest : List Token)
    → after_object ((if b then text_member (codes "body") text else text_member (codes "bodyBase64") coded) ++ rest) ≡ after_object rest
unfolding after_object
either_object true text coded rest = refl
either_object false text coded rest = refl

body_object : (body : List ℕ) (rest more : List Token) → after_object ((body_member true body ++ rest) ++ more) ≡ after_object (rest ++ more)
unfolding body_member
body_object body rest more =
    ap after_object
    (append_assoc (if is_utf8 body then text_member (codes "body") body else text_member (codes "bodyBase64") (encode_of standard body)) rest more)
    ∙ either_object (is_utf8 body) body (encode_of standard body) (rest ++ more)

call_past : (config : Config) (call : Call) (more : List Token) → after_object (call_object true config call ++ more) ≡ more
unfolding after_object call_object
call_past config (Invoke f qualified None body) more = body_object body _ more
call_past config (Invoke f qualified (Some trace) body) more = body_object body _ more
call_past config (RuntimeNext e) more = refl
call_past config (Response e id body) more = body_object body _ more
call_past config (ResponseTooLarge e id) more = refl
call_past config (Failure e id body) more = body_object body _ more
call_past config (InitFailure e body) more = body_object body _ more
call_past config (Register e name invoke shutdown account) more = refl
call_past config (ExtNext e x) more = refl
call_past config (ExtInitFailure e x body) more = body_object body _ more
call_past config (ExtExitFailure e x body) more = body_object body _ more
call_past config Tick more = refl
call_past config (Withdraw t) more = refl
call_past config (Spindown e) more = refl
call_past config Stop more = refl
call_past config (Expire e) more = refl
call_past config (Reserve f None) more = refl
call_past config (Reserve f (Some count)) more = refl

-- ---- a report

-- the tokens of a report behind its body
abbrev behind : List ℕ → List ℕ → ℕ → ℕ → List Token → List Token
behind word named e n more =
    key (codes "environment") ∷ number (decimal e) ∷ key named ∷ number (decimal n) ∷ key (codes "kind") ∷ string word ∷ end_object ∷ more

-- the names that a count can have
record IsCountName (named : List ℕ) : Type 0 where
  not_body : bytes_eq named (codes "body") ≡ false
  not_kind : bytes_eq named (codes "kind") ≡ false
  body_not : bytes_eq (codes "body") named ≡ false
  coded_not : bytes_eq (codes "bodyBase64") named ≡ false
  environment_not : bytes_eq (codes "environment") named ≡ false
  itself : bytes_eq named named ≡ true

report_kind : (word named body : List ℕ) (e n : ℕ) (more : List Token) → IsCountName named
    → member (codes "kind") (body_member true body ++ behind word named e n more) ≡ Some (string word)
unfolding member
report_kind word named body e n more is =
    past_body (codes "kind") body (behind word named e n more) refl refl ∙ rw is.not_kind refl

report_again : (word named body : List ℕ) (e n : ℕ) (more : List Token) → IsCountName named → e < 2 ^ 64 → n < 2 ^ 64 → All (λ x. x < 256) body
    → report_in named (body_member true body ++ behind word named e n more) ≡ Some (e, n, body)
unfolding member report_in counted_in
report_again word named body e n more is small_e small_n small =
    let none : member (codes "body") (behind word named e n more) ≡ None = rw is.not_body refl in
    let count : member named (behind word named e n more) ≡ Some (number (decimal n)) = rw (is.environment_not, is.itself) refl in
    rw (
      past_body (codes "environment") body (behind word named e n more) refl refl,
      past_body named body (behind word named e n more) is.body_not is.coded_not,
      count,
      body_back body (behind word named e n more) small none,
      number_again e small_e,
      number_again n small_n,
    ) refl

an_id : IsCountName (codes "id")
an_id = record { not_body = refl; not_kind = refl; body_not = refl; coded_not = refl; environment_not = refl; itself = refl }

an_extension : IsCountName (codes "extension")
an_extension = record { not_body = refl; not_kind = refl; body_not = refl; coded_not = refl; environment_not = refl; itself = refl }

-- ---- each call

invoked_again : (config : Config) (f : ℕ) (qualified : Bool) (trace : Option (List ℕ)) (body : List ℕ) (more : List Token) → first_fault config ≡ None
    → IsFunction config f → All (λ x. x < 256) body
    → call_in config (body_member true body ++ key (codes "function") ∷ string (function_at config f).name ∷ key (codes "kind") ∷ string (codes "invoke")
    ∷ key (codes "qualified") ∷ boolean qualified ∷ (trace_if trace ++ end_object ∷ more)) ≡ Some (Invoke f qualified trace body)
unfolding member call_in call_by_kind invoke_in
invoked_again config f qualified None body more sound is small =
    let z : List Token = key (codes "function") ∷ string (function_at config f).name ∷ key (codes "kind") ∷ string (codes "invoke") ∷ key (codes "qualified") ∷ boolean qualified ∷ end_object ∷ more in
    rw (
      past_body (codes "kind") body z refl refl,
      past_body (codes "function") body z refl refl,
      past_body (codes "qualified") body z refl refl,
      past_body (codes "trace") body z refl refl,
      body_back body z small refl,
      named_once config f sound is.0 is.1,
    ) refl
invoked_again config f qualified (Some trace) body more sound is small =
    let z : List Token = key (codes "function") ∷ string (function_at config f).name ∷ key (codes "kind") ∷ string (codes "invoke") ∷ key (codes "qualified") ∷ boolean qualified ∷ key (codes "trace") ∷ string trace ∷ end_object ∷ more in
    rw (
      past_body (codes "kind") body z refl refl,
      past_body (codes "function") body z refl refl,
      past_body (codes "qualified") body z refl refl,
      past_body (codes "trace") body z refl refl,
      body_back body z small refl,
      named_once config f sound is.0 is.1,
    ) refl

invoked_groups : (config : Config) (f : ℕ) (qualified : Bool) (trace : Option (List ℕ)) (body : List ℕ) (more : List Token)
    → drop 1 (call_object true config (Invoke f qualified trace body) ++ more) ≡ body_member true body ++ key (codes "function") ∷ string (function_at config f).name ∷ key (codes "kind") ∷ string (codes "invoke")
    ∷ key (codes "qualified") ∷ boolean qualified ∷ (trace_if trace ++ end_object ∷ more)
unfolding call_object
invoked_groups config f qualified None body more = append_assoc (body_member true body) _ more
invoked_groups config f qualified (Some trace) body more = append_assoc (body_member true body) _ more

init_failed_again : (config : Config) (e : ℕ) (body : List ℕ) (more : List Token) → e < 2 ^ 64 → All (λ x. x < 256) body
    → call_in config (body_member true body ++ key (codes "environment") ∷ number (decimal e) ∷ key (codes "kind") ∷ string (codes "init-failure") ∷ end_object ∷ more) ≡ Some (InitFailure e body)
unfolding member call_in call_by_kind runtime_call_in init_failure_in
init_failed_again config e body more small_e small =
    let z : List Token = key (codes "environment") ∷ number (decimal e) ∷ key (codes "kind") ∷ string (codes "init-failure") ∷ end_object ∷ more in
    rw (past_body (codes "kind") body z refl refl, past_body (codes "environment") body z refl refl, body_back body z small refl, number_again e small_e) refl

call_again : (config : Config) (call : Call) (more : List Token) → first_fault config ≡ None → IsTold config call → All (λ x. x < 256) (body_of call)
    → call_in config (drop 1 (call_object true config call ++ more)) ≡ Some call
unfolding member call_object call_in call_by_kind runtime_call_in extension_call_in counted_in register_in reserve_in
call_again config (Invoke f qualified trace body) more sound (is_f, is_t, is_b) small =
    ap (call_in config) (invoked_groups config f qualified trace body more) ∙ invoked_again config f qualified trace body more sound is_f small
call_again config (RuntimeNext e) more sound is small = rw (number_again e (env_small config e sound is)) refl
call_again config (Response e n body) more sound (is_e, is_n, is_b) small =
    ap (call_in config) (append_assoc (body_member true body) _ more)
    ∙ rw
    (report_kind (codes "response") (codes "id") body e n more an_id, report_again (codes "response") (codes "id") body e n more an_id (env_small config e sound is_e) (omega arith) small) refl
call_again config (ResponseTooLarge e n) more sound (is_e, is_n) small = rw (number_again e (env_small config e sound is_e), number_again n (omega arith)) refl
call_again config (Failure e n body) more sound (is_e, is_n, is_b) small =
    ap (call_in config) (append_assoc (body_member true body) _ more)
    ∙ rw
    (report_kind (codes "failure") (codes "id") body e n more an_id, report_again (codes "failure") (codes "id") body e n more an_id (env_small config e sound is_e) (omega arith) small) refl
call_again config (InitFailure e body) more sound (is_e, is_b) small =
    ap (call_in config) (append_assoc (body_member true body) _ more) ∙ init_failed_again config e body more (env_small config e sound is_e) small
call_again config (Register e name invoke shutdown account) more sound (is_e, is_n) small = rw (number_again e (env_small config e sound is_e)) refl
call_again config (ExtNext e x) more sound (is_e, is_x) small = rw (number_again e (env_small config e sound is_e), number_again x (omega arith)) refl
call_again config (ExtInitFailure e n body) more sound (is_e, is_n, is_b) small =
    ap (call_in config) (append_assoc (body_member true body) _ more)
    ∙ rw
    (report_kind (codes "ext-init-failure") (codes "extension") body e n more an_extension, report_again (codes "ext-init-failure") (codes "extension") body e n more an_extension (env_small config e sound is_e) (omega arith) small) refl
call_again config (ExtExitFailure e n body) more sound (is_e, is_n, is_b) small =
    ap (call_in config) (append_assoc (body_member true body) _ more)
    ∙ rw
    (report_kind (codes "ext-exit-failure") (codes "extension") body e n more an_extension, report_again (codes "ext-exit-failure") (codes "extension") body e n more an_extension (env_small config e sound is_e) (omega arith) small) refl
call_again config Tick more sound is small = refl
call_again config (Withdraw t) more sound is small = rw (number_again t (omega arith)) refl
call_again config (Spindown e) more sound is small = rw (number_again e (env_small config e sound is)) refl
call_again config Stop more sound is small = refl
call_again config (Expire e) more sound is small = rw (number_again e (env_small config e sound is)) refl
call_again config (Reserve f None) more sound (is_f, is_c) small = rw (named_once config f sound is_f.0 is_f.1) refl
call_again config (Reserve f (Some count)) more sound (is_f, is_c) small = rw (number_again count (omega arith), named_once config f sound is_f.0 is_f.1) refl

-- ---- the whole object

moment_again : (charged expires : Option ℕ) (moment : ℕ) (more : List Token)
    → member (codes "moment") (number_if (codes "charged") charged ++ (number_if (codes "expires") expires ++ (key (codes "moment") ∷ number (decimal moment) ∷ more))) ≡ Some (number (decimal moment))
unfolding member
moment_again None None moment more = refl
moment_again None (Some e) moment more = refl
moment_again (Some t) None moment more = refl
moment_again (Some t) (Some e) moment more = refl

entry_again : (config : Config) (ts after more : List Token) (call : Call) (moment : ℕ) → after_list ts ≡ key (codes "call") ∷ after
    → call_in config (drop 1 after) ≡ Some call → after_object after ≡ more → member (codes "moment") more ≡ Some (number (decimal moment)) → moment < 2 ^ 64
    → entry_in config ts ≡ Some (moment, call)
unfolding entry_in after_object
entry_again config ts after more call moment list is_call object is_moment small = rw (list, is_call, object, is_moment, number_again moment small) refl

pub read_back : (config : Config) (salt : ℕ) (h : List Entry) (ticket : ℕ) (entry : Entry) (turns : List Turn)
    → first_fault config ≡ None → entry.moment ≤ greatest_moment → IsTold config entry.call → All (λ b. b < 256) (body_of entry.call)
    → entry_in config (told true config salt h ticket entry turns) ≡ Some (entry.moment, entry.call)
unfolding told after_list
read_back config salt h ticket entry turns sound early is small =
    entry_again config _ _ _ entry.call entry.moment (answers_past true salt h entry.answers _)
    (call_again config entry.call _ sound is small) (call_past config entry.call _)
    (moment_again (charged_at ticket entry.place) (expired entry.call) entry.moment _) (omega arith)

pub written_again : (config : Config) (salt : ℕ) (h older : List Entry) (entry : Entry)
    → first_fault config ≡ None → entry.moment ≤ greatest_moment → IsTold config entry.call → All (λ b. b < 256) (body_of entry.call)
    → tokens (print (object_tokens true config salt h older entry)) ≡ object_tokens true config salt h older entry
    → line_in config (print (object_tokens true config salt h older entry)) ≡ Some (call_text config entry.moment entry.call)
written_again config salt h older entry sound early is small reads =
    ap (λ (ts : List Token). option_map (λ (timed : ℕ × Call). call_text config timed.0 timed.1) (entry_in config ts)) reads
    ∙ ap (option_map (λ (timed : ℕ × Call). call_text config timed.0 timed.1))
    (read_back config salt h (length older) entry (turns_at config older entry) sound early is small)

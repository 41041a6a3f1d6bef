-- What a line says is within the limits.
use Rattle.std.proofs.Common.{◌≡◌, ℕ, ◌-◌, ◌≤◌, Bool, true, ◌&&◌}
use Rattle.std.proofs.Common.{List, [], ◌∷◌, codes, bytes_eq, Option, Some, None, Result, Ok, Err}
use Rattle.std.proofs.Common.{IfOk, subst, sym, option_map}
use Rattle.std.specs.Option.{IfSome}
use Rattle.arn_ids.specs.Words.{is_label}
use Rattle.arn_ids.specs.Environments.{number_named}
use Rattle.arn_ids.specs.declared.config.Config.{Config}
use Rattle.call_types.specs.declared.call.Call.{Call}
use Rattle.call_types.specs.declared.call.Call.TheVariants.{Tick, Stop}
use Rattle.arn_ids.specs.Numbers.{number_in, env_in}
use Rattle.arn_ids.specs.Limits.{greatest_moment, greatest_count, greatest_ticket, greatest_reservation}
use Rattle.call_types.specs.Within.{is_body, is_trace, IsEnv, IsFunction, IsCount, IsTrace, IsReservation, IsWithin, IsTimed}
use Rattle.script.specs.TextFields.{text_in, text_that, body_in, name_in, trace_in}
use Rattle.script.specs.Lines.{fields, one_field, two_fields, three_fields, four_fields, alone, count_in, flag_in}
use Rattle.script.specs.Lines.{events_in, reservation_in, invoke_in, lone_env_in, env_and_count_in, report_in}
use Rattle.script.specs.Lines.{init_failure_in, register_in, withdraw_in, reserve_in, extension_call_in}
use Rattle.script.specs.Lines.{runtime_call_in, call_by_word, timed_call_in, call_in}
use Rattle.call_types.proofs.Within.{Anything, Gives, nothing, gives, anything, and_then, mapped, either, where_true, number_within, env_within, named_within}

text_passes : (passes : List ℕ → Bool) (field : List ℕ) → Gives (text_that passes field) (λ text. passes text ≡ true)
text_passes passes field = and_then Anything (text_in field) _ (anything (text_in field)) (λ text _. where_true (passes text) text (λ t. t))

trace_within : (field : List ℕ) → Gives (trace_in field) IsTrace
trace_within field =
    either (bytes_eq field (codes "-")) (Some None) (option_map Some (text_that is_trace field)) (gives None tt)
    (mapped (λ text. is_trace text ≡ true) (text_that is_trace field) Some (text_passes is_trace field) (λ text t. t))

reservation_within : (field : List ℕ) → Gives (reservation_in field) IsReservation
reservation_within field =
    either (bytes_eq field (codes "-")) (Some None) (option_map Some (number_in greatest_reservation field))
    (gives None tt)
    (mapped (λ n. n ≤ greatest_reservation) (number_in greatest_reservation field) Some (number_within greatest_reservation field) (λ n t. t))

invoke_within : (config : Config) (line : List (List ℕ)) → Gives (invoke_in config line) (IsWithin config)
unfolding invoke_in
invoke_within config line =
    and_then Anything (four_fields line) _ (anything (four_fields line)) (λ four _.
    and_then (IsFunction config) (number_named config four.0) _ (named_within config four.0) (λ f is_f.
    and_then Anything (flag_in (codes "q") four.1) _ (anything (flag_in (codes "q") four.1)) (λ qualified _.
    and_then IsTrace (trace_in four.2) _ (trace_within four.2) (λ trace is_t.
    and_then (λ body. is_body body ≡ true) (body_in four.3) _ (text_passes is_body four.3) (λ body is_b. gives _ (is_f, is_t, is_b))))))

lone_env_within : (config : Config) (line : List (List ℕ)) → Gives (lone_env_in config line) (IsEnv config)
unfolding lone_env_in
lone_env_within config line = and_then Anything (one_field line) _ (anything (one_field line)) (λ field _. env_within config field)

env_and_count_within : (config : Config) (line : List (List ℕ)) → Gives (env_and_count_in config line) (λ two. IsEnv config two.0 × IsCount two.1)
unfolding env_and_count_in
env_and_count_within config line =
    and_then Anything (two_fields line) _ (anything (two_fields line)) (λ two _.
    and_then (IsEnv config) (env_in config two.0) _ (env_within config two.0) (λ e is_e.
    and_then IsCount (count_in two.1) _ (number_within greatest_count two.1) (λ n is_n. gives _ (is_e, is_n))))

report_within : (config : Config) (line : List (List ℕ))
    → Gives (report_in config line) (λ report. IsEnv config report.0 × IsCount report.1 × (is_body report.2 ≡ true))
unfolding report_in
report_within config line =
    and_then Anything (three_fields line) _ (anything (three_fields line)) (λ three _.
    and_then (IsEnv config) (env_in config three.0) _ (env_within config three.0) (λ e is_e.
    and_then IsCount (count_in three.1) _ (number_within greatest_count three.1) (λ n is_n.
    and_then (λ body. is_body body ≡ true) (body_in three.2) _ (text_passes is_body three.2) (λ body is_b. gives _ (is_e, is_n, is_b)))))

init_failure_within : (config : Config) (line : List (List ℕ)) → Gives (init_failure_in config line) (IsWithin config)
unfolding init_failure_in
init_failure_within config line =
    and_then Anything (two_fields line) _ (anything (two_fields line)) (λ two _.
    and_then (IsEnv config) (env_in config two.0) _ (env_within config two.0) (λ e is_e.
    and_then (λ body. is_body body ≡ true) (body_in two.1) _ (text_passes is_body two.1) (λ body is_b. gives _ (is_e, is_b))))

register_within : (config : Config) (line : List (List ℕ)) → Gives (register_in config line) (IsWithin config)
unfolding register_in
register_within config line =
    and_then Anything (four_fields line) _ (anything (four_fields line)) (λ four _.
    and_then (IsEnv config) (env_in config four.0) _ (env_within config four.0) (λ e is_e.
    and_then (λ name. is_label name ≡ true) (name_in four.1) _ (text_passes is_label four.1) (λ name is_n.
    and_then Anything (events_in four.2) _ (anything (events_in four.2)) (λ events _.
    and_then Anything (flag_in (codes "a") four.3) _ (anything (flag_in (codes "a") four.3)) (λ account _. gives _ (is_e, is_n))))))

withdraw_within : (config : Config) (line : List (List ℕ)) → Gives (withdraw_in line) (IsWithin config)
unfolding withdraw_in
withdraw_within config line =
    and_then Anything (one_field line) _ (anything (one_field line)) (λ field _.
    and_then (λ t. t ≤ greatest_ticket) (number_in greatest_ticket field) _ (number_within greatest_ticket field) (λ t is_t. gives _ is_t))

reserve_within : (config : Config) (line : List (List ℕ)) → Gives (reserve_in config line) (IsWithin config)
unfolding reserve_in
reserve_within config line =
    and_then Anything (two_fields line) _ (anything (two_fields line)) (λ two _.
    and_then (IsFunction config) (number_named config two.0) _ (named_within config two.0) (λ f is_f.
    and_then IsReservation (reservation_in two.1) _ (reservation_within two.1) (λ count is_c. gives _ (is_f, is_c))))

alone_within : (config : Config) (call : Call) (line : List (List ℕ)) → IsWithin config call → Gives (alone call line) (IsWithin config)
alone_within config call [] h = gives call h
alone_within config call (a ∷ more) h = nothing

extension_call_within : (config : Config) (word : List ℕ) (line : List (List ℕ)) → Gives (extension_call_in config word line) (IsWithin config)
unfolding extension_call_in
extension_call_within config word line =
    let report = report_within config line in
    either (bytes_eq word (codes "register")) _ _ (register_within config line)
    (either (bytes_eq word (codes "ext-next")) _ _ (mapped _ (env_and_count_in config line) _ (env_and_count_within config line) (λ two t. t))
    (either (bytes_eq word (codes "ext-init-failure")) _ _ (mapped _ (report_in config line) _ report (λ r t. t))
    (either (bytes_eq word (codes "ext-exit-failure")) _ _ (mapped _ (report_in config line) _ report (λ r t. t)) nothing)))

runtime_call_within : (config : Config) (word : List ℕ) (line : List (List ℕ)) → Gives (runtime_call_in config word line) (IsWithin config)
unfolding runtime_call_in
runtime_call_within config word line =
    let report = report_within config line in
    either (bytes_eq word (codes "next")) _ _ (mapped _ (lone_env_in config line) _ (lone_env_within config line) (λ e t. t))
    (either (bytes_eq word (codes "response")) _ _ (mapped _ (report_in config line) _ report (λ r t. t))
    (either (bytes_eq word (codes "response-too-large")) _ _ (mapped _ (env_and_count_in config line) _ (env_and_count_within config line) (λ two t. t))
    (either (bytes_eq word (codes "failure")) _ _ (mapped _ (report_in config line) _ report (λ r t. t))
    (either (bytes_eq word (codes "init-failure")) _ _ (init_failure_within config line) (extension_call_within config word line)))))

call_within : (reserves : Bool) (config : Config) (word : List ℕ) (line : List (List ℕ)) → Gives (call_by_word reserves config word line) (IsWithin config)
unfolding call_by_word
call_within reserves config word line =
    either (bytes_eq word (codes "invoke")) _ _ (invoke_within config line)
    (either (bytes_eq word (codes "tick")) _ _ (alone_within config Tick line tt)
    (either (bytes_eq word (codes "stop")) _ _ (alone_within config Stop line tt)
    (either (bytes_eq word (codes "spindown")) _ _ (mapped _ (lone_env_in config line) _ (lone_env_within config line) (λ e t. t))
    (either (bytes_eq word (codes "withdraw")) _ _ (withdraw_within config line)
    (either (bytes_eq word (codes "reserve") && reserves) _ _ (reserve_within config line) (runtime_call_within config word line))))))

timed_within : (reserves : Bool) (config : Config) (line : List (List ℕ)) → Gives (timed_call_in reserves config line) (IsTimed config)
timed_within reserves config [] = nothing
timed_within reserves config (moment ∷ []) = nothing
timed_within reserves config (moment ∷ word ∷ line) =
    and_then (λ m. m ≤ greatest_moment) (number_in greatest_moment moment) _ (number_within greatest_moment moment) (λ m small.
    and_then (IsWithin config) (call_by_word reserves config word line) _ (call_within reserves config word line) (λ call within. gives _ (small, within)))

-- The moment and the call of a line are within the limits.
pub call_in_within : (reserves : Bool) (config : Config) (line : List ℕ) → IfSome (call_in reserves config line) (IsTimed config)
unfolding call_in
call_in_within reserves config line = (timed_within reserves config (fields line)).holds

pub read_within : {E : Type 0} (r : Result (Option (ℕ × Call)) E) (reserves : Bool) (config : Config) (line : List ℕ)
    → IfOk r (λ call. call ≡ call_in reserves config line) → IfOk r (λ call. IfSome call (IsTimed config))
read_within (Ok call) reserves config line e =
    let P : Option (ℕ × Call) → Type 0 = λ call. IfSome call (IsTimed config) in subst P (sym e) (call_in_within reserves config line)
read_within (Err error) reserves config line e = tt

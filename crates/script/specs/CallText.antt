-- The text line of a call.
use Rattle.std.specs.Prelude.{ℕ, Bool, if◌then◌else◌, List, [], ◌∷◌, ◌++◌, codes, Option, Some, None, decimal}
use Rattle.std.specs.List.{flat_map}
use Rattle.arn_ids.specs.Environments.{function_at}
use Rattle.arn_ids.specs.declared.config.Config.{Config}
use Rattle.call_types.specs.declared.call.Call.{Call}
use Rattle.call_types.specs.declared.call.Call.TheVariants.{Invoke, RuntimeNext, Response, ResponseTooLarge, Failure}
use Rattle.call_types.specs.declared.call.Call.TheVariants.{InitFailure, Register, ExtNext, ExtInitFailure}
use Rattle.call_types.specs.declared.call.Call.TheVariants.{ExtExitFailure, Tick, Withdraw, Spindown, Stop}
use Rattle.call_types.specs.declared.call.Call.TheVariants.{Expire, Reserve}
use Rattle.script.specs.TextFields.{text_field}

-- The words with one space between each two.
abbrev pub line_of : List (List ℕ) → List ℕ
line_of [] = []
line_of (word ∷ words) = word ++ flat_map (λ w. 32 ∷ w) words

-- The word for a text, or a dash if there is no text.
abbrev pub or_dash : (List ℕ → List ℕ) → Option (List ℕ) → List ℕ
or_dash word None = codes "-"
or_dash word (Some text) = word text

-- The word for a flag: the given word if it is set, and a dash otherwise.
abbrev pub flag : List ℕ → Bool → List ℕ
flag word set = if set then word else codes "-"

-- The word for the events that an extension registers for: `i` for INVOKE, `s` for SHUTDOWN, `is` for both, a dash for
-- neither.
abbrev pub events : Bool → Bool → List ℕ
events invoke shutdown = if invoke then (if shutdown then codes "is" else codes "i") else flag (codes "s") shutdown

-- The word for a reservation: its number, or a dash if it is removed.
abbrev pub reservation : Option ℕ → List ℕ
reservation None = codes "-"
reservation (Some count) = decimal count

-- The words of a call after its moment: its name and its arguments.
unfoldable pub call_words : Config → Call → List (List ℕ)
call_words config (Invoke f qualified trace body) =
    codes "invoke" ∷ (function_at config f).name ∷ flag (codes "q") qualified ∷ or_dash text_field trace
    ∷ text_field body ∷ []
call_words config (RuntimeNext e) = codes "next" ∷ decimal e ∷ []
call_words config (Response e id body) = codes "response" ∷ decimal e ∷ decimal id ∷ text_field body ∷ []
call_words config (ResponseTooLarge e id) = codes "response-too-large" ∷ decimal e ∷ decimal id ∷ []
call_words config (Failure e id body) = codes "failure" ∷ decimal e ∷ decimal id ∷ text_field body ∷ []
call_words config (InitFailure e body) = codes "init-failure" ∷ decimal e ∷ text_field body ∷ []
call_words config (Register e name invoke shutdown account) =
    codes "register" ∷ decimal e ∷ text_field name ∷ events invoke shutdown ∷ flag (codes "a") account ∷ []
call_words config (ExtNext e x) = codes "ext-next" ∷ decimal e ∷ decimal x ∷ []
call_words config (ExtInitFailure e x body) = codes "ext-init-failure" ∷ decimal e ∷ decimal x ∷ text_field body ∷ []
call_words config (ExtExitFailure e x body) = codes "ext-exit-failure" ∷ decimal e ∷ decimal x ∷ text_field body ∷ []
call_words config Tick = codes "tick" ∷ []
call_words config (Withdraw t) = codes "withdraw" ∷ decimal t ∷ []
call_words config (Spindown e) = codes "spindown" ∷ decimal e ∷ []
call_words config Stop = codes "stop" ∷ []
call_words config (Expire e) = codes "expire" ∷ decimal e ∷ []
call_words config (Reserve f count) = codes "reserve" ∷ (function_at config f).name ∷ reservation count ∷ []

-- The text before the moment: `## ` for an expiry, which is a comment since no script contains it; otherwise nothing.
abbrev pub before_moment : Call → List ℕ
before_moment (Expire e) = codes "## "
before_moment _ = []

-- The line of a call at a moment, without its line ending.
unfoldable pub call_text : Config → ℕ → Call → List ℕ
call_text config moment call = before_moment call ++ line_of (decimal moment ∷ call_words config call)

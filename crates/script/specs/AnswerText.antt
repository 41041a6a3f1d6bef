-- The text lines of answers.
use Rattle.std.specs.Prelude.{ℕ, List, [], ◌∷◌, ◌++◌, codes, decimal}
use Rattle.std.specs.List.{flat_map}
use Rattle.arn_ids.specs.declared.identifiers.IdKind.TheVariants.{Extension, Event}
use Rattle.arn_ids.specs.declared.config.Config.{Config}
use Rattle.call_types.specs.declared.call.Entry.{Entry}
use Rattle.call_types.specs.declared.answer.Answer.{Answer}
use Rattle.call_types.specs.declared.answer.Answer.TheVariants.{Delivered, Told, Ending, Registered, Accepted, Done}
use Rattle.call_types.specs.declared.answer.Answer.TheVariants.{Output, Error, TimedOut, InitTimedOut, OutputTooLarge}
use Rattle.call_types.specs.declared.answer.Answer.TheVariants.{Throttled, Stopped, Withdrawn, Refused}
use Rattle.call_types.specs.declared.answer.Answer.TheVariants.{Reserved, Unreserved}
use Rattle.call_model.specs.History.{call_of}
use Rattle.call_model.specs.Identifiers.{request_word, env_word}
use Rattle.call_types.specs.Calls.{body_of}
use Rattle.call_types.specs.Words.{reason_word, refusal_word, throttle_word}
use Rattle.script.specs.CallText.{line_of, call_text}
use Rattle.script.specs.TextFields.{text_field}

-- The text field with the bytes of the call with a ticket.
abbrev pub body_word : List Entry → ℕ → List ℕ
body_word h t = text_field (body_of (call_of h t))

-- The words of an answer to a ticket: its kind, then its arguments.
unfoldable pub answer_words : ℕ → List Entry → ℕ → Answer → List (List ℕ)
answer_words salt h t (Delivered p deadline) =
    codes "deliver" ∷ request_word salt h p ∷ decimal deadline ∷ body_word h p ∷ []
answer_words salt h t (Told p deadline event) =
    codes "tell" ∷ env_word salt Event h t event ∷ request_word salt h p ∷ decimal deadline ∷ []
answer_words salt h t (Ending reason until event) =
    codes "shutdown" ∷ env_word salt Event h t event ∷ reason_word reason ∷ decimal until ∷ []
answer_words salt h t (Registered count) = codes "registered" ∷ env_word salt Extension h t count ∷ []
answer_words salt h t Accepted = codes "accepted" ∷ []
answer_words salt h t Done = codes "done" ∷ []
answer_words salt h t (Output source) = codes "output" ∷ body_word h source ∷ []
answer_words salt h t (Error source) = codes "error" ∷ body_word h source ∷ []
answer_words salt h t TimedOut = codes "timeout" ∷ []
answer_words salt h t InitTimedOut = codes "init-timeout" ∷ []
answer_words salt h t OutputTooLarge = codes "too-large-output" ∷ []
answer_words salt h t (Throttled reason) = codes "throttled" ∷ throttle_word reason ∷ []
answer_words salt h t Stopped = codes "stopped" ∷ []
answer_words salt h t Withdrawn = codes "withdrawn" ∷ []
answer_words salt h t (Refused refusal) = codes "refused" ∷ refusal_word refusal ∷ []
answer_words salt h t (Reserved count) = codes "reserved" ∷ decimal count ∷ []
answer_words salt h t Unreserved = codes "unreserved" ∷ []

-- The line of an answer: the number of the entry that gave it, the ticket that got it, and its words. It ends with a
-- line feed.
unfoldable pub answer_line : ℕ → List Entry → ℕ → ℕ → Answer → List ℕ
answer_line salt h number t answer = line_of (decimal number ∷ decimal t ∷ answer_words salt h t answer) ++ 10 ∷ []

-- The lines of an entry's answers, in their order.
unfoldable pub answer_lines : ℕ → List Entry → ℕ → Entry → List ℕ
answer_lines salt h number entry = flat_map (λ a. answer_line salt h number a.0 a.1) entry.answers

-- The line of an answer in a history, written as a comment: `# ` and the line.
abbrev pub comment_line : ℕ → List Entry → ℕ → ℕ × Answer → List ℕ
comment_line salt h number a = codes "# " ++ answer_line salt h number a.0 a.1

-- The text of an entry in a history: the line of its call, and the comment lines of its answers.
unfoldable pub entry_text : Config → ℕ → List Entry → ℕ → Entry → List ℕ
entry_text config salt h number entry =
    call_text config entry.moment entry.call ++ 10 ∷ flat_map (comment_line salt h number) entry.answers

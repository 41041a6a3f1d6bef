-- The object of an answer: the ticket that it answers, and the words of its line by their names. What a line has as the
-- text of another call's body is here also named by that call's ticket (`invoke`, `source`).
use Rattle.std.specs.Prelude.{ℕ, Bool, List, [], ◌∷◌, codes}
use Rattle.arn_ids.specs.declared.identifiers.IdKind.TheVariants.{Extension, Event}
use Rattle.call_types.specs.Calls.{body_of}
use Rattle.call_types.specs.Words.{reason_word, refusal_word, throttle_word}
use Rattle.call_types.specs.declared.answer.Answer.{Answer}
use Rattle.call_types.specs.declared.answer.Answer.TheVariants.{Delivered, Told, Ending, Registered, Accepted, Done}
use Rattle.call_types.specs.declared.answer.Answer.TheVariants.{Output, Error, TimedOut, InitTimedOut, OutputTooLarge}
use Rattle.call_types.specs.declared.answer.Answer.TheVariants.{Throttled, Stopped, Withdrawn, Refused}
use Rattle.call_types.specs.declared.answer.Answer.TheVariants.{Reserved, Unreserved}
use Rattle.call_types.specs.declared.call.Entry.{Entry}
use Rattle.call_model.specs.History.{call_of}
use Rattle.call_model.specs.Identifiers.{request_word, env_word}
use Rattle.json.specs.Token.{Token}
use Rattle.trace.specs.Members.{object, text_member, number_member, body_member}

-- The member with the answer's word, as scripts have it.
abbrev pub answer : List ℕ → List Token
answer word = text_member (codes "answer") word

-- The member with the ticket that is answered.
abbrev pub ticket : ℕ → List Token
ticket t = number_member (codes "ticket") t

-- The member with the bytes of the call with a ticket.
abbrev pub body_at : Bool → List Entry → ℕ → List Token
body_at bodies h t = body_member bodies (body_of (call_of h t))

-- An answer that has no more than its word.
abbrev pub bare : List ℕ → ℕ → List Token
bare word t = object (answer word ∷ ticket t ∷ [])

-- An answer with its reason.
abbrev pub reasoned : List ℕ → List ℕ → ℕ → List Token
reasoned word reason t = object (answer word ∷ text_member (codes "reason") reason ∷ ticket t ∷ [])

-- An answer with the bytes of the call with the ticket `source`.
abbrev pub carried : Bool → List Entry → List ℕ → ℕ → ℕ → List Token
carried bodies h word source t =
    object (answer word ∷ body_at bodies h source ∷ number_member (codes "source") source ∷ ticket t ∷ [])

-- The object of the answer to ticket `t`, in the history `h`.
unfoldable pub answer_object : Bool → ℕ → List Entry → ℕ → Answer → List Token
answer_object bodies salt h t (Delivered p deadline) =
    object (answer (codes "deliver") ∷ body_at bodies h p ∷ number_member (codes "deadline") deadline
    ∷ number_member (codes "invoke") p ∷ text_member (codes "request") (request_word salt h p) ∷ ticket t ∷ [])
answer_object bodies salt h t (Told p deadline event) =
    object (answer (codes "tell") ∷ number_member (codes "deadline") deadline
    ∷ text_member (codes "event") (env_word salt Event h t event) ∷ number_member (codes "invoke") p
    ∷ text_member (codes "request") (request_word salt h p) ∷ ticket t ∷ [])
answer_object bodies salt h t (Ending reason until event) =
    object (answer (codes "shutdown") ∷ number_member (codes "deadline") until
    ∷ text_member (codes "event") (env_word salt Event h t event)
    ∷ text_member (codes "reason") (reason_word reason) ∷ ticket t ∷ [])
answer_object bodies salt h t (Registered count) =
    object (answer (codes "registered") ∷ text_member (codes "extension") (env_word salt Extension h t count)
    ∷ ticket t ∷ [])
answer_object bodies salt h t Accepted = bare (codes "accepted") t
answer_object bodies salt h t Done = bare (codes "done") t
answer_object bodies salt h t (Output source) = carried bodies h (codes "output") source t
answer_object bodies salt h t (Error source) = carried bodies h (codes "error") source t
answer_object bodies salt h t TimedOut = bare (codes "timeout") t
answer_object bodies salt h t InitTimedOut = bare (codes "init-timeout") t
answer_object bodies salt h t OutputTooLarge = bare (codes "too-large-output") t
answer_object bodies salt h t (Throttled reason) = reasoned (codes "throttled") (throttle_word reason) t
answer_object bodies salt h t Stopped = bare (codes "stopped") t
answer_object bodies salt h t Withdrawn = bare (codes "withdrawn") t
answer_object bodies salt h t (Refused refusal) = reasoned (codes "refused") (refusal_word refusal) t
answer_object bodies salt h t (Reserved count) =
    object (answer (codes "reserved") ∷ number_member (codes "count") count ∷ ticket t ∷ [])
answer_object bodies salt h t Unreserved = bare (codes "unreserved") t

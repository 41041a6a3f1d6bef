-- An entry's line stays as it is when entries are added to the history.
use Rattle.std.proofs.Common.{◌≡◌, ℕ, ◌<◌, Bool, List, [], ◌∷◌, ◌++◌, codes, length, Some, refl, ap, ap₂, ◌∙◌, arith, length-append}
use Rattle.std.specs.List.{flat_map}
use Rattle.arn_ids.specs.declared.config.Config.{Config}
use Rattle.arn_ids.specs.declared.identifiers.IdKind.TheVariants.{Extension, Event}
use Rattle.call_types.specs.Calls.{body_of}
use Rattle.call_types.specs.Words.{reason_word}
use Rattle.call_types.specs.declared.answer.Answer.{Answer}
use Rattle.call_types.specs.declared.answer.Answer.TheVariants.{Delivered, Told, Ending, Registered, Accepted, Done}
use Rattle.call_types.specs.declared.answer.Answer.TheVariants.{Output, Error, TimedOut, InitTimedOut, OutputTooLarge}
use Rattle.call_types.specs.declared.answer.Answer.TheVariants.{Throttled, Stopped, Withdrawn, Refused, Reserved}
use Rattle.call_types.specs.declared.answer.Answer.TheVariants.{Unreserved}
use Rattle.call_types.specs.declared.call.Call.{Call}
use Rattle.call_types.specs.declared.call.Call.TheVariants.{Invoke, RuntimeNext, Response, ResponseTooLarge, Failure}
use Rattle.call_types.specs.declared.call.Call.TheVariants.{InitFailure, Register, ExtNext, ExtInitFailure}
use Rattle.call_types.specs.declared.call.Call.TheVariants.{ExtExitFailure, Tick, Withdraw, Spindown, Stop, Expire}
use Rattle.call_types.specs.declared.call.Call.TheVariants.{Reserve}
use Rattle.call_types.specs.declared.call.Entry.{Entry}
use Rattle.call_model.specs.Isolation.{named}
use Rattle.call_model.specs.Next.{IsLegal}
use Rattle.call_model.proofs.AfterEntry.{call_of_old}
use Rattle.call_model.proofs.IdentifiersStay.{env_old, request_old}
use Rattle.call_model.proofs.NamedTickets.{IsBounded, entry_bounded}
use Rattle.json.specs.Print.{print}
use Rattle.json.specs.Token.{Token, key}
use Rattle.trace.specs.Members.{body_member, object, number_if, number_member, text_member}
use Rattle.trace.specs.CallObject.{call_object}
use Rattle.trace.specs.AnswerObject.{answer, answer_object, body_at, ticket}
use Rattle.trace.specs.Object.{charged_at, expired, list_member, moved, object_text, released, request_if, told, Turn, turns_at}

-- ---- what an answer refers to

body_old : (bodies : Bool) (e : Entry) (h : List Entry) (p : ℕ) → p < length h → body_at bodies (e ∷ h) p ≡ body_at bodies h p
body_old bodies e h p lt = ap (λ (c : Call). body_member bodies (body_of c)) (call_of_old e h p lt)

-- ---- its object

object_old : (bodies : Bool) (salt : ℕ) (e : Entry) (h : List Entry) (t : ℕ) (a : Answer) → t < length h
    → ((p : ℕ) → named a ≡ Some p → p < length h)
    → answer_object bodies salt (e ∷ h) t a ≡ answer_object bodies salt h t a
unfolding answer_object
object_old bodies salt e h t (Delivered p deadline) lt made =
    ap₂
    (λ (body : List Token) (w : List ℕ). object (answer (codes "deliver") ∷ body ∷ number_member (codes "deadline") deadline ∷ number_member (codes "invoke") p ∷ text_member (codes "request") w ∷ ticket t ∷ []))
    (body_old bodies e h p (made p refl)) (request_old salt e h p (made p refl))
object_old bodies salt e h t (Told p deadline event) lt made =
    ap₂
    (λ (v w : List ℕ). object (answer (codes "tell") ∷ number_member (codes "deadline") deadline ∷ text_member (codes "event") v ∷ number_member (codes "invoke") p ∷ text_member (codes "request") w ∷ ticket t ∷ []))
    (env_old salt Event e h t event lt) (request_old salt e h p (made p refl))
object_old bodies salt e h t (Ending reason until event) lt made =
    ap
    (λ (v : List ℕ). object (answer (codes "shutdown") ∷ number_member (codes "deadline") until ∷ text_member (codes "event") v ∷ text_member (codes "reason") (reason_word reason) ∷ ticket t ∷ []))
    (env_old salt Event e h t event lt)
object_old bodies salt e h t (Registered count) lt made =
    ap (λ (v : List ℕ). object (answer (codes "registered") ∷ text_member (codes "extension") v ∷ ticket t ∷ [])) (env_old salt Extension e h t count lt)
object_old bodies salt e h t Accepted lt made = refl
object_old bodies salt e h t Done lt made = refl
object_old bodies salt e h t (Output source) lt made =
    ap
    (λ (body : List Token). object (answer (codes "output") ∷ body ∷ number_member (codes "source") source ∷ ticket t ∷ []))
    (body_old bodies e h source (made source refl))
object_old bodies salt e h t (Error source) lt made =
    ap
    (λ (body : List Token). object (answer (codes "error") ∷ body ∷ number_member (codes "source") source ∷ ticket t ∷ []))
    (body_old bodies e h source (made source refl))
object_old bodies salt e h t TimedOut lt made = refl
object_old bodies salt e h t InitTimedOut lt made = refl
object_old bodies salt e h t OutputTooLarge lt made = refl
object_old bodies salt e h t (Throttled reason) lt made = refl
object_old bodies salt e h t Stopped lt made = refl
object_old bodies salt e h t Withdrawn lt made = refl
object_old bodies salt e h t (Refused refusal) lt made = refl
object_old bodies salt e h t (Reserved count) lt made = refl
object_old bodies salt e h t Unreserved lt made = refl

objects_old : (bodies : Bool) (salt : ℕ) (e : Entry) (h : List Entry) (n : ℕ) (pairs : List (ℕ × Answer)) → IsBounded n pairs → n < length h
    → flat_map (λ a. answer_object bodies salt (e ∷ h) a.0 a.1) pairs ≡ flat_map (λ a. answer_object bodies salt h a.0 a.1) pairs
objects_old bodies salt e h n [] bounded lt = refl
objects_old bodies salt e h n (a ∷ rest) bounded lt =
    let made : (p : ℕ) → named a.1 ≡ Some p → p < length h = λ p q. (let le = bounded.1 p q in omega (arith, le, lt)) in
    ap₂ (λ (first others : List Token). first ++ others)
    (object_old bodies salt e h a.0 a.1 (omega (arith, bounded.0, lt)) made)
    (objects_old bodies salt e h n rest bounded.2 lt)

own_old : (salt : ℕ) (e : Entry) (h : List Entry) (t : ℕ) (call : Call) → t < length h → request_if salt (e ∷ h) t call ≡ request_if salt h t call
own_old salt e h t (Invoke f qualified trace body) lt = ap (λ (w : List ℕ). text_member (codes "request") w) (request_old salt e h t lt)
own_old salt e h t (RuntimeNext d) lt = refl
own_old salt e h t (Response d id body) lt = refl
own_old salt e h t (ResponseTooLarge d id) lt = refl
own_old salt e h t (Failure d id body) lt = refl
own_old salt e h t (InitFailure d body) lt = refl
own_old salt e h t (Register d name invoke shutdown account) lt = refl
own_old salt e h t (ExtNext d x) lt = refl
own_old salt e h t (ExtInitFailure d x body) lt = refl
own_old salt e h t (ExtExitFailure d x body) lt = refl
own_old salt e h t Tick lt = refl
own_old salt e h t (Withdraw p) lt = refl
own_old salt e h t (Spindown d) lt = refl
own_old salt e h t Stop lt = refl
own_old salt e h t (Expire d) lt = refl
own_old salt e h t (Reserve f count) lt = refl

-- ---- the line

line_old : (bodies : Bool) (config : Config) (salt : ℕ) (e : Entry) (h older : List Entry) (entry : Entry)
    → IsLegal config (entry ∷ older) → length older < length h
    → object_text bodies config salt (e ∷ h) older entry ≡ object_text bodies config salt h older entry
unfolding object_text told
line_old bodies config salt e h older entry l lt =
    let t : ℕ = length older in
    let turns : List Turn = turns_at config older entry in
    ap₂ (λ (answers own : List Token). print (object (list_member (codes "answers") answers
    ∷ (key (codes "call") ∷ call_object bodies config entry.call)
    ∷ number_if (codes "charged") (charged_at t entry.place)
    ∷ number_if (codes "expires") (expired entry.call)
    ∷ number_member (codes "moment") entry.moment
    ∷ list_member (codes "phases") (flat_map moved turns)
    ∷ number_if (codes "place") entry.place
    ∷ list_member (codes "released") (flat_map released turns)
    ∷ own
    ∷ number_member (codes "ticket") t ∷ [])) ++ 10 ∷ [])
    (objects_old bodies salt e h t entry.answers (entry_bounded config older entry l) lt)
    (own_old salt e h t entry.call lt)

pub lines_stay : (bodies : Bool) (config : Config) (salt : ℕ) (h newer older : List Entry) (entry : Entry)
    → IsLegal config (entry ∷ older) → length older < length h
    → object_text bodies config salt (newer ++ h) older entry ≡ object_text bodies config salt h older entry
lines_stay bodies config salt h [] older entry l lt = refl
lines_stay bodies config salt h (e ∷ newer) older entry l lt =
    line_old bodies config salt e (newer ++ h) older entry l (omega (arith, lt, length-append newer h)) ∙ lines_stay bodies config salt h newer older entry l lt

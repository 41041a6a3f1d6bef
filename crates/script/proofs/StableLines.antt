-- The lines of answers stay as they are when entries are added.
use Rattle.std.proofs.Common.{◌≡◌, ℕ, ◌<◌, List, [], ◌∷◌, ◌++◌, codes, length, Some, decimal, refl, ap, ◌∙◌, arith}
use Rattle.std.specs.List.{flat_map}
use Rattle.arn_ids.specs.declared.identifiers.IdKind.TheVariants.{Extension, Event}
use Rattle.call_types.specs.declared.call.Call.{Call}
use Rattle.call_types.specs.declared.call.Entry.{Entry}
use Rattle.call_types.specs.declared.answer.Answer.{Answer}
use Rattle.call_types.specs.declared.answer.Answer.TheVariants.{Delivered, Told, Ending, Registered, Accepted, Done}
use Rattle.call_types.specs.declared.answer.Answer.TheVariants.{Output, Error, TimedOut, InitTimedOut, OutputTooLarge}
use Rattle.call_types.specs.declared.answer.Answer.TheVariants.{Throttled, Stopped, Withdrawn, Refused, Reserved}
use Rattle.call_types.specs.declared.answer.Answer.TheVariants.{Unreserved}
use Rattle.call_model.specs.Identifiers.{request_word, env_word}
use Rattle.call_types.specs.Calls.{body_of}
use Rattle.call_model.specs.Isolation.{named}
use Rattle.call_model.proofs.AfterEntry.{call_of_old}
use Rattle.call_model.proofs.IdentifiersStay.{request_old, env_old}
use Rattle.call_model.proofs.NamedTickets.{IsBounded}
use Rattle.script.specs.CallText.{line_of}
use Rattle.script.specs.TextFields.{text_field}
use Rattle.call_types.specs.Words.{reason_word}
use Rattle.script.specs.AnswerText.{body_word, answer_words, answer_line, answer_lines}

body_old : (e : Entry) (h : List Entry) (p : ℕ) → p < length h → body_word (e ∷ h) p ≡ body_word h p
body_old e h p lt = ap (λ (c : Call). text_field (body_of c)) (call_of_old e h p lt)

words_old : (salt : ℕ) (e : Entry) (h : List Entry) (t : ℕ) (a : Answer) → t < length h
    → ((p : ℕ) → named a ≡ Some p → p < length h) → answer_words salt (e ∷ h) t a ≡ answer_words salt h t a
unfolding answer_words
words_old salt e h t (Delivered p deadline) lt made =
    ap (λ (w : List ℕ). codes "deliver" ∷ w ∷ decimal deadline ∷ body_word (e ∷ h) p ∷ []) (request_old salt e h p (made p refl))
    ∙ ap (λ (w : List ℕ). codes "deliver" ∷ request_word salt h p ∷ decimal deadline ∷ w ∷ []) (body_old e h p (made p refl))
words_old salt e h t (Told p deadline event) lt made =
    ap (λ (w : List ℕ). codes "tell" ∷ w ∷ request_word salt (e ∷ h) p ∷ decimal deadline ∷ []) (env_old salt Event e h t event lt)
    ∙ ap (λ (w : List ℕ). codes "tell" ∷ env_word salt Event h t event ∷ w ∷ decimal deadline ∷ []) (request_old salt e h p (made p refl))
words_old salt e h t (Ending reason until event) lt made =
    ap (λ (w : List ℕ). codes "shutdown" ∷ w ∷ reason_word reason ∷ decimal until ∷ []) (env_old salt Event e h t event lt)
words_old salt e h t (Registered count) lt made = ap (λ (w : List ℕ). codes "registered" ∷ w ∷ []) (env_old salt Extension e h t count lt)
words_old salt e h t Accepted lt made = refl
words_old salt e h t Done lt made = refl
words_old salt e h t (Output source) lt made = ap (λ (w : List ℕ). codes "output" ∷ w ∷ []) (body_old e h source (made source refl))
words_old salt e h t (Error source) lt made = ap (λ (w : List ℕ). codes "error" ∷ w ∷ []) (body_old e h source (made source refl))
words_old salt e h t TimedOut lt made = refl
words_old salt e h t InitTimedOut lt made = refl
words_old salt e h t OutputTooLarge lt made = refl
words_old salt e h t (Throttled reason) lt made = refl
words_old salt e h t Stopped lt made = refl
words_old salt e h t Withdrawn lt made = refl
words_old salt e h t (Refused refusal) lt made = refl
words_old salt e h t (Reserved count) lt made = refl
words_old salt e h t Unreserved lt made = refl

line_old : (salt : ℕ) (e : Entry) (h : List Entry) (number t : ℕ) (a : Answer) → t < length h
    → ((p : ℕ) → named a ≡ Some p → p < length h) → answer_line salt (e ∷ h) number t a ≡ answer_line salt h number t a
unfolding answer_line
line_old salt e h number t a lt made = ap (λ (ws : List (List ℕ)). line_of (decimal number ∷ decimal t ∷ ws) ++ 10 ∷ []) (words_old salt e h t a lt made)

lines_old : (salt : ℕ) (e : Entry) (h : List Entry) (number n : ℕ) (pairs : List (ℕ × Answer)) → IsBounded n pairs → n < length h
    → flat_map (λ a. answer_line salt (e ∷ h) number a.0 a.1) pairs ≡ flat_map (λ a. answer_line salt h number a.0 a.1) pairs
lines_old salt e h number n [] bounded lt = refl
lines_old salt e h number n (a ∷ rest) bounded lt =
    let made : (p : ℕ) → named a.1 ≡ Some p → p < length h = λ p q. (let le = bounded.1 p q in omega (arith, le, lt)) in
    ap (λ (l : List ℕ). l ++ flat_map (λ (b : ℕ × Answer). answer_line salt (e ∷ h) number b.0 b.1) rest)
    (line_old salt e h number a.0 a.1 (omega (arith, bounded.0, lt)) made)
    ∙ ap (λ (l : List ℕ). answer_line salt h number a.0 a.1 ++ l) (lines_old salt e h number n rest bounded.2 lt)

pub answer_lines_old : (salt : ℕ) (e : Entry) (h : List Entry) (number n : ℕ) (entry : Entry)
    → IsBounded n entry.answers → n < length h
    → answer_lines salt (e ∷ h) number entry ≡ answer_lines salt h number entry
unfolding answer_lines
answer_lines_old salt e h number n entry bounded lt = lines_old salt e h number n entry.answers bounded lt

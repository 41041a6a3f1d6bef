-- How words are appended to a text.
use Rattle.std.specs.Prelude.{◌≡◌, ℕ, List, ◌∷◌, ◌++◌, length, take, Result, Ok, Err, decimal}
use Rattle.std.specs.List.{flat_map}
use Rattle.script.specs.declared.words.Word.{Word}
use Rattle.script.specs.declared.words.Word.TheVariants as words
use Rattle.script.specs.TextFields.{text_field}
use Rattle.script.specs.AnswerText.{answer_line}
use Rattle.call_model.specs.Identifiers.{id_text}
use Rattle.call_types.specs.declared.call.Entry.{Entry}
use Rattle.call_types.specs.declared.answer.Answer.{Answer}

-- The text of a word.
abbrev pub word_text : Word → List ℕ
word_text (words.Plain text) = text.now
word_text (words.Number n) = decimal n
word_text (words.Identifier id) = id_text id
word_text (words.Text bytes) = text_field bytes.now
word_text (words.Body body) = text_field body.now

-- The words, each with a space before it.
abbrev pub spaced : List (List ℕ) → List ℕ
spaced words = flat_map (λ word. 32 ∷ word) words

-- If the result is Ok, `text` was appended. If it is Err, a part of it may have been; the older text is still the
-- beginning.
abbrev pub Adds : {T E : Type 0} → Result T E → List ℕ → List ℕ → List ℕ → Type 0
Adds (Ok x) text old new = new ≡ old ++ text
Adds (Err e) text old new = take (length old) new ≡ old

-- The lines of answers, each with a mark before it.
abbrev pub marked_lines : ℕ → List Entry → List ℕ → ℕ → List (ℕ × Answer) → List ℕ
marked_lines salt h mark number answers = flat_map (λ a. mark ++ answer_line salt h number a.0 a.1) answers

-- What a body that shows a history yields, one piece at a time.
use Rattle.std.proofs.Common.{◌≡◌, ℕ, List, [], ◌∷◌, ◌++◌, Option, Some, None, Result, IfSome, sym, ap, subst, ◌∙◌, append-nil}
use Rattle.call_types.specs.declared.call.Entry.{Entry as Taken}
use Rattle.http_body.specs.declared.frame.Frame.{Frame}
use Rattle.http_body.specs.Frame.{data_frame}
use Rattle.long_poll.specs.HistoryFrames.{Answers, Frames, behind}
use Rattle.long_poll.specs.Pieces.{IsPiece, text_left}
use Rattle.long_poll.specs.declared.streamed_body.history_body.Stage.{Stage}
use Rattle.long_poll.specs.declared.streamed_body.history_body.Stage.TheVariants.{Entry}
use Rattle.long_poll.specs.declared.service.Service as Service

-- a text that is one piece
pub piece_whole : (text : List ℕ) (frame : Frame (List ℕ)) (left : Option (List ℕ)) → frame ≡ data_frame text → left ≡ None → IsPiece text frame left
piece_whole text frame left is none = record {
  piece = text;
  shown = is;
  joined = sym (ap (λ (r : Option (List ℕ)). text ++ text_left r) none ∙ append-nil text);
  some = λ e. (e, none);
}

module _ {S K L E T : Type 0} (service : Service.Ghosts S K L T) (s : S) (seen then : List Taken) (rest r left : Option (List ℕ)) (stage st : Stage)
    (here : rest ≡ r) (at : stage ≡ st) where
  -- an answer, by what was left of a text and by the stage
  pub shown : (next : Option (Result (Frame (List ℕ)) E)) → Answers service s seen r st next then left → Frames service s seen rest stage [] next
  shown next h =
      subst (λ (x : Option (List ℕ)). Frames service s seen x stage [] next) (sym here)
      (subst (λ (x : Stage). Frames service s seen r x [] next) (sym at) (then, left, h))

  -- a frame, and those that follow it
  pub shown_first : (s2 : S) (after : Stage) (frame : Result (Frame (List ℕ)) E) → s2 ≡ s → Answers service s seen r st (Some frame) then left
      → after ≡ behind r st frame → (xs : List (Result (Frame (List ℕ)) E)) (last : Option (Result (Frame (List ℕ)) E))
      → Frames service s2 then left after xs last → Frames service s seen rest stage (frame ∷ xs) last
  shown_first s2 after frame same h is xs last more =
      subst (λ (x : Option (List ℕ)). Frames service s seen x stage (frame ∷ xs) last) (sym here)
      (subst (λ (x : Stage). Frames service s seen r x (frame ∷ xs) last) (sym at)
      (then, left, h, subst (λ (x : Stage). Frames service s then left x xs last) is (subst (λ (x : S). Frames service x then left after xs last) same more)))

module _ {S K L E T : Type 0} (service : Service.Ghosts S K L T) (s : S) (seen then : List Taken) (rest left : Option (List ℕ)) (stage : Stage) (t : ℕ)
    (here : rest ≡ None) (at : stage ≡ Entry t) where
  -- the first piece of an entry, if there is one, and what follows it
  pub entry_first : (s2 : S) (after : Stage) (o : Option (Result (Frame (List ℕ)) E)) → s2 ≡ s → Answers service s seen None (Entry t) o then left
      → IfSome o (λ answer. after ≡ behind None (Entry t) answer)
      → IfSome o (λ x. (xs : List (Result (Frame (List ℕ)) E)) (last : Option (Result (Frame (List ℕ)) E))
      → Frames service s2 then left after xs last → Frames service s seen rest stage (x ∷ xs) last)
  entry_first s2 after None same h is = tt
  entry_first s2 after (Some x) same h is = shown_first service s seen then rest None left stage (Entry t) here at s2 after x same h is

-- What a body that shows a history yields.
use Rattle.std.specs.Prelude.{◌≡◌, ℕ, ◌+◌, ⊤, List, [], ◌∷◌, Option, Some, None, Result, Ok, Err}
use Rattle.call_types.specs.declared.call.Entry.{Entry as Taken}
use Rattle.futures.specs.Runs.{Runs}
use Rattle.http_body.specs.declared.frame.Frame.{Frame}
use Rattle.long_poll.specs.Pieces.{IsPiece}
use Rattle.long_poll.specs.declared.streamed_body.history_body.Stage.{Stage}
use Rattle.long_poll.specs.declared.streamed_body.history_body.Stage.TheVariants.{Opening, Entry, Ended}
use Rattle.long_poll.specs.declared.service.Service as Service

-- The stage at which a body begins: the opening if it shows the whole history, otherwise the entry of a ticket.
abbrev pub first_stage : Option ℕ → Stage
first_stage None = Opening
first_stage (Some ticket) = Entry ticket

-- The stage after a frame, or after a failure: it stays if the frame is a piece of a text of which something was left.
abbrev pub behind : {A E : Type 0} → Option (List ℕ) → Stage → Result A E → Stage
behind (Some text) stage (Ok frame) = stage
behind (Some text) stage (Err e) = Ended
behind None Opening (Ok frame) = Entry 0
behind None (Entry t) (Ok frame) = Entry (t + 1)
behind None Ended (Ok frame) = Ended
behind None stage (Err e) = Ended

-- The answer of a poll, given the frame that was read, if any, or the error.
abbrev pub answer_of : {A E : Type 0} → Result (Option A) E → Option (Result A E)
answer_of (Ok None) = None
answer_of (Ok (Some frame)) = Some (Ok frame)
answer_of (Err e) = Some (Err e)

module _ {S K L T : Type 0} (service : Service.Ghosts S K L T) (s : S) where
  -- The text that begins at a stage, by what was seen of the history before it (`seen`) and after it (`then`); none only
  -- if the history has ended, or after a failure.
  abbrev pub Begins : List Taken → Stage → Option (List ℕ) → List Taken → Type 0
  Begins seen Opening None then = ⊥
  Begins seen Opening (Some text) then = service.opens s text × (then ≡ seen)
  Begins seen (Entry t) text then = service.tells s seen t text then
  Begins seen Ended None then = ⊤
  Begins seen Ended (Some text) then = ⊥

module _ {S K L E T : Type 0} (service : Service.Ghosts S K L T) (s : S) where
  -- One answer of a poll at a stage, by what was left of a text (`rest`) and is left then (`left`): the next piece of that
  -- text; if nothing was left, the first piece of the text that begins at the stage, or the end if none begins; or a
  -- failure, of which nothing is left.
  abbrev pub Answers : List Taken → Option (List ℕ) → Stage → Option (Result (Frame (List ℕ)) E) → List Taken
      → Option (List ℕ) → Type 0
  Answers seen (Some text) stage None then left = ⊥
  Answers seen (Some text) stage (Some (Ok frame)) then left = IsPiece text frame left × (then ≡ seen)
  Answers seen (Some text) stage (Some (Err e)) then left = left ≡ None
  Answers seen None stage None then left = Begins service s seen stage None then
  Answers seen None stage (Some (Ok frame)) then left =
      (text : List ℕ) × IsPiece text frame left × Begins service s seen stage (Some text) then
  Answers seen None Opening (Some (Err e)) then left = left ≡ None
  Answers seen None (Entry t) (Some (Err e)) then left = left ≡ None
  Answers seen None Ended (Some (Err e)) then left = ⊥

  -- The frames from a stage on, and one more answer. Joined, those from the opening on are the opening and then those from
  -- ticket 0 on; those from a ticket on are the texts of that ticket and of each one after it, up to the first that has
  -- none. Each text is of the history as it was when its first piece was given, which extends what was seen before.
  -- Nothing follows a failure.
  abbrev pub Frames : List Taken → Option (List ℕ) → Stage → Runs (Result (Frame (List ℕ)) E)
  Frames seen rest stage [] next =
      (then : List Taken) × (left : Option (List ℕ)) × Answers seen rest stage next then left
  Frames seen rest stage (frame ∷ frames) next =
      (then : List Taken) × (left : Option (List ℕ)) × Answers seen rest stage (Some frame) then left
      × Frames then left (behind rest stage frame) frames next

-- What a body that shows a trace yields.
use Rattle.std.specs.Prelude.{◌≡◌, ◌⊎◌, ℕ, zero, suc, ⊤, Bool, true, false, not, ◌&&◌, List, [], ◌∷◌}
use Rattle.std.specs.Prelude.{Option, Some, None, Result, Ok, Err}
use Rattle.std.specs.Arc.{arc_value}
use Rattle.decisions.specs.declared.decide.TraceQuery.{TraceQuery}
use Rattle.call_types.specs.declared.call.Entry.{Entry}
use Rattle.futures.specs.Runs.{Runs, EndsIf}
use Rattle.http_body.specs.declared.frame.Frame.{Frame}
use Rattle.long_poll.specs.Pieces.{IsPiece}
use Rattle.long_poll.specs.Ringing.{hears_at}
use Rattle.long_poll.specs.declared.service.bell.Heard.{Heard}
use Rattle.long_poll.specs.declared.service.Service as Service
use Rattle.long_poll.specs.declared.streamed_body.trace_body.Course.{Course}
use Rattle.long_poll.specs.declared.streamed_body.trace_body.Found.{Found}
use Rattle.long_poll.specs.declared.streamed_body.trace_body.Found.TheVariants as found
use Rattle.long_poll.specs.declared.streamed_body.trace_body.TraceBody.{TraceBody}

-- At the end of the history as it is, a body ends only if it does not follow the history any more, or by a failure.
abbrev pub Stops : {T E : Type 0} → Course T → Option (Result (Frame (List ℕ)) E) → Type 0
Stops a None = a.follow ≡ false
Stops a (Some (Ok frame)) = ⊥
Stops a (Some (Err e)) = ⊤

-- What was found is the first piece of a line, of which this is left.
abbrev pub IsPieceFound : List ℕ → Option (List ℕ) → Found → Type 0
IsPieceFound line left (found.Piece frame) = IsPiece line frame left
IsPieceFound line left found.Passed = ⊥
IsPieceFound line left found.Nothing = ⊥

module _ {S K L T : Type 0} (service : Service.Ghosts S K L T) (s : S) where
  -- It was asked whether the service is off: if it is, the history is followed no more.
  abbrev pub Asks : Course T → Course T → Type 0
  Asks a b =
      (off : Bool) × service.closes s a.trail off b.trail
      × (b ≡ record a { trail = b.trail; follow = a.follow && not off })

module _ {S K L T : Type 0} (service : Service.Ghosts S K L T) (s : S) (bodies : Bool) where
  -- There is no further entry, neither to be passed nor to be shown.
  abbrev pub Missed : ℕ → T → T → Type 0
  Missed zero t u = service.traces s t bodies None u
  Missed (suc left) t u = service.passes s t false u

  -- A look found no further entry, and nothing was left of a line.
  abbrev pub Misses : Course T → Course T → Type 0
  Misses a b = Missed a.left a.trail b.trail × (b ≡ record a { trail = b.trail }) × (a.rest ≡ None)

  -- An entry that comes before the first line was passed.
  abbrev pub Passes : Course T → Course T → Type 0
  Passes a b =
      (a.left ≡ suc b.left) × service.passes s a.trail true b.trail × (b.follow ≡ a.follow)
      × (a.rest ≡ None) × (b.rest ≡ None)

  -- A step without a frame.
  abbrev pub Moves : Course T → Course T → Type 0
  Moves a b = Misses a b ⊎ (Passes a b ⊎ Asks service s a b)

  -- So many such steps.
  abbrev pub Comes : ℕ → Course T → Course T → Type 0
  Comes zero a b = b ≡ a
  Comes (suc n) a b = (c : Course T) × Moves a c × Comes n c b

  -- The frame is the next piece of what was left of a line; if nothing was, the first piece of the line of the entry that
  -- comes next, which is passed.
  abbrev pub ShowsOf : Option (List ℕ) → Course T → Frame (List ℕ) → Course T → Type 0
  ShowsOf (Some line) a frame b = IsPiece line frame b.rest × (b ≡ record a { rest = b.rest })
  ShowsOf None a frame b =
      (a.left ≡ 0) × (b ≡ record a { trail = b.trail; rest = b.rest })
      × ((line : List ℕ) × IsPiece line frame b.rest × service.traces s a.trail bodies (Some line) b.trail)

  -- The same, where it is the course that has what is left.
  abbrev pub Shows : Course T → Frame (List ℕ) → Course T → Type 0
  Shows a frame b = ShowsOf a.rest a frame b

  -- What a look found.
  abbrev pub Finds : Course T → Found → Course T → Type 0
  Finds a (found.Piece frame) b = Shows a frame b
  Finds a found.Passed b = Passes a b
  Finds a found.Nothing b = Misses a b

  module _ {E : Type 0} where
    -- One answer of a poll: a piece of a line; the end, only if the history is not followed any more, nothing is left of a
    -- line, and there is no further entry; or a failure.
    abbrev pub Answers : Course T → Option (Result (Frame (List ℕ)) E) → Type 0
    Answers a None = (a.follow ≡ false) × ((b : Course T) × Misses a b)
    Answers a (Some (Ok frame)) = (b : Course T) × Shows a frame b
    Answers a (Some (Err e)) = ⊤

    -- The frames, and one more answer: joined, they are the lines of the entries, each of which comes next after those that
    -- were passed before it. Nothing follows a failure.
    abbrev pub Frames : Course T → Runs (Result (Frame (List ℕ)) E)
    Frames a [] next = (n : ℕ) × (b : Course T) × Comes n a b × Answers b next
    Frames a (Ok frame ∷ frames) next =
        (n : ℕ) × (b : Course T) × Comes n a b × ((c : Course T) × Shows b frame c × Frames c frames next)
    Frames a (Err e ∷ frames) next = (frames ≡ []) × (next ≡ None)

-- The source that the body waits for: that of what it hears, if anything.
abbrev pub Waits : Option Heard → ℕ → Type 0
Waits None source = ⊥
Waits (Some heard) source = source ≡ hears_at heard

module _ {R S T K L : Type 0} (service : Service.Ghosts S K L T) where
  -- What the body yields.
  abbrev pub Yields : {E : Type 0} → TraceBody R S T K L → Runs (Result (Frame (List ℕ)) E)
  Yields body = EndsIf body.is_ended (Frames service (arc_value body.service) body.bodies body.course)

  -- The body shows a service's trace as it is asked for: from the entry of a ticket on, with bodies or without, and
  -- follows the history or not. Its trail begins in a history that continues this beginning.
  abbrev pub IsTraceFrom : S → List Entry → TraceQuery → TraceBody R S T K L → Type 0
  IsTraceFrom s since query body =
      (arc_value body.service ≡ s) × (body.bodies ≡ query.bodies) × (body.is_ended ≡ false)
      × (body.course.left ≡ query.from) × (body.course.rest ≡ None) × (body.course.follow ≡ query.follow)
      × service.begins s since body.course.trail

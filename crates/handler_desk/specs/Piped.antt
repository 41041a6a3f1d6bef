-- What the two ends of a pipe see.
use Rattle.std.specs.Prelude.{◌≡◌, ℕ, List}
use Rattle.std.specs.Arc.{arc_value}
use Rattle.handover.specs.Pipes.{IsPiece, left}
use Rattle.handover.specs.declared.pipe.Put.{Put}
use Rattle.handover.specs.declared.pipe.Taken.{Taken}
use Rattle.handover.specs.declared.pipe.Taken.TheVariants.{Piece, Nothing, Whole, Broken}
use Rattle.handler_desk.specs.declared.pipe.PipeSender.{PipeSender}
use Rattle.handler_desk.specs.declared.pipe.PipeReceiver.{PipeReceiver}

-- The source that fires for the sender.
abbrev pub emptied_source : PipeSender → ℕ
emptied_source sender = (arc_value sender.shared).emptied.id

-- The source that fires for the receiver.
abbrev pub filled_source : PipeReceiver → ℕ
filled_source receiver = (arc_value receiver.shared).filled.id

-- Of the bytes before, those after are left: none was put, or as many as a pipe holds.
abbrev pub IsBehind : List ℕ → List ℕ → Type 0
IsBehind before after = (put : Put) × (after ≡ left put before)

-- What is taken out: at least one byte, and no more than a pipe holds; or that nothing more comes.
abbrev pub IsTaken : Taken → Type 0
IsTaken (Piece bytes) = IsPiece bytes
IsTaken Nothing = ⊥
IsTaken Whole = Unit {0}
IsTaken Broken = Unit {0}

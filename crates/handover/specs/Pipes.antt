-- A body that is passed on, as contracts see it, and what each call makes of it.
use Rattle.std.specs.Prelude.{ℕ, Bool, true, false, ◌<◌, ◌≤◌, List, [], ◌∷◌, ◌++◌, length, take, drop, Option, Some, None, IfSome}
use Rattle.handover.specs.declared.pipe.Ending.{Ending}
use Rattle.handover.specs.declared.pipe.Ending.TheVariants as endings
use Rattle.handover.specs.declared.pipe.Put.{Put}
use Rattle.handover.specs.declared.pipe.Put.TheVariants.{Done, Full, Over}
use Rattle.handover.specs.declared.pipe.Taken.{Taken}
use Rattle.handover.specs.declared.pipe.Taken.TheVariants as takes

-- The bytes that were put in and not taken out yet; how the body has ended at its sender; and whether its receiver has
-- gone away.
pub record Passing : Type 0 where
  pub held : List ℕ
  pub ending : Ending
  pub is_abandoned : Bool

-- 64 KiB.
abbrev pub most_held : ℕ
most_held = 65536

-- Bytes that a pipe can hold: at least one.
abbrev pub IsPiece : List ℕ → Type 0
IsPiece bytes = (0 < length bytes) × (length bytes ≤ most_held)

abbrev pub IsPieceOrNone : Option (List ℕ) → Type 0
IsPieceOrNone piece = IfSome piece IsPiece

-- The bytes in a piece, if there is one.
abbrev pub bytes_in : Option (List ℕ) → List ℕ
bytes_in None = []
bytes_in (Some piece) = piece

-- A body of which nothing has come.
abbrev pub opened : Passing
opened = record { held = []; ending = endings.Open; is_abandoned = false }

-- Whether there is room, by what is held.
abbrev pub room_behind : List ℕ → Put
room_behind [] = Done
room_behind (b ∷ bs) = Full

abbrev pub room_at : Ending → List ℕ → Put
room_at endings.Open held = room_behind held
room_at endings.Whole held = Over
room_at endings.Broken held = Over

abbrev pub room_by : Bool → Ending → List ℕ → Put
room_by true ending held = Over
room_by false ending held = room_at ending held

-- What becomes of bytes that are put: none is taken any more once the receiver has gone away or the body has ended, nor
-- yet while others are held.
abbrev pub room : Passing → Put
room p = room_by p.is_abandoned p.ending p.held

-- The bytes that are put, of those that come, and those that are left.
abbrev pub accepted : Put → List ℕ → List ℕ
accepted Done bytes = take most_held bytes
accepted Full bytes = []
accepted Over bytes = []

abbrev pub left : Put → List ℕ → List ℕ
left Done bytes = drop most_held bytes
left Full bytes = bytes
left Over bytes = bytes

abbrev pub held_with : Put → List ℕ → List ℕ → List ℕ
held_with Done bytes held = take most_held bytes
held_with Full bytes held = held
held_with Over bytes held = held

-- Bytes are put.
abbrev pub with_bytes : List ℕ → Passing → Passing
with_bytes bytes p = record p { held = held_with (room p) bytes p.held }

-- What is taken where nothing is held.
abbrev pub taken_at : Ending → Taken
taken_at endings.Open = takes.Nothing
taken_at endings.Whole = takes.Whole
taken_at endings.Broken = takes.Broken

abbrev pub taken_after : Bool → Ending → Taken
taken_after true ending = takes.Broken
taken_after false ending = taken_at ending

abbrev pub taken_by : List ℕ → Bool → Ending → Taken
taken_by [] is_abandoned ending = taken_after is_abandoned ending
taken_by (b ∷ bs) is_abandoned ending = takes.Piece (b ∷ bs)

-- What is taken: all that is held; if nothing is, how the body has ended.
abbrev pub taken : Passing → Taken
taken p = taken_by p.held p.is_abandoned p.ending

-- What was held is taken.
abbrev pub emptied : Passing → Passing
emptied p = record p { held = [] }

-- How the body has ended, if it ends so now: as before, if it had ended.
abbrev pub ending_by : Ending → Ending → Ending
ending_by now endings.Open = now
ending_by now endings.Whole = endings.Whole
ending_by now endings.Broken = endings.Broken

abbrev pub ended : Ending → Passing → Passing
ended now p = record p { ending = ending_by now p.ending }

-- The receiver goes away.
abbrev pub abandoned : Passing → Passing
abandoned p = record p { held = []; is_abandoned = true }

-- What may happen: bytes are put; what is held is taken; the body ends well, or breaks off; its receiver goes away.
pub data Event : Type 0 where
  Puts : List ℕ → Event
  Takes : Event
  Finishes : Event
  BreaksOff : Event
  Abandons : Event

abbrev pub after : Passing → Event → Passing
after p (Puts bytes) = with_bytes bytes p
after p Takes = emptied p
after p Finishes = ended endings.Whole p
after p BreaksOff = ended endings.Broken p
after p Abandons = abandoned p

abbrev pub run : Passing → List Event → Passing
run p [] = p
run p (event ∷ events) = run (after p event) events

-- The bytes that an event puts in, and those that it takes out.
abbrev pub put : Passing → Event → List ℕ
put p (Puts bytes) = accepted (room p) bytes
put p Takes = []
put p Finishes = []
put p BreaksOff = []
put p Abandons = []

abbrev pub got : Passing → Event → List ℕ
got p (Puts bytes) = []
got p Takes = p.held
got p Finishes = []
got p BreaksOff = []
got p Abandons = []

-- The bytes that several events put in, and those that they take out.
abbrev pub all_put : Passing → List Event → List ℕ
all_put p [] = []
all_put p (event ∷ events) = put p event ++ all_put (after p event) events

abbrev pub all_got : Passing → List Event → List ℕ
all_got p [] = []
all_got p (event ∷ events) = got p event ++ all_got (after p event) events

-- Whether more of the body may come.
abbrev pub is_open : Ending → Bool
is_open endings.Open = true
is_open endings.Whole = false
is_open endings.Broken = false

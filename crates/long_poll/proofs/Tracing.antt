-- What a body that shows a trace yields, one step at a time.
use Rattle.std.proofs.Common.{◌≡◌, ℕ, suc, Bool, false, List, [], ◌∷◌, Option, Some, None, Result, Ok, Err, refl, sym, ap, subst, ◌∙◌}
use Rattle.std.specs.Arc.{arc_value}
use Rattle.futures.specs.Poll.{OnPending}
use Rattle.futures.specs.declared.task.Poll.{Poll}
use Rattle.futures.specs.declared.task.Poll.TheVariants.{Ready, Pending}
use Rattle.http_body.specs.declared.frame.Frame.{Frame}
use Rattle.long_poll.specs.TraceFrames.{Finds, IsPieceFound, Moves, Misses, Shows, ShowsOf, Stops, Frames, Yields}
use Rattle.long_poll.specs.declared.service.Service as Service
use Rattle.long_poll.specs.declared.streamed_body.trace_body.Course.{Course}
use Rattle.long_poll.specs.declared.streamed_body.trace_body.Found.{Found}
use Rattle.long_poll.specs.declared.streamed_body.trace_body.Found.TheVariants.{Piece, Passed, Nothing}
use Rattle.long_poll.specs.declared.streamed_body.trace_body.TraceBody.{TraceBody}

-- what two facts give that hold while it is pending
pub while_both : {O X Y Z : Type 0} (r : Poll O) → (X → Y → Z) → OnPending r X → OnPending r Y → OnPending r Z
while_both (Ready o) f h k = tt
while_both Pending f h k = f h k

module _ {S K L T E : Type 0} (service : Service.Ghosts S K L T) (s : S) (bodies : Bool) where
  -- what comes after a step may come before it
  pub moved : (a b : Course T) → Moves service s bodies a b
      → (xs : List (Result (Frame (List ℕ)) E)) (last : Option (Result (Frame (List ℕ)) E))
      → Frames service s bodies b xs last → Frames service s bodies a xs last
  moved a b move [] last h = (suc h.0, h.1, (b, move, h.2), h.3)
  moved a b move (Ok frame ∷ xs) last h = (suc h.0, h.1, (b, move, h.2), h.3)
  moved a b move (Err e ∷ xs) last h = h

  -- a failure may come at any time
  pub failed : (a : Course T) (e : E) → Frames service s bodies a [] (Some (Err e))
  failed a e = (0, a, refl, tt)

  -- a line and what follows it
  pub shown_first : (a b : Course T) (frame : Frame (List ℕ)) → Shows service s bodies a frame b
      → (xs : List (Result (Frame (List ℕ)) E)) (last : Option (Result (Frame (List ℕ)) E))
      → Frames service s bodies b xs last → Frames service s bodies a (Ok frame ∷ xs) last
  shown_first a b frame h xs last rest = (0, a, refl, (b, h, rest))

module _ {S K L T : Type 0} (service : Service.Ghosts S K L T) (s : S) (bodies : Bool) where
  -- the next piece of what was left of a line
  pub shown_on : (a b : Course T) (line : List ℕ) (found : Found) → a.rest ≡ Some line → IsPieceFound line b.rest found
      → b ≡ record a { rest = b.rest } → Finds service s bodies a found b
  shown_on a b line (Piece frame) is piece same = subst (λ (r : Option (List ℕ)). ShowsOf service s bodies r a frame b) (sym is) (piece, same)
  shown_on a b line Passed is piece same = absurd piece
  shown_on a b line Nothing is piece same = absurd piece

  -- the first piece of the line of the next entry
  pub shown_next : (a b : Course T) (u : T) (line : List ℕ) (found : Found) → a.rest ≡ None → a.left ≡ 0
      → service.traces s a.trail bodies (Some line) u → IsPieceFound line b.rest found
      → b ≡ record a { trail = u; rest = b.rest } → Finds service s bodies a found b
  shown_next a b u line (Piece frame) is first traced piece same =
      let here : b.trail ≡ u = ap (λ (c : Course T). c.trail) same in
      subst (λ (r : Option (List ℕ)). ShowsOf service s bodies r a frame b) (sym is) (
        first,
        same ∙ ap (λ (t : T). record a { trail = t; rest = b.rest }) (sym here),
        (line, piece, subst (λ (t : T). service.traces s a.trail bodies (Some line) t) (sym here) traced),
      )
  shown_next a b u line Passed is first traced piece same = absurd piece
  shown_next a b u line Nothing is first traced piece same = absurd piece

module _ {S K L T : Type 0} (E : Type 0) (service : Service.Ghosts S K L T) (s : S) (bodies : Bool) where
  -- a line
  pub shown : (a b : Course T) (frame : Frame (List ℕ)) → Shows service s bodies a frame b
      → Frames service s bodies {E = E} a [] (Some (Ok frame))
  shown a b frame h = (0, a, refl, (b, h))

  -- the end
  pub missed : (a b : Course T) → Misses service s bodies a b → b.follow ≡ false → Frames service s bodies {E = E} a [] None
  missed a b h ends = (0, a, refl, (sym (ap (λ (c : Course T). c.follow) h.1) ∙ ends, (b, h)))

-- The same of a body.
module _ {R S T K L : Type 0} (E : Type 0) (service : Service.Ghosts S K L T) (old new : TraceBody R S T K L)
    (goes : old.is_ended ≡ false) where
  pub shows_now : (frame : Frame (List ℕ))
      → Shows service (arc_value old.service) old.bodies old.course frame new.course
      → Yields service {E = E} old [] (Some (Ok frame))
  shows_now frame h = rw goes (shown E service (arc_value old.service) old.bodies old.course new.course frame h)

module _ {R S T K L E : Type 0} (service : Service.Ghosts S K L T) (old new : TraceBody R S T K L)
    (goes : old.is_ended ≡ false) where
  pub fails_now : (e : E) → Yields service {E = E} old [] (Some (Err e))
  fails_now e = rw goes (failed service (arc_value old.service) old.bodies old.course e)

  pub stops_now : Misses service (arc_value old.service) old.bodies old.course new.course
      → (o : Option (Result (Frame (List ℕ)) E)) → Stops new.course o → Yields service old [] o
  stops_now h None ends = rw goes (missed E service (arc_value old.service) old.bodies old.course new.course h ends)
  stops_now h (Some (Ok frame)) ends = absurd ends
  stops_now h (Some (Err e)) ends = fails_now e

  module _ (goes_on : new.is_ended ≡ false) (same : new.service ≡ old.service) (alike : new.bodies ≡ old.bodies) where
    here : (xs : List (Result (Frame (List ℕ)) E)) (last : Option (Result (Frame (List ℕ)) E))
        → Yields service new xs last → Frames service (arc_value old.service) old.bodies new.course xs last
    here xs last h = rw (goes_on, same, alike) at h

    pub shows_first : (frame : Frame (List ℕ))
        → Shows service (arc_value old.service) old.bodies old.course frame new.course
        → (xs : List (Result (Frame (List ℕ)) E)) (last : Option (Result (Frame (List ℕ)) E))
        → Yields service new xs last → Yields service old (Ok frame ∷ xs) last
    shows_first frame h xs last rest =
        rw goes (shown_first service (arc_value old.service) old.bodies old.course new.course frame h xs last (here xs last rest))

    pub later : Moves service (arc_value old.service) old.bodies old.course new.course
        → (xs : List (Result (Frame (List ℕ)) E)) (last : Option (Result (Frame (List ℕ)) E))
        → Yields service new xs last → Yields service old xs last
    later move xs last rest =
        rw goes (moved service (arc_value old.service) old.bodies old.course new.course move xs last (here xs last rest))

-- What each event makes of the places of a request.
use Rattle.std.proofs.Common.{◌≡◌, ℕ, ◌+◌, Bool, true, false, is_some, List, [], ◌∷◌, ◌++◌, Option, Some, None, refl, arith}
use Rattle.std.proofs.lemmas.List.{append-nil}
use Rattle.std.specs.BTreeMap.{is_at}
use Rattle.std.specs.Map.{lookup, keys_of}
use Rattle.std.specs.Ordering.{nat_cmp}
use Rattle.handover.specs.declared.request.Request.{Request}
use Rattle.handover.specs.declared.fault.PutFault.{PutFault}
use Rattle.handover.specs.declared.fault.NotTaken.{NotTaken}
use Rattle.handover.specs.Counters.{Counter, bytes_of, refusal, with_request, others_of, first_for, taken_of, is_at_handler, answered}
use Rattle.handover.specs.Stages.{stage, stage_by, denial}
use Rattle.handover.specs.Runs.{Event, Comes, Asks, Answers, HandlerEnds, RequesterEnds, GivesUp}
use Rattle.handover.specs.Runs.{End, Answered, Failed, Withdrawn, after, unless, answered_unless, ended_if}
use Rattle.handover.specs.Runs.{first_given_up, ends, times, times_here, times_given}
use Rattle.handover.proofs.Counting.{times_one, times_cons, keys_append, given_more, times_removed, times_filtered, keys_of_ends}

module _ (id : ℕ) (c : Counter) where
  -- An event moves a request, ends it, or adds one.
  abbrev pub Moves : Counter → List (ℕ × End) → Type 0
  Moves next ended = times_here id next + times id (keys_of ended) + times_given id c.next_id
      ≡ times_here id c + times_given id next.next_id

  comes : (request : Request) (reason : Option PutFault) → Moves (unless reason c (with_request request c)) []
  comes request (Some reason) = omega arith
  comes request None =
      let more = keys_append id c.waiting ((c.next_id, request) ∷ []) in
      let one = times_one id c.next_id in
      let given = given_more id c.next_id in
      omega (arith, more, one, given)

  taken_if : (found : Option ℕ) (waits is_given : Bool) (handler : ℕ) → denial handler (stage_by found waits is_given) ≡ None
      → is_some found ≡ true
  taken_if (Some other) waits is_given handler may = refl
  taken_if None true is_given handler may = cc
  taken_if None false true handler may = cc
  taken_if None false false handler may = cc

  answers : (other handler : ℕ) (reason : Option NotTaken) → denial handler (stage other c) ≡ reason
      → Moves (unless reason c (answered other c)) (answered_unless reason other handler)
  answers other handler (Some reason) is = omega arith
  answers other handler None is =
      let there = taken_if (lookup (is_at (nat_cmp other)) c.taken) _ _ handler is in
      let all = times_removed id other (Answered handler) c.taken in
      let all' = rw there at all in
      omega (arith, all')

  asks : (handler : ℕ) (waiting : List (ℕ × Request)) (taken : List (ℕ × ℕ))
      → times id (keys_of (others_of waiting)) + times id (keys_of (taken ++ first_for handler waiting)) + 0 + times_given id c.next_id
      ≡ times id (keys_of waiting) + times id (keys_of taken) + times_given id c.next_id
  asks handler [] taken = rw (append-nil taken) (omega arith)
  asks handler (first ∷ others) taken =
      let more = keys_append id taken ((first.0, handler) ∷ []) in
      let one = times_one id first.0 in
      let all = times_cons id first.0 (keys_of others) in
      omega (arith, more, one, all)

  gives_up : (waiting : List (ℕ × Request))
      → times id (keys_of (others_of waiting)) + times id (keys_of c.taken) + times id (keys_of (first_given_up waiting)) + times_given id c.next_id
      ≡ times id (keys_of waiting) + times id (keys_of c.taken) + times_given id c.next_id
  gives_up [] = omega arith
  gives_up (first ∷ others) =
      let one = times_one id first.0 in
      let all = times_cons id first.0 (keys_of others) in
      omega (arith, one, all)

  pub moves : (event : Event) → Moves (after c event) (ends c event)
  moves (Comes request) = comes request (refusal (bytes_of request) c)
  moves (Asks handler) = asks handler c.waiting c.taken
  moves (Answers other handler) = answers other handler (denial handler (stage other c)) refl
  moves (HandlerEnds handler) =
      let all = times_filtered id (is_at_handler handler) c.taken in
      rw (keys_of_ends (Failed handler) (taken_of handler c)) (omega (arith, all))
  moves (RequesterEnds other) =
      let waited = times_removed id other Withdrawn c.waiting in
      let taken = times_removed id other Withdrawn c.taken in
      let both = keys_append {X = End} id (ended_if (is_some (lookup (is_at (nat_cmp other)) c.waiting)) other Withdrawn)
      (ended_if (is_some (lookup (is_at (nat_cmp other)) c.taken)) other Withdrawn) in
      omega (arith, waited, taken, both)
  moves GivesUp = gives_up c.waiting

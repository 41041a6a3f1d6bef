-- Who has had a request, and who answers it.
use Rattle.std.proofs.Common.{◌≡◌, ℕ, ◌+◌, ◌==◌, ◌≤◌, Bool, true, false, cond, if◌then◌else◌, is_some, List, [], ◌∷◌}
use Rattle.std.proofs.Common.{◌++◌, map, Option, Some, None, refl, sym, ap, subst, arith}
use Rattle.std.proofs.lemmas.List.{append-nil, append_assoc}
use Rattle.std.proofs.lemmas.List.Elements.{All-nil, All-cons, All-head, All-tail, All-append, All-weaker, All-filter}
use Rattle.std.proofs.lemmas.List.Elements.{Contains-append_left, Contains-push}
use Rattle.std.specs.BTreeMap.{is_at}
use Rattle.std.specs.List.{All, Contains}
use Rattle.std.specs.Map.{lookup, remove_entry, keys_of}
use Rattle.std.specs.Ordering.{nat_cmp}
use Rattle.handover.specs.declared.request.Request.{Request}
use Rattle.handover.specs.declared.fault.PutFault.{PutFault}
use Rattle.handover.specs.declared.fault.NotTaken.{NotTaken}
use Rattle.handover.specs.declared.fault.NotTaken.TheVariants.{ByAnother}
use Rattle.handover.specs.Counters.{Counter, bytes_of, refusal, with_request, others_of, first_for, taken_of, answered}
use Rattle.handover.specs.Stages.{stage, stage_by, denial}
use Rattle.handover.specs.Runs.{Event, Comes, Asks, Answers, HandlerEnds, RequesterEnds, GivesUp}
use Rattle.handover.specs.Runs.{End, Answered, Failed, Withdrawn, GivenUp, after, unless, run, answered_unless, ended_if, first_given_up}
use Rattle.handover.specs.Runs.{ends, all_ends, hands, all_hands, times, times_given}
use Rattle.handover.proofs.Counting.{times_one, times_cons, keys_append, given_more, times_removed, is_same}

-- A request is handed over once at most, of those that wait.
module _ (id : ℕ) where
  comes_once : (c : Counter) (request : Request) (reason : Option PutFault)
      → times id (keys_of (unless reason c (with_request request c)).waiting) + times_given id c.next_id
      ≤ times id (keys_of c.waiting) + times_given id (unless reason c (with_request request c)).next_id
  comes_once c request (Some reason) = omega arith
  comes_once c request None =
      let more = keys_append id c.waiting ((c.next_id, request) ∷ []) in
      let one = times_one id c.next_id in
      let given = given_more id c.next_id in
      omega (arith, more, one, given)

  handed : (handler : ℕ) (waiting : List (ℕ × Request))
      → times id (keys_of (first_for handler waiting)) + times id (keys_of (others_of waiting)) ≡ times id (keys_of waiting)
  handed handler [] = omega arith
  handed handler (first ∷ others) =
      let one = times_one id first.0 in
      let all = times_cons id first.0 (keys_of others) in
      omega (arith, one, all)

  answered_once : (c : Counter) (other : ℕ) (reason : Option NotTaken)
      → times id (keys_of (unless reason c (answered other c)).waiting) + times_given id c.next_id
      ≤ times id (keys_of c.waiting) + times_given id (unless reason c (answered other c)).next_id
  answered_once c other (Some reason) = omega arith
  answered_once c other None = omega arith

  hands_now : (c : Counter) (event : Event)
      → times id (keys_of (hands c event)) + times id (keys_of (after c event).waiting) + times_given id c.next_id
      ≤ times id (keys_of c.waiting) + times_given id (after c event).next_id
  hands_now c (Comes request) = omega (arith, comes_once c request (refusal (bytes_of request) c))
  hands_now c (Asks handler) = omega (arith, handed handler c.waiting)
  hands_now c (Answers other handler) = omega (arith, answered_once c other (denial handler (stage other c)))
  hands_now c (HandlerEnds handler) = omega arith
  hands_now c (RequesterEnds other) = omega (arith, times_removed id other Withdrawn c.waiting)
  hands_now c GivesUp = omega (arith, handed 0 c.waiting)

  pub hands_once : (c : Counter) (events : List Event)
      → times id (keys_of (all_hands c events)) + times id (keys_of (run c events).waiting) + times_given id c.next_id
      ≤ times id (keys_of c.waiting) + times_given id (run c events).next_id
  hands_once c [] = omega arith
  hands_once c (event ∷ events) =
      let now = hands_now c event in
      let later = hands_once (after c event) events in
      let both = keys_append id (hands c event) (all_hands (after c event) events) in
      omega (arith, now, later, both)

-- An end is no answer, or the answer of one who was handed the request.
abbrev pub IsByTaker : List (ℕ × ℕ) → ℕ → End → Type 0
IsByTaker handed id (Answered handler) = Contains handed (id, handler)
IsByTaker handed id (Failed handler) = Unit {0}
IsByTaker handed id Withdrawn = Unit {0}
IsByTaker handed id GivenUp = Unit {0}

abbrev pub AllByTakers : List (ℕ × ℕ) → List (ℕ × End) → Type 0
AllByTakers handed ended = All (λ e. IsByTaker handed e.0 e.1) ended

more_takers : (handed more : List (ℕ × ℕ)) (id : ℕ) (end : End) → IsByTaker handed id end → IsByTaker (handed ++ more) id end
more_takers handed more id (Answered handler) is = Contains-append_left handed more (id, handler) is
more_takers handed more id (Failed handler) is = tt
more_takers handed more id Withdrawn is = tt
more_takers handed more id GivenUp is = tt

-- What holds of each entry holds of the one that is found.
by_found : (P : ℕ × ℕ → Type 0) (id v : ℕ) (b : Bool) (k w : ℕ) (rest : Option ℕ) → b ≡ (k == id) → cond b (Some w) rest ≡ Some v
    → P (k, w) → (rest ≡ Some v → P (id, v)) → P (id, v)
by_found P id v true k w rest is found here else' =
    let key : k ≡ id = grind (arith, is) in
    let value : w ≡ v = cc in
    let same : (k, w) ≡ (id, v) = cc in
    subst P same here
by_found P id v false k w rest is found here else' = else' found

found_is : (P : ℕ × ℕ → Type 0) (id v : ℕ) (es : List (ℕ × ℕ)) → lookup (is_at (nat_cmp id)) es ≡ Some v → All P es → P (id, v)
found_is P id v [] found all = cc
found_is P id v (e ∷ es) found all =
    by_found P id v (is_at (nat_cmp id) e.0) e.0 e.1 (lookup (is_at (nat_cmp id)) es) (is_same id e.0) found (All-head P e es all)
    (λ later. found_is P id v es later (All-tail P e es all))

-- What holds of each holds of those that are left.
all_removed : (P : ℕ × ℕ → Type 0) (test : ℕ → Bool) (es : List (ℕ × ℕ)) → All P es → All P (remove_entry test es)
all_removed P test [] all = all
all_removed P test (e ∷ es) all =
    elim (test e.0) as (λ b. All P (cond b es (e ∷ remove_entry test es))) [
      | true ↦ All-tail P e es all
      | false ↦ All-cons P e (remove_entry test es) (All-head P e es all) (all_removed P test es (All-tail P e es all))
    ]

is_other : (handler other : ℕ) (b : Bool) → b ≡ (other == handler) → (if b then None else Some ByAnother) ≡ None
    → Some other ≡ Some handler
is_other handler other true is may =
    let same : other ≡ handler = grind (arith, is) in
    ap (λ (n : ℕ). Some n) same
is_other handler other false is may = cc

may_if : (handler : ℕ) (found : Option ℕ) (waits is_given : Bool) → denial handler (stage_by found waits is_given) ≡ None
    → found ≡ Some handler
may_if handler (Some other) waits is_given may = is_other handler other (other == handler) refl may
may_if handler None true is_given may = cc
may_if handler None false true may = cc
may_if handler None false false may = cc

module _ (handed : List (ℕ × ℕ)) (c : Counter) (known : All (Contains handed) c.taken) where
  answered_by : (id handler : ℕ) (reason : Option NotTaken) → denial handler (stage id c) ≡ reason
      → AllByTakers handed (answered_unless reason id handler)
  answered_by id handler (Some reason) is = All-nil (λ (e : ℕ × End). IsByTaker handed e.0 e.1)
  answered_by id handler None is =
      let there = may_if handler (lookup (is_at (nat_cmp id)) c.taken) _ _ is in
      All-cons (λ (e : ℕ × End). IsByTaker handed e.0 e.1) (id, Answered handler) [] (found_is (Contains handed) id handler c.taken there known)
      (All-nil (λ (e : ℕ × End). IsByTaker handed e.0 e.1))

  withdrawn_by : (b : Bool) (id : ℕ) → AllByTakers handed (ended_if b id Withdrawn)
  withdrawn_by true id = All-cons (λ (e : ℕ × End). IsByTaker handed e.0 e.1) (id, Withdrawn) [] tt (All-nil (λ (e : ℕ × End). IsByTaker handed e.0 e.1))
  withdrawn_by false id = All-nil (λ (e : ℕ × End). IsByTaker handed e.0 e.1)

  given_up_by : (waiting : List (ℕ × Request)) → AllByTakers handed (first_given_up waiting)
  given_up_by [] = All-nil (λ (e : ℕ × End). IsByTaker handed e.0 e.1)
  given_up_by (first ∷ others) =
      All-cons (λ (e : ℕ × End). IsByTaker handed e.0 e.1) (first.0, GivenUp) [] tt (All-nil (λ (e : ℕ × End). IsByTaker handed e.0 e.1))

  failed_by : (handler : ℕ) (ids : List ℕ) → AllByTakers handed (map (λ id. (id, Failed handler)) ids)
  failed_by handler [] = All-nil (λ (e : ℕ × End). IsByTaker handed e.0 e.1)
  failed_by handler (id ∷ ids) =
      All-cons (λ (e : ℕ × End). IsByTaker handed e.0 e.1) (id, Failed handler) (map (λ id. (id, Failed handler)) ids) tt (failed_by handler ids)

  ends_by : (event : Event) → AllByTakers handed (ends c event)
  ends_by (Comes request) = All-nil (λ (e : ℕ × End). IsByTaker handed e.0 e.1)
  ends_by (Asks handler) = All-nil (λ (e : ℕ × End). IsByTaker handed e.0 e.1)
  ends_by (Answers id handler) = answered_by id handler (denial handler (stage id c)) refl
  ends_by (HandlerEnds handler) = failed_by handler (taken_of handler c)
  ends_by (RequesterEnds id) =
      let waited : Bool = is_some (lookup (is_at (nat_cmp id)) c.waiting) in
      let taken : Bool = is_some (lookup (is_at (nat_cmp id)) c.taken) in
      All-append (λ (e : ℕ × End). IsByTaker handed e.0 e.1) (ended_if waited id Withdrawn) (ended_if taken id Withdrawn)
      (withdrawn_by waited id) (withdrawn_by taken id)
  ends_by GivesUp = given_up_by c.waiting

  kept : (more : List (ℕ × ℕ)) (taken : List (ℕ × ℕ)) → All (Contains handed) taken → All (Contains (handed ++ more)) taken
  kept more taken all = All-weaker (Contains handed) (Contains (handed ++ more)) (λ t is. Contains-append_left handed more t is) taken all

  comes_known : (request : Request) (reason : Option PutFault) → All (Contains (handed ++ [])) (unless reason c (with_request request c)).taken
  comes_known request None = kept [] c.taken known
  comes_known request (Some reason) = kept [] c.taken known

  answered_known : (id : ℕ) (reason : Option NotTaken) → All (Contains (handed ++ [])) (unless reason c (answered id c)).taken
  answered_known id None = kept [] _ (all_removed (Contains handed) (is_at (nat_cmp id)) c.taken known)
  answered_known id (Some reason) = kept [] c.taken known

  handed_known : (handler : ℕ) (waiting : List (ℕ × Request)) → All (Contains (handed ++ first_for handler waiting)) (c.taken ++ first_for handler waiting)
  handed_known handler [] = rw (append-nil c.taken) (kept [] c.taken known)
  handed_known handler (first ∷ others) =
      let P : ℕ × ℕ → Type 0 = Contains (handed ++ (first.0, handler) ∷ []) in
      All-append P c.taken ((first.0, handler) ∷ []) (kept ((first.0, handler) ∷ []) c.taken known)
      (All-cons P (first.0, handler) [] (Contains-push handed (first.0, handler)) (All-nil P))

  known_after : (event : Event) → All (Contains (handed ++ hands c event)) (after c event).taken
  known_after (Comes request) = comes_known request (refusal (bytes_of request) c)
  known_after (Asks handler) = handed_known handler c.waiting
  known_after (Answers id handler) = answered_known id (denial handler (stage id c))
  known_after (HandlerEnds handler) = kept [] _ (All-filter _ (Contains handed) c.taken known)
  known_after (RequesterEnds id) = kept [] _ (all_removed (Contains handed) (is_at (nat_cmp id)) c.taken known)
  known_after GivesUp = kept [] c.taken known

-- Each answer is that of a handler that was handed the request.
pub by_takers : (handed : List (ℕ × ℕ)) (c : Counter) (events : List Event) → All (Contains handed) c.taken
    → AllByTakers (handed ++ all_hands c events) (all_ends c events)
by_takers handed c [] known = All-nil (λ (e : ℕ × End). IsByTaker (handed ++ []) e.0 e.1)
by_takers handed c (event ∷ events) known =
    let now = ends_by handed c known event in
    let later = by_takers (handed ++ hands c event) (after c event) events (known_after handed c known event) in
    let all : List (ℕ × ℕ) = handed ++ (hands c event ++ all_hands (after c event) events) in
    All-append (λ (e : ℕ × End). IsByTaker all e.0 e.1) (ends c event) (all_ends (after c event) events)
    (All-weaker (λ (e : ℕ × End). IsByTaker handed e.0 e.1) (λ (e : ℕ × End). IsByTaker all e.0 e.1)
    (λ e is. more_takers handed (hands c event ++ all_hands (after c event) events) e.0 e.1 is) (ends c event) now)
    (rw (sym (append_assoc handed (hands c event) (all_hands (after c event) events))) later)

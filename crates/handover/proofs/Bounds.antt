-- What is handed over stays within the limits.
use Rattle.std.proofs.Common.{◌≡◌, ℕ, ◌+◌, ◌<◌, ◌≤◌, Bool, true, false, cond, not, List, [], ◌∷◌, ◌++◌, length, Option, Some, None, refl, ap, arith, length-append}
use Rattle.std.proofs.lemmas.List.{append-nil}
use Rattle.std.proofs.lemmas.List.Sums.{sum_by-cons}
use Rattle.std.proofs.lemmas.Map.Entries.{sum_by-remove_entry}
use Rattle.std.specs.BTreeMap.{is_at}
use Rattle.std.specs.List.{filter}
use Rattle.std.specs.Map.{remove_entry, values_of}
use Rattle.std.specs.Ordering.{nat_cmp}
use Rattle.handover.specs.declared.request.Request.{Request}
use Rattle.handover.specs.declared.counter.Limits.{Limits}
use Rattle.handover.specs.declared.fault.PutFault.{PutFault}
use Rattle.handover.specs.declared.fault.NotTaken.{NotTaken}
use Rattle.handover.specs.Counters.{Counter, bytes_of, bytes_held, refusal, with_request, others_of, first_for, answered, is_at_handler}
use Rattle.handover.specs.Stages.{stage, denial}
use Rattle.handover.specs.Runs.{Event, Comes, Asks, Answers, HandlerEnds, RequesterEnds, GivesUp, after, unless, run}
use Rattle.handover.proofs.Sound.{held_with}

pub record IsWithin (limits : Limits) (c : Counter) : Type 0 where
  pub same : c.limits ≡ limits
  pub requests : length c.waiting + length c.taken ≤ limits.most
  pub bytes : bytes_held c.waiting ≤ limits.most_bytes

removed_length : {X : Type 0} (test : ℕ → Bool) (entries : List (ℕ × X)) → length (remove_entry test entries) ≤ length entries
removed_length test [] = omega arith
removed_length test (e ∷ es) =
    elim (test e.0) as (λ b. length (cond b es (e ∷ remove_entry test es)) ≤ length (e ∷ es))
    [ true ↦ omega arith | false ↦ omega (arith, removed_length test es) ]

kept_length : (test : ℕ × ℕ → Bool) (taken : List (ℕ × ℕ)) → length (filter test taken) ≤ length taken
kept_length test [] = omega arith
kept_length test (t ∷ ts) =
    elim (test t) as (λ b. length (cond b (t ∷ filter test ts) (filter test ts)) ≤ length (t ∷ ts))
    [ true ↦ omega (arith, kept_length test ts) | false ↦ omega (arith, kept_length test ts) ]

-- A request that is taken waits no longer.
asked_length : (handler : ℕ) (waiting : List (ℕ × Request)) (taken : List (ℕ × ℕ))
    → length (others_of waiting) + length (taken ++ first_for handler waiting) ≡ length waiting + length taken
asked_length handler [] taken = rw (append-nil taken) (omega arith)
asked_length handler (w ∷ ws) taken = omega (arith, length-append taken ((w.0, handler) ∷ []))

others_length : (waiting : List (ℕ × Request)) → length (others_of waiting) ≤ length waiting
others_length [] = omega arith
others_length (w ∷ ws) = omega arith

others_bytes : (waiting : List (ℕ × Request)) → bytes_held (others_of waiting) ≤ bytes_held waiting
others_bytes [] = omega arith
others_bytes (w ∷ ws) = omega (arith, sum_by-cons bytes_of w.1 (values_of ws))

-- What is not refused fits.
fits : (bytes : ℕ) (c : Counter) → refusal bytes c ≡ None
    → (length c.waiting + length c.taken < c.limits.most) × (bytes_held c.waiting + bytes ≤ c.limits.most_bytes)
fits bytes c is = grind (arith, is)

module _ (limits : Limits) (c : Counter) (within : IsWithin limits c) where
  comes_within : (request : Request) (reason : Option PutFault) → refusal (bytes_of request) c ≡ reason
      → IsWithin limits (unless reason c (with_request request c))
  comes_within request (Some reason) is = within
  comes_within request None is =
      let room = fits (bytes_of request) c is in
      let most = ap (λ (l : Limits). l.most) within.same in
      let most_bytes = ap (λ (l : Limits). l.most_bytes) within.same in
      record {
        same = within.same;
        requests = omega (arith, room.0, most, length-append c.waiting ((c.next_id, request) ∷ []));
        bytes = omega (arith, room.1, most_bytes, held_with c.waiting c.next_id request);
      }

  answered_within : (id : ℕ) (reason : Option NotTaken) → IsWithin limits (unless reason c (answered id c))
  answered_within id (Some reason) = within
  answered_within id None = record {
    same = within.same;
    requests = omega (arith, within.requests, removed_length (is_at (nat_cmp id)) c.taken);
    bytes = within.bytes;
  }

  within_after : (event : Event) → IsWithin limits (after c event)
  within_after (Comes request) = comes_within request (refusal (bytes_of request) c) refl
  within_after (Asks handler) = record {
    same = within.same;
    requests = omega (arith, within.requests, asked_length handler c.waiting c.taken);
    bytes = omega (arith, within.bytes, others_bytes c.waiting);
  }
  within_after (Answers id handler) = answered_within id (denial handler (stage id c))
  within_after (HandlerEnds handler) = record {
    same = within.same;
    requests = omega (arith, within.requests, kept_length (λ t. not (is_at_handler handler t)) c.taken);
    bytes = within.bytes;
  }
  within_after (RequesterEnds id) = record {
    same = within.same;
    requests = omega (
      arith,
      within.requests,
      removed_length (is_at (nat_cmp id)) c.waiting,
      removed_length (is_at (nat_cmp id)) c.taken,
    );
    bytes = omega (arith, within.bytes, sum_by-remove_entry bytes_of (is_at (nat_cmp id)) c.waiting);
  }
  within_after GivesUp = record {
    same = within.same;
    requests = omega (arith, within.requests, others_length c.waiting);
    bytes = omega (arith, within.bytes, others_bytes c.waiting);
  }

pub within_run : (limits : Limits) (c : Counter) (events : List Event) → IsWithin limits c → IsWithin limits (run c events)
within_run limits c [] within = within
within_run limits c (event ∷ events) within = within_run limits (after c event) events (within_after limits c within event)

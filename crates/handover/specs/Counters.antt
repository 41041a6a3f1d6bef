-- The requests that are handed over, as contracts see them, and what each call makes of them.
use Rattle.std.specs.Prelude.{ℕ, Bool, ◌+◌, ◌-◌, ◌^◌, ◌==◌, not, nat_le, nat_lt, if◌then◌else◌, List, [], ◌∷◌, ◌++◌, length}
use Rattle.std.specs.Prelude.{sum_by, Option, Some, None}
use Rattle.std.specs.BTreeMap.{is_at}
use Rattle.std.specs.List.{filter}
use Rattle.std.specs.Map.{remove_entry, keys_of, values_of}
use Rattle.std.specs.Ordering.{nat_cmp}
use Rattle.handover.specs.declared.request.Request.{Request}
use Rattle.handover.specs.declared.counter.Limits.{Limits}
use Rattle.handover.specs.declared.fault.PutFault.{PutFault}
use Rattle.handover.specs.declared.fault.PutFault.TheVariants.{TooMany, TooManyBytes, NoIdentifier}

-- The requests that wait for a handler, each with its identifier, in the order in which they came; the identifiers of
-- those that a handler has taken, each with its handler, in the order in which they were taken; the identifier of the
-- request that comes next; and what may be handed over at once.
pub record Counter : Type 0 where
  pub waiting : List (ℕ × Request)
  pub taken : List (ℕ × ℕ)
  pub next_id : ℕ
  pub limits : Limits

-- The bytes of a request: its head and its body.
abbrev pub bytes_of : Request → ℕ
bytes_of request = length request.head.items + length request.body

-- The bytes of all requests that wait.
abbrev pub bytes_held : List (ℕ × Request) → ℕ
bytes_held waiting = sum_by bytes_of (values_of waiting)

-- A counter at which no request has come yet.
abbrev pub opened : Limits → Counter
opened limits = record { waiting = []; taken = []; next_id = 0; limits = limits }

-- Why a request of so many bytes is refused, if it is: as many wait or are at handlers as may; the bytes of those that
-- wait and its own are more than may wait; all identifiers are given.
abbrev pub refusal : ℕ → Counter → Option PutFault
refusal bytes c =
    if nat_le c.limits.most (length c.waiting + length c.taken) then Some TooMany
    else if nat_lt c.limits.most_bytes (bytes_held c.waiting + bytes) then Some TooManyBytes
    else if nat_le (2 ^ 64 - 1) c.next_id then Some NoIdentifier
    else None

-- The request waits behind all others.
abbrev pub with_request : Request → Counter → Counter
with_request request c = record c { waiting = c.waiting ++ (c.next_id, request) ∷ []; next_id = c.next_id + 1 }

-- The request that waits first.
abbrev pub first_of : List (ℕ × Request) → Option (ℕ × Request)
first_of [] = None
first_of (first ∷ others) = Some first

-- The requests that wait behind the first one.
abbrev pub others_of : List (ℕ × Request) → List (ℕ × Request)
others_of [] = []
others_of (first ∷ others) = others

-- The first request that waits, as taken by a handler.
abbrev pub first_for : ℕ → List (ℕ × Request) → List (ℕ × ℕ)
first_for handler [] = []
first_for handler (first ∷ others) = (first.0, handler) ∷ []

-- The first request that waits is at this handler.
abbrev pub taken_by : ℕ → Counter → Counter
taken_by handler c =
    record c { waiting = others_of c.waiting; taken = c.taken ++ first_for handler c.waiting }

-- The first request waits no longer, and no handler has it.
abbrev pub given_up : Counter → Counter
given_up c = record c { waiting = others_of c.waiting }

-- A request is no longer at its handler.
abbrev pub answered : ℕ → Counter → Counter
answered id c = record c { taken = remove_entry (is_at (nat_cmp id)) c.taken }

-- A request neither waits nor is at a handler.
abbrev pub withdrawn : ℕ → Counter → Counter
withdrawn id c = record c {
  waiting = remove_entry (is_at (nat_cmp id)) c.waiting;
  taken = remove_entry (is_at (nat_cmp id)) c.taken;
}

-- Whether a taken request is at this handler.
abbrev pub is_at_handler : ℕ → ℕ × ℕ → Bool
is_at_handler handler taken = taken.1 == handler

-- The requests that are at a handler, in the order in which it took them.
abbrev pub taken_of : ℕ → Counter → List ℕ
taken_of handler c = keys_of (filter (is_at_handler handler) c.taken)

-- No request is at this handler.
abbrev pub without_handler : ℕ → Counter → Counter
without_handler handler c = record c { taken = filter (λ t. not (is_at_handler handler t)) c.taken }

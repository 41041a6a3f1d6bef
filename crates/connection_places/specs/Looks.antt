-- What is seen of connections, which are looked at once a second, and what follows from it.
use Rattle.std.specs.Prelude.{ℕ, ◌+◌, ◌-◌, ◌*◌, ◌/◌, ◌^◌, ◌==◌, min, Bool, ◌&&◌, nat_lt, if◌then◌else◌, Option}
use Rattle.std.specs.Prelude.{Some, None, ◌||◌, not, option_map}
use Rattle.connection_state.specs.Pulses.{is_unserved, is_between, is_lingering, is_same, is_in_stage_of}
use Rattle.connection_state.specs.Limits.{has_outstayed}
use Rattle.connection_state.specs.declared.pulse.Told.{Told}
use Rattle.connection_places.specs.declared.observation.Observation.{Observation}
use Rattle.service_port.specs.declared.port.Port.{Port}
use Rattle.service_port.specs.declared.port.Port.TheVariants.{Account, Environment, Handled}

-- What is seen of a connection that has just come in.
abbrev pub first_seen : Port → Told → Observation
first_seen port told = record { port = port; told = told; still = 0; whole = 0; unasked = 0 }

-- A count of looks after some more looks: increased if the condition still holds, otherwise 0.
abbrev pub counted : Bool → ℕ → ℕ → ℕ
counted is_still_so before looks = if is_still_so then min (before + looks) (2 ^ 32 - 1) else 0

-- Whether a connection has stayed without a complete request: it serves none, and has given no response since.
abbrev pub is_unasked : Told → Told → Bool
is_unasked told before = is_unserved told.awaited && (told.answers == before.answers)

-- What is seen of a connection some looks later.
abbrev pub seen_later : Observation → Told → ℕ → Observation
seen_later seen told looks = record {
  port = seen.port;
  told = told;
  still = counted (is_same told seen.told) seen.still looks;
  whole = counted (is_in_stage_of told seen.told) seen.whole looks;
  unasked = counted (is_unasked told seen.told) seen.unasked looks;
}

-- Whether a connection has reached one of its limits.
abbrev pub is_over : Observation → Bool
is_over seen = has_outstayed seen.port seen.told seen.still seen.whole

-- Whether a connection lingers, and anything has come from one look at it to the next.
abbrev pub is_sent_more : Observation → Observation → Bool
is_sent_more before seen = is_lingering seen.told.awaited && not (is_same seen.told before.told)

-- For how many looks a connection has been without a complete request; `None` if it may not make room for a newcomer
-- at its own port. It may if it is between two requests or lingers, or if it was already sending a request at an earlier
-- look.
abbrev pub spare_looks : Observation → Option ℕ
spare_looks seen =
    if is_between seen.told.awaited || (is_unserved seen.told.awaited && nat_lt 0 seen.unasked) then Some seen.unasked
    else None

-- The same of a connection at a callers' port: the account's, or one of handlers; `None` for any other.
abbrev pub looks_at : Port → Observation → Option ℕ
looks_at Account seen = spare_looks seen
looks_at (Environment e) seen = None
looks_at (Handled number) seen = spare_looks seen

abbrev pub looks_of_caller : Observation → Option ℕ
looks_of_caller seen = looks_at seen.port seen

-- The environment at whose port a connection came in, and for how many looks it has been without a complete request;
-- `None` if it may not make room for a newcomer at an environment's port. At another port than the newcomer's, it may if
-- it serves no request.
abbrev pub offered_at : ℕ → Port → Observation → Option (ℕ × ℕ)
offered_at newcomer Account seen = None
offered_at newcomer (Environment own) seen =
    if own == newcomer then option_map (λ looks. (own, looks)) (spare_looks seen)
    else if is_unserved seen.told.awaited then Some (own, seen.unasked)
    else None
offered_at newcomer (Handled number) seen = None

abbrev pub looks_of_environment : ℕ → Observation → Option (ℕ × ℕ)
looks_of_environment newcomer seen = offered_at newcomer seen.port seen

-- The number of places that are kept for callers' ports: one in sixteen, up to 64; and of 1,024 or more, 64 further ones,
-- since as many connections may follow the trace there.
abbrev pub reserve_of : ℕ → ℕ
reserve_of most = min (most / 16) 64 + min (most / 1024 * 64) 64

-- The better of two connections to make room: the one that has been longer without a complete request, or the earlier
-- of equal ones.
abbrev pub better : Option (ℕ × ℕ) → ℕ → Option ℕ → Option (ℕ × ℕ)
better best at None = best
better None at (Some looks) = Some (at, looks)
better (Some best) at (Some looks) = if nat_lt best.1 looks then Some (at, looks) else Some best

-- Where a request is, and whether a handler may answer it.
use Rattle.std.specs.Prelude.{ℕ, Bool, true, false, ◌==◌, nat_lt, is_some, if◌then◌else◌, Option, Some, None}
use Rattle.std.specs.BTreeMap.{is_at}
use Rattle.std.specs.Map.{lookup}
use Rattle.std.specs.Ordering.{nat_cmp}
use Rattle.handover.specs.Counters.{Counter}
use Rattle.handover.specs.declared.stage.Stage.{Stage}
use Rattle.handover.specs.declared.stage.Stage.TheVariants.{Waits, Taken, Over, NotGiven}
use Rattle.handover.specs.declared.fault.NotTaken.{NotTaken}
use Rattle.handover.specs.declared.fault.NotTaken.TheVariants as fault

-- Where a request is, by its handler if it has one, by whether it waits, and by whether its identifier was given.
abbrev pub stage_by : Option ℕ → Bool → Bool → Stage
stage_by (Some handler) waits is_given = Taken handler
stage_by None true is_given = Waits
stage_by None false true = Over
stage_by None false false = NotGiven

-- Where the request with an identifier is.
abbrev pub stage : ℕ → Counter → Stage
stage id c = stage_by (lookup (is_at (nat_cmp id)) c.taken) (is_some (lookup (is_at (nat_cmp id)) c.waiting))
    (nat_lt id c.next_id)

-- Why a handler may not answer a request at this stage, if it may not.
abbrev pub denial : ℕ → Stage → Option NotTaken
denial handler (Taken other) = if other == handler then None else Some fault.ByAnother
denial handler Waits = Some fault.StillWaits
denial handler Over = Some fault.IsOver
denial handler NotGiven = Some fault.NotGiven

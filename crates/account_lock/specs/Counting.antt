-- The four counts of a history.
use Rattle.std.specs.Prelude.{List}
use Rattle.call_types.specs.declared.call.Entry.{Entry}
use Rattle.call_model.specs.Counts.{calls, admitted, throttled, failed}
use Rattle.usage_ledger.specs.declared.counts.Counts.{Counts}
use Rattle.usage_ledger.specs.Counts.{counts}

-- What a history, or a part of one, counts: its calls, and its admitted, throttled and failed invocations.
abbrev pub counts_of : List Entry → Counts
counts_of h = counts (calls h) (admitted h) (throttled h) (failed h)

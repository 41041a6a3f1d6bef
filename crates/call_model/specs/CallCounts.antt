-- The count in the request identifier of each Invoke of a history.
use Rattle.std.specs.Prelude.{ℕ, List, [], ◌∷◌}
use Rattle.call_types.specs.declared.call.Call.{Call}
use Rattle.call_types.specs.declared.call.Call.TheVariants.{Invoke}
use Rattle.call_types.specs.declared.call.Entry.{Entry}
use Rattle.call_model.specs.History.{requests}

-- For an Invoke, the number of Invokes of its function in a history; 0 for any other call.
abbrev pub request_count : List Entry → Call → ℕ
request_count h (Invoke f qualified trace body) = requests h f
request_count h _ = 0

-- For each entry, the newest first, the request count of its call in the history up to and including the entry.
abbrev pub call_counts : List Entry → List ℕ
call_counts [] = []
call_counts (entry ∷ h) = request_count (entry ∷ h) entry.call ∷ call_counts h

-- Whether a handler is here.
use Rattle.std.specs.Prelude.{ℕ, Bool, true, false, ◌-◌, nat_lt, List, [], ◌∷◌, Option, Some, None}
use Rattle.std.specs.BTreeMap.{is_at}
use Rattle.std.specs.BTreeSet.{insert_key}
use Rattle.std.specs.List.{list_any}
use Rattle.std.specs.Set.{remove_key}
use Rattle.std.specs.Ordering.{nat_cmp}

-- The handlers that have asked and have not ended, in the order of their numbers; the moment at which the last one
-- ended, if one did; and how long a handler is waited for after that.
pub record Presence : Type 0 where
  pub handlers : List ℕ
  pub left_at : Option ℕ
  pub grace : ℕ

-- A handler is here.
abbrev pub with_handler : ℕ → Presence → Presence
with_handler handler p = record p { handlers = insert_key nat_cmp p.handlers handler }

-- The moment at which the last handler ended, if there was one and none is left.
abbrev pub left_by : Bool → List ℕ → ℕ → Option ℕ → Option ℕ
left_by true [] now before = Some now
left_by true (h ∷ hs) now before = before
left_by false handlers now before = before

-- A handler has ended at this moment.
abbrev pub ended_at : ℕ → ℕ → Presence → Presence
ended_at handler now p = record p {
  handlers = remove_key (is_at (nat_cmp handler)) p.handlers;
  left_at = left_by (list_any (is_at (nat_cmp handler)) p.handlers) (remove_key (is_at (nat_cmp handler)) p.handlers) now p.left_at;
}

-- Whether the grace after the last handler's end has not passed yet.
abbrev pub is_in_grace : Option ℕ → ℕ → ℕ → Bool
is_in_grace None grace now = false
is_in_grace (Some left) grace now = nat_lt (now - left) grace

-- Whether requests are handed over: a handler is here, or one ended less than the grace ago.
abbrev pub attended_by : List ℕ → Option ℕ → ℕ → ℕ → Bool
attended_by [] left grace now = is_in_grace left grace now
attended_by (h ∷ hs) left grace now = true

abbrev pub is_attended : ℕ → Presence → Bool
is_attended now p = attended_by p.handlers p.left_at p.grace now

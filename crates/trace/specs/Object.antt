-- The object of an entry, and the trace of a history: one object for each entry, each on a line of its own.
use Rattle.std.specs.Prelude.{ℕ, Bool, if◌then◌else◌, List, [], ◌∷◌, ◌++◌, length, map, codes, decimal, Option, Some, None}
use Rattle.std.specs.List.{flat_map}
use Rattle.arn_ids.specs.declared.config.Config.{Config}
use Rattle.arn_ids.specs.Environments.{environments}
use Rattle.call_types.specs.declared.answer.Phase.{Phase}
use Rattle.call_types.specs.declared.call.Call.{Call}
use Rattle.call_types.specs.declared.call.Call.TheVariants.{Invoke, Expire}
use Rattle.call_types.specs.declared.call.Entry.{Entry}
use Rattle.call_model.specs.Identifiers.{request_word}
use Rattle.call_model.specs.Laws.{ended_by}
use Rattle.call_model.specs.Life.{phase}
use Rattle.json.specs.Print.{print}
use Rattle.json.specs.Token.{Token, begin_array, end_array, key, number}
use Rattle.trace.specs.Members.{object, text_member, number_member, number_if}
use Rattle.trace.specs.CallObject.{call_object}
use Rattle.trace.specs.AnswerObject.{answer_object}
use Rattle.trace.specs.PhaseObject.{phase_object, same_phase}

-- A member that is a list, given the tokens of its items.
abbrev pub list_member : List ℕ → List Token → List Token
list_member name items = key name ∷ begin_array ∷ (items ++ end_array ∷ [])

-- What an entry made of one environment: its number, and its phase before and after the entry.
pub record Turn : Type 0 where
  pub environment : ℕ
  pub before : Phase
  pub after : Phase

-- The phase after the entry, if the entry moved the environment.
abbrev pub moved : Turn → List Token
moved turn = if same_phase turn.before turn.after then [] else phase_object turn.environment turn.after

-- The ticket of an invocation, if there is one.
abbrev pub released_one : Option ℕ → List Token
released_one None = []
released_one (Some p) = number (decimal p) ∷ []

-- The ticket of the invocation whose charge the entry ended at the environment, if it ended one.
abbrev pub released : Turn → List Token
released turn = released_one (ended_by turn.before turn.after)

-- The ticket, if there is a place: an Invoke that is placed is charged from its own entry on.
abbrev pub charged_at : ℕ → Option ℕ → Option ℕ
charged_at ticket None = None
charged_at ticket (Some e) = Some ticket

-- The environment whose deadline had come, if the call is an expiry.
abbrev pub expired : Call → Option ℕ
expired (Expire e) = Some e
expired _ = None

-- The member with the request identifier of an Invoke; none for any other call.
abbrev pub request_if : ℕ → List Entry → ℕ → Call → List Token
request_if salt h ticket (Invoke f qualified trace body) = text_member (codes "request") (request_word salt h ticket)
request_if salt h ticket _ = []

-- The object of the entry with this ticket in the history `h`, given what it made of each environment, in the order of
-- their numbers.
unfoldable pub told : Bool → Config → ℕ → List Entry → ℕ → Entry → List Turn → List Token
told bodies config salt h ticket entry turns =
    object (list_member (codes "answers") (flat_map (λ a. answer_object bodies salt h a.0 a.1) entry.answers)
    ∷ (key (codes "call") ∷ call_object bodies config entry.call)
    ∷ number_if (codes "charged") (charged_at ticket entry.place)
    ∷ number_if (codes "expires") (expired entry.call)
    ∷ number_member (codes "moment") entry.moment
    ∷ list_member (codes "phases") (flat_map moved turns)
    ∷ number_if (codes "place") entry.place
    ∷ list_member (codes "released") (flat_map released turns)
    ∷ request_if salt h ticket entry.call
    ∷ number_member (codes "ticket") ticket ∷ [])

-- What an entry after a history makes of the environment with a number.
abbrev pub turn_at : Config → List Entry → Entry → ℕ → Turn
turn_at config older entry e = record {
  environment = e;
  before = phase config older e;
  after = phase config (entry ∷ older) e;
}

-- What an entry after a history makes of each environment.
abbrev pub turns_at : Config → List Entry → Entry → List Turn
turns_at config older entry = map (turn_at config older entry) (environments config)

-- The tokens of the object of an entry in the history `h`, where `older` are the entries before it.
abbrev pub object_tokens : Bool → Config → ℕ → List Entry → List Entry → Entry → List Token
object_tokens bodies config salt h older entry =
    told bodies config salt h (length older) entry (turns_at config older entry)

-- The line of an entry in the history `h`, where `older` are the entries before it: its object, and a line feed.
unfoldable pub object_text : Bool → Config → ℕ → List Entry → List Entry → Entry → List ℕ
object_text bodies config salt h older entry = print (object_tokens bodies config salt h older entry) ++ 10 ∷ []

-- The lines of some entries of the history `h`, the oldest first. The entries are given the newest first.
abbrev pub trace_from : Bool → Config → ℕ → List Entry → List Entry → List ℕ
trace_from bodies config salt h [] = []
trace_from bodies config salt h (entry ∷ older) =
    trace_from bodies config salt h older ++ object_text bodies config salt h older entry

-- The trace of a history: the lines of all its entries, the oldest first.
unfoldable pub trace : Bool → Config → ℕ → List Entry → List ℕ
trace bodies config salt h = trace_from bodies config salt h h

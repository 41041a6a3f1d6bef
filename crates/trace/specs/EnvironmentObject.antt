-- The object of an environment in its present state, and the text of all environments of an account.
use Rattle.std.specs.Prelude.{ℕ, Bool, true, false, List, [], ◌∷◌, ◌++◌, length, reverse, codes}
use Rattle.std.specs.List.{flat_map}
use Rattle.arn_ids.specs.Environments.{environments, function_at, function_of, numbered}
use Rattle.arn_ids.specs.Faults.{environment_ports}
use Rattle.arn_ids.specs.Identifiers.{id_word}
use Rattle.arn_ids.specs.declared.config.Config.{Config}
use Rattle.arn_ids.specs.declared.identifiers.IdKind.TheVariants.{Extension as ExtensionId}
use Rattle.call_types.specs.declared.call.Entry.{Entry}
use Rattle.call_model.specs.Generation.{Extension, Member}
use Rattle.call_model.specs.Life.{stand}
use Rattle.call_model.specs.Next.{deadline_of}
use Rattle.call_model.specs.Stand.{Stand, bound_of}
use Rattle.json.specs.Print.{print}
use Rattle.json.specs.Token.{Token, string}
use Rattle.trace.specs.Members.{object, text_member, number_member, number_if}
use Rattle.trace.specs.Object.{list_member}
use Rattle.trace.specs.PhaseObject.{phase_word, reason_if, served_by}

-- A text in a list, if it is asked for.
abbrev pub text_if : Bool → List ℕ → List Token
text_if true text = string text ∷ []
text_if false text = []

-- The events for which an extension registered. (Extensions API: Register)
abbrev pub events : Extension → List Token
events x = text_if x.invoke (codes "INVOKE") ++ text_if x.shutdown (codes "SHUTDOWN")

-- The object of an extension that is registered at environment `e`: the events for which it registered, its identifier,
-- its name, and the ticket of its parked Next, if it has one.
unfoldable pub extension_object : ℕ → ℕ → Member → List Token
extension_object salt e x =
    object (list_member (codes "events") (events x.extension)
    ∷ text_member (codes "extension") (id_word salt ExtensionId e x.extension.count)
    ∷ text_member (codes "name") x.extension.name ∷ number_if (codes "poll") x.next ∷ [])

-- The port of an environment.
abbrev pub port_at : Config → ℕ → ℕ
port_at config e = numbered 0 (environment_ports config.functions) e

-- The object of environment `e` in this state: the members of its phase's object, the extensions of its present
-- generation in the order in which they registered, the name of its function, the ticket of the runtime's parked Next,
-- if it has one, and the port.
unfoldable pub environment_object : Config → ℕ → ℕ → Stand → List Token
environment_object config salt e s =
    object (number_if (codes "bound") (bound_of s.phase) ∷ number_if (codes "deadline") (deadline_of s.phase)
    ∷ number_member (codes "environment") e
    ∷ list_member (codes "extensions") (flat_map (extension_object salt e) (reverse s.members))
    ∷ text_member (codes "function") (function_at config (function_of config e)).name
    ∷ number_if (codes "invoke") (served_by s.phase) ∷ text_member (codes "phase") (phase_word s.phase)
    ∷ number_if (codes "poll") s.runtime ∷ number_member (codes "port") (port_at config e)
    ∷ reason_if s.phase ∷ [])

-- The object of an environment after a history.
abbrev pub object_at : Config → ℕ → List Entry → ℕ → List Token
object_at config salt h e = environment_object config salt e (stand config h e)

-- The object of all environments after a history: the number of the history's entries, and the environments in the
-- order of their numbers.
abbrev pub environments_object : Config → ℕ → List Entry → List Token
environments_object config salt h =
    object (number_member (codes "entries") (length h)
    ∷ list_member (codes "environments") (flat_map (object_at config salt h) (environments config)) ∷ [])

-- The text of all environments after a history: their object, and a line feed.
unfoldable pub environments_text : Config → ℕ → List Entry → List ℕ
environments_text config salt h = print (environments_object config salt h) ++ 10 ∷ []

-- How the text of the environments is told, one after the other.
use Rattle.std.specs.Prelude.{◌≡◌, false, ℕ, Bool, List, ◌∷◌, ◌++◌, length, codes}
use Rattle.std.specs.List.{flat_map}
use Rattle.arn_ids.specs.Environments.{count_from}
use Rattle.arn_ids.specs.declared.config.Config.{Config}
use Rattle.call_types.specs.declared.call.Entry.{Entry}
use Rattle.json.specs.Token.{Token, begin_object, begin_array, key}
use Rattle.trace.specs.Members.{number_member}
use Rattle.trace.specs.EnvironmentObject.{object_at}

-- A listing: whether memory ran out, and the tokens so far.
pub record Listed : Type 0 where
  pub is_cut : Bool
  pub tokens : List Token

-- Unless memory ran out, the listing has the number of the history's entries, and then the objects of the first `n`
-- environments.
abbrev pub HasListed : Config → ℕ → List Entry → ℕ → Listed → Type 0
HasListed config salt h n listing = listing.is_cut ≡ false →
    listing.tokens ≡ begin_object ∷ (number_member (codes "entries") (length h)
    ++ key (codes "environments") ∷ begin_array ∷ flat_map (object_at config salt h) (count_from 1 n))

-- How an object is told, token by token, and how what was told is written.
use Rattle.std.specs.Prelude.{◌≡◌, Bool, true, false, ℕ, List, [], ◌∷◌, ◌++◌, map, decimal, Result, OnOk}
use Rattle.std.specs.List.{flat_map}
use Rattle.call_model.specs.Identifiers.{id_text}
use Rattle.json.specs.Token.{Token, begin_object, end_object, begin_array, end_array, key, string, number, boolean}
use Rattle.json.specs.Written.{Written}
use Rattle.trace.specs.Members.{body_member}
use Rattle.trace.specs.declared.draft.part.Inset.{Inset}
use Rattle.trace.specs.declared.draft.part.Inset.TheVariants as insets
use Rattle.trace.specs.declared.draft.part.Part.{Part}
use Rattle.trace.specs.declared.draft.part.Part.TheVariants as parts
use Rattle.trace.specs.declared.draft.part.Run.{Run}
use Rattle.trace.specs.declared.draft.teller.Teller.{Teller}

-- The token of a part.
abbrev pub part_token : Part → Token
part_token parts.Open = begin_object
part_token parts.Close = end_object
part_token parts.OpenList = begin_array
part_token parts.CloseList = end_array
part_token (parts.Key name) = key name.now
part_token (parts.Word word) = string word.now
part_token (parts.Number n) = number (decimal n)
part_token (parts.Flag set) = boolean set
part_token (parts.Identifier id) = string (id_text id)

-- The tokens of an inset.
abbrev pub inset_tokens : Inset → List Token
inset_tokens (insets.Copied text) = string text ∷ []
inset_tokens (insets.Body body) = body_member true body

-- The tokens of a run: those of its parts, and of the inset behind them.
abbrev pub run_tokens : Run → List Token
run_tokens run = map part_token run.parts.items ++ inset_tokens run.inset

-- The tokens of runs, one after the other, and of the parts behind them.
abbrev pub tokens_of : List Run → List Part → List Token
tokens_of runs parts = flat_map run_tokens runs ++ map part_token parts

-- The tokens that are written at the beginning, or behind a value: there an empty string takes the value's place.
abbrev pub primed : Bool → List Token → List Token
primed false tokens = tokens
primed true tokens = string [] ∷ tokens

-- The text of the empty string.
abbrev pub quotes : Bool → List ℕ
quotes false = []
quotes true = 34 ∷ 34 ∷ []

-- These tokens were told after those before, unless memory ran out.
pub record Tells (added : List Token) (old new : Teller) : Type 0 where
  pub tokens : new.is_cut ≡ false → (old.is_cut ≡ false) × (tokens_of new.runs.items new.parts.items ≡ tokens_of old.runs.items old.parts.items ++ added)

-- Nothing was told yet.
pub record IsBegun (teller : Teller) : Type 0 where
  pub runs : teller.runs.items ≡ []
  pub parts : teller.parts.items ≡ []
  pub whole : teller.is_cut ≡ false

-- These tokens were written after those before, unless memory ran out.
pub record Adds {E : Type 0} (result : Result (Unit {0}) E) (added : List Token) (old new : Written) : Type 0 where
  pub before : new.before ≡ old.before
  pub tokens : OnOk result (new.tokens ≡ old.tokens ++ added)

-- A text is read as a value exactly where it is one value of the grammar and its numbers are all in range.
use Rattle.std.proofs.Common.{◌≡◌, ℕ, Bool, true, false, ◌&&◌, List, [], ◌∷◌, ◌++◌, Option, Some, None, Err, IsUtf8}
use Rattle.std.proofs.Common.{option_map, option_and_then, refl, sym, ap, ◌∙◌, append_assoc}
use Rattle.std.specs.Prelude.{is_some, IsOk}
use Rattle.json.specs.Token.{Token}
use Rattle.json.specs.Lex.{tokens}
use Rattle.json.specs.Json as json
use Rattle.json.specs.Tree.{json_tokens, items_tokens, members_tokens}
use Rattle.json.proofs.Unique.Spelling.{value-json_tokens_back}
use Rattle.serde_json.specs.Data.{Data, Members, no_members, put}
use Rattle.serde_json.specs.Read.{number_of, of_json, of_items, of_members, read, max_depth}
use Rattle.lambda_wire.specs.Reading.{json_in}
use Rattle.lambda_wire.specs.declared.fault.WireFault.TheVariants.{NotJson}
use Rattle.lambda_wire.proofs.Parsed.{json_ok, not_json}
use Rattle.lambda_wire.specs.JsonParts.{form, all_in_range}

mapped : {A B : Type 0} (f : A → B) (o : Option A) → is_some (option_map f o) ≡ is_some o
mapped f None = refl
mapped f (Some a) = refl

chained : {A B : Type 0} (o : Option A) (f : A → Option B) (x r : Bool) → ((a : A) → x ≡ (is_some (f a) && r))
    → (is_some o && x) ≡ (is_some (option_and_then f o) && r)
chained None f x r h = refl
chained (Some a) f x r h = h a

and_true : (b : Bool) → (b && true) ≡ b
and_true true = refl
and_true false = refl

mutual
  json_ranged : (j : json.Json) (rest : List Token) → all_in_range (json_tokens j ++ rest) ≡ (is_some (of_json j) && all_in_range rest)
  json_ranged json.null rest = refl
  json_ranged (json.boolean b) rest = refl
  json_ranged (json.number s) rest = ap (λ b. b && all_in_range rest) (sym (mapped _ (number_of s)))
  json_ranged (json.string s) rest = refl
  json_ranged (json.array js) rest = items_ranged js rest ∙ ap (λ b. b && all_in_range rest) (sym (mapped _ (of_items js)))
  json_ranged (json.object ms) rest = members_ranged ms no_members rest ∙ ap (λ b. b && all_in_range rest) (sym (mapped _ (of_members ms no_members)))

  items_ranged : (js : json.Items) (rest : List Token) → all_in_range (items_tokens js ++ rest) ≡ (is_some (of_items js) && all_in_range rest)
  items_ranged json.no_items rest = refl
  items_ranged (json.item j js) rest =
      ap all_in_range (append_assoc (json_tokens j) (items_tokens js) rest) ∙ json_ranged j (items_tokens js ++ rest)
      ∙ chained (of_json j) (λ d. option_map _ (of_items js)) _ (all_in_range rest)
      (λ d. items_ranged js rest ∙ ap (λ b. b && all_in_range rest) (sym (mapped _ (of_items js))))

  members_ranged : (ms : json.Members) (found : Members) (rest : List Token)
      → all_in_range (members_tokens ms ++ rest) ≡ (is_some (of_members ms found) && all_in_range rest)
  members_ranged json.no_members found rest = refl
  members_ranged (json.member k j ms) found rest =
      ap all_in_range (append_assoc (json_tokens j) (members_tokens ms) rest) ∙ json_ranged j (members_tokens ms ++ rest)
      ∙ chained (of_json j) (λ d. of_members ms (put k d found)) _ (all_in_range rest) (λ d. members_ranged ms (put k d found) rest)

-- what the grammar leaves of the tokens ts
parted : (ts : List Token) (o : Option (json.Json × List Token)) → json.value max_depth ts ≡ o
    → is_some (option_and_then of_json (option_and_then (λ p. json.if_last p.0 p.1) o)) ≡ (is_some (option_and_then (λ p. json.if_last p.0 p.1) o) && all_in_range ts)
parted ts None e = refl
parted ts (Some (j, [])) e = sym (ap all_in_range (value-json_tokens_back max_depth ts [] j e) ∙ json_ranged j [] ∙ and_true (is_some (of_json j)))
parted ts (Some (j, t ∷ rest)) e = refl

pub read_by_parts : (text : List ℕ) → is_some (read text) ≡ (is_some (form text) && all_in_range (tokens text))
read_by_parts text = parted (tokens text) (json.value max_depth (tokens text)) refl

pub no_text : (bytes : List ℕ) → (IsUtf8 bytes → ⊥) → json_in bytes ≡ Err NotJson
no_text bytes never = not_json bytes (λ text. absurd (never text))

none_of : {A : Type 0} (o : Option A) → is_some o ≡ false → o ≡ None
none_of None e = refl
none_of (Some a) e = cc

pub json_absent : (bytes : List ℕ) → is_some (read bytes) ≡ false → json_in bytes ≡ Err NotJson
json_absent bytes e = not_json bytes (λ text. none_of (read bytes) e)

there : (bytes : List ℕ) (o : Option Data) → read bytes ≡ o → is_some o ≡ true → IsUtf8 bytes → IsOk (json_in bytes)
there bytes None e some text = cc
there bytes (Some d) e some text = rw (json_ok bytes d text e) refl

pub json_there : (bytes : List ℕ) → IsUtf8 bytes → is_some (read bytes) ≡ true → IsOk (json_in bytes)
json_there bytes text some = there bytes (read bytes) refl some text

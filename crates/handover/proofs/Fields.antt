-- Which names and values a field may have, as tests.
use Rattle.std.proofs.Common.{◌≡◌, ℕ, ◌<◌, ◌≤◌, Bool, true, false, cond, nat_lt, nat_le, List, [], ◌∷◌, ◌++◌, length}
use Rattle.std.proofs.Common.{Some, None, Result, Ok, Err, unwrap_or, refl, sym, ◌∙◌, ap, subst, arith}
use Rattle.std.proofs.lemmas.List.{append_assoc}
use Rattle.std.specs.List.{list_all, position_or_len}
use Rattle.std.proofs.lemmas.Bool.Decides.{nat_tests}
use Rattle.std.proofs.lemmas.List.Sums.{list_all-from_AllPass}
use Rattle.http_header.proofs.TokenLemmas.{IsFieldName-from_test, IsFieldName-from_lowercase}
use Rattle.http_header.specs.FieldName.{is_field_name, IsFieldName}
use Rattle.http_header.specs.FieldValue.{FieldValue, IsFieldValue}
use Rattle.http_header.specs.Token.{is_token_byte, is_value_byte, token_test, lowercase}
use Rattle.handover.specs.declared.answer_fault.AnswerFault.{AnswerFault}
use Rattle.handover.specs.declared.answer_fault.AnswerFault.TheVariants.{BadName, FramingName}
use Rattle.handover.specs.Posted.{is_unblank, padding, is_framing, name_in, with_first}

within_by : (b : Bool) (n l : ℕ) → nat_lt n l ≡ b → unwrap_or (cond b (Some n) None) l ≤ l
within_by true n l e = let h : n < l = grind (arith, nat_tests) in omega arith
within_by false n l e = omega arith

pub padding_within : (text : List ℕ) → padding text ≤ length text
padding_within text = within_by (nat_lt (position_or_len is_unblank text) (length text)) (position_or_len is_unblank text) (length text) refl

false_by : (b : Bool) → (b ≡ true → ⊥) → b ≡ false
false_by true never = absurd (never refl)
false_by false never = refl

true_by : (b : Bool) → (b ≡ false → ⊥) → b ≡ true
true_by true never = refl
true_by false never = absurd (never refl)

differ : (b : Bool) → b ≡ true → b ≡ false → ⊥
differ b is never = cc

no_name : (text : List ℕ) → ¬ (IsFieldName text) → is_field_name text ≡ false
no_name text never = false_by (is_field_name text) (λ is. never (IsFieldName-from_test text is))

a_name : (text : List ℕ) → IsFieldName text → is_field_name text ≡ true
unfolding is_token_byte
a_name text is =
    let some : nat_lt 0 (length text) ≡ true = grind (arith, nat_tests, is.0.0) in
    let few : nat_le (length text) 65535 ≡ true = grind (arith, nat_tests, is.1) in
    let tokens : list_all token_test text ≡ true = list_all-from_AllPass token_test text is.0.1 in
    rw (some, few, tokens) refl

-- What is no name is none.
pub name_bad : (text : List ℕ) → ¬ (IsFieldName text) → name_in text ≡ Err BadName
name_bad text never = rw (no_name text never) refl

-- A name that frames the message is refused, and any other is read.
module _ (text name : List ℕ) (same : name ≡ lowercase text) (valid : IsFieldName name) where
  known : is_field_name text ≡ true
  known = a_name text (IsFieldName-from_lowercase text (subst IsFieldName same valid))

  pub name_framing : is_framing name ≡ true → name_in text ≡ Err FramingName
  name_framing framing =
      let framing' : is_framing (lowercase text) ≡ true = ap is_framing (sym same) ∙ framing in
      rw (known, framing') refl

  pub name_ok : is_framing name ≡ false → name_in text ≡ Ok name
  name_ok free =
      let free' : is_framing (lowercase text) ≡ false = ap is_framing (sym same) ∙ free in
      rw (known, free', same) refl

pub a_value : (text : List ℕ) → (¬ (IsFieldValue text) → ⊥) → list_all is_value_byte text ≡ true
a_value text is = true_by (list_all is_value_byte text)
    (λ never. is (λ all. differ (list_all is_value_byte text) (list_all-from_AllPass is_value_byte text all) never))

-- The fields so far, and those of the lines that are left.
abbrev pub with_all : List (List ℕ × FieldValue) → Result (List (List ℕ × FieldValue)) AnswerFault
    → Result (List (List ℕ × FieldValue)) AnswerFault
with_all fields (Ok others) = Ok (fields ++ others)
with_all fields (Err fault) = Err fault

pub with_none : (others : Result (List (List ℕ × FieldValue)) AnswerFault) → others ≡ with_all [] others
with_none (Ok fields) = refl
with_none (Err fault) = refl

pub with_one : (fields : List (List ℕ × FieldValue)) (field : List ℕ × FieldValue) (others : Result (List (List ℕ × FieldValue)) AnswerFault)
    → with_all fields (with_first (Ok field) others) ≡ with_all (fields ++ field ∷ []) others
with_one fields field (Ok others) = ap (λ (all : List (List ℕ × FieldValue)). Ok all) (sym (append_assoc fields (field ∷ []) others))
with_one fields field (Err fault) = refl

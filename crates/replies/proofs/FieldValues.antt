-- The texts that headers hold are values of headers (RFC 9110, section 5.5).
use Rattle.std.proofs.Common.{◌≡◌, ℕ, zero, suc, ap, ◌^◌, ◌<◌, ◌≤◌, Bool, true, false, cond, ◌&&◌, ◌==◌, nat_lt, nat_le}
use Rattle.std.proofs.Common.{List, [], ◌++◌, length, codes, None, IsTrue, refl, arith}
use Rattle.std.specs.List.{list_all}
use Rattle.std.proofs.lemmas.Bool.Decides.{nat_tests}
use Rattle.std.proofs.lemmas.List.Elements.{All-nil, All-append}
use Rattle.std.proofs.lemmas.List.Sums.{AllPass-from_list_all}
use Rattle.http_header.specs.Token.{is_value_byte}
use Rattle.http_header.specs.FieldValue.{IsFieldValue}
use Rattle.http_header.proofs.TokenLemmas.{AllPass-from_test}
use Rattle.uuid.specs.Text.{hex_digit, nibble, lower, hyphenated_text, is_hyphen_place, digit_place}
use Rattle.uuid.proofs.TextLemmas.{by_index_at, by_index_length, nibble_small}
use Rattle.arn_ids.specs.Words.{is_digit, is_name_byte, is_region_byte, is_printable, is_word}
use Rattle.arn_ids.specs.Identifiers.{identifier_of, id_word}
use Rattle.arn_ids.specs.declared.identifiers.IdKind.{IdKind}
use Rattle.call_types.specs.Within.{is_trace}
use Rattle.arn_ids.specs.Environments.{function_at}
use Rattle.arn_ids.specs.Faults.{first_fault}
use Rattle.arn_ids.specs.Grammar.{qualifier_text}
use Rattle.arn_ids.specs.declared.config.Config.{Config}
use Rattle.arn_ids.specs.declared.config.Function.{Function}
use Rattle.std.proofs.lemmas.Bool.{ltb-true, ltb-false}
use Rattle.arn_ids.proofs.Bounds.{name_is, account_is, region_is}
use Rattle.call_types.specs.declared.call.Call.{Call}
use Rattle.call_types.specs.declared.answer.Rejection.{Rejection}
use Rattle.call_types.specs.declared.answer.Rejection.TheVariants.{State, Replaced, BadId, Unknown, TooLarge, Container}
use Rattle.call_types.specs.declared.answer.Rejection.TheVariants.{NameInUse, TooMany, NotIdle, BadReservation}
use Rattle.replies.specs.Words.{function_number, invoked_function, is_qualified, arn_text}
use Rattle.replies.specs.Refusals.{refusal_words}
use Rattle.call_model.proofs.NoFunction.{beyond}

-- a text is a value where each of its bytes passes a test that only bytes of values pass
pub from_test : (p : ℕ → Bool) → ((b : ℕ) → p b ≡ true → is_value_byte b ≡ true) → (text : List ℕ) → list_all p text ≡ true → IsFieldValue text
from_test p passes text all = λ k d lt. passes _ (AllPass-from_list_all p text all k d lt)

-- a digit of an identifier, or its hyphen
digit_fits : (b : Bool) (d : ℕ) → d < 16 → is_value_byte (cond b 45 (hex_digit lower d)) ≡ true
digit_fits true d small = refl
digit_fits false d small = grind (arith, nat_tests)

hyphenated_fits : (id : List ℕ) → IsFieldValue (hyphenated_text lower id)
hyphenated_fits id = λ k d lt.
    let within : k < 36 = rw (by_index_length 36 _) at lt in
    rw (by_index_at 36 _ k d within) (digit_fits (is_hyphen_place k) (nibble id (digit_place k)) (nibble_small id (digit_place k)))

pub id_fits : (salt : ℕ) (kind : IdKind) (number count : ℕ) → IsFieldValue (id_word salt kind number count)
unfolding id_word
id_fits salt kind number count = go (nat_lt number 4096 && nat_lt count (2 ^ 48))
  where
    go : (b : Bool) → IsFieldValue (cond b (hyphenated_text lower (identifier_of salt kind number count)) (codes "-"))
    go true = hyphenated_fits _
    go false = AllPass-from_test is_value_byte (codes "-") refl

-- the bytes of a word pass its test
word_passes : (p : ℕ → Bool) (most : ℕ) (text : List ℕ) → is_word p most text ≡ true → list_all p text ≡ true
word_passes p most text h = go (nat_le 1 (length text)) (nat_le (length text) most) h
  where
    go : (a b : Bool) → (a && b && list_all p text) ≡ true → list_all p text ≡ true
    go true true h = h
    go true false h = cc
    go false b h = cc

pub trace_fits : (trace : List ℕ) → is_trace trace ≡ true → IsFieldValue trace
trace_fits trace h = from_test is_printable (λ b e. grind (arith, nat_tests)) trace (word_passes is_printable 256 trace h)

name_fits : (config : Config) (f : ℕ) → first_fault config ≡ None → IsFieldValue (function_at config f).name
name_fits config zero sound = All-nil (λ b. IsTrue (is_value_byte b))
name_fits config (suc f) sound = go (nat_lt (length config.functions) (suc f)) refl
  where
    go : (b : Bool) → nat_lt (length config.functions) (suc f) ≡ b → IsFieldValue (function_at config (suc f)).name
    go true e =
        let none : (function_at config (suc f)).name ≡ [] = ap (λ (function : Function). function.name) (beyond config (suc f) (ltb-true _ _ e)) in
        rw none (All-nil (λ b. IsTrue (is_value_byte b)))
    go false e =
        let there : suc f ≤ length config.functions = ltb-false _ _ e in
        from_test is_name_byte (λ b t. grind (arith, nat_tests)) (function_at config (suc f)).name
        (word_passes is_name_byte 64 (function_at config (suc f)).name (name_is config (suc f) sound (omega arith) there))

account_fits : (config : Config) → first_fault config ≡ None → IsFieldValue config.home.account
account_fits config sound =
    from_test is_digit (λ b e. grind (arith, nat_tests)) config.home.account (go (length config.home.account == 12) (account_is config sound))
  where
    go : (b : Bool) → (b && list_all is_digit config.home.account) ≡ true → list_all is_digit config.home.account ≡ true
    go true h = h
    go false h = cc

region_fits : (config : Config) → first_fault config ≡ None → IsFieldValue config.home.region
region_fits config sound =
    from_test is_region_byte (λ b e. grind (arith, nat_tests)) config.home.region (word_passes is_region_byte 32 config.home.region (region_is config sound))

qualifier_fits : (qualified : Bool) → IsFieldValue (qualifier_text qualified)
qualifier_fits true = AllPass-from_test is_value_byte (codes ":$LATEST") refl
qualifier_fits false = All-nil _

both : (a b : List ℕ) → IsFieldValue a → IsFieldValue b → IsFieldValue (a ++ b)
both a b = All-append (λ x. IsTrue (is_value_byte x)) a b

spelled_fits : (region account name qualifier : List ℕ) → IsFieldValue region → IsFieldValue account → IsFieldValue name → IsFieldValue qualifier
    → IsFieldValue (codes "arn:aws:lambda:" ++ region ++ codes ":" ++ account ++ codes ":function:" ++ name ++ qualifier)
spelled_fits region account name qualifier a b c d =
    let head = codes "arn:aws:lambda:" in
    let with_region = both head region (AllPass-from_test is_value_byte head refl) a in
    let with_colon = both (head ++ region) (codes ":") with_region (AllPass-from_test is_value_byte (codes ":") refl) in
    let with_account = both (head ++ region ++ codes ":") account with_colon b in
    let with_kind = both (head ++ region ++ codes ":" ++ account) (codes ":function:") with_account (AllPass-from_test is_value_byte (codes ":function:") refl) in
    let with_name = both (head ++ region ++ codes ":" ++ account ++ codes ":function:") name with_kind c in
    both (head ++ region ++ codes ":" ++ account ++ codes ":function:" ++ name) qualifier with_name d

pub arn_fits : (config : Config) (call : Call) → first_fault config ≡ None → IsFieldValue (arn_text config call)
arn_fits config call sound =
    spelled_fits config.home.region config.home.account (invoked_function config call).name (qualifier_text (is_qualified call))
    (region_fits config sound) (account_fits config sound) (name_fits config (function_number call) sound) (qualifier_fits (is_qualified call))

kind_passes : (refusal : Rejection) → list_all is_value_byte (refusal_words refusal).1 ≡ true
kind_passes State = refl
kind_passes Replaced = refl
kind_passes BadId = refl
kind_passes Unknown = refl
kind_passes TooLarge = refl
kind_passes Container = refl
kind_passes NameInUse = refl
kind_passes TooMany = refl
kind_passes NotIdle = refl
kind_passes BadReservation = refl

pub kind_fits : (refusal : Rejection) → IsFieldValue (refusal_words refusal).1
kind_fits refusal = AllPass-from_test is_value_byte (refusal_words refusal).1 (kind_passes refusal)

-- What a body becomes is what its slices become.
use Rattle.std.proofs.Common.{◌≡◌, ◌≢◌, ℕ, ◌+◌, ◌<◌, ◌≤◌, ◌/◌, ◌%◌, Bool, true, false, cond, ◌==◌, nat_lt}
use Rattle.std.proofs.Common.{if◌then◌else◌, List, [], ◌∷◌, ◌++◌, length, take, drop, refl, sym, ap, ◌∙◌, arith}
use Rattle.std.proofs.lemmas.Grind.{flat_map-append}
use Rattle.std.specs.Char.{digit_char}
use Rattle.std.specs.Fmt.{digit_glyph}
use Rattle.std.proofs.lemmas.List.{length-take-le, take-append-drop, append_assoc}
use Rattle.std.proofs.lemmas.Bool.{eqb-true, eq-eqb}
use Rattle.base64.specs.Engines.{standard}
use Rattle.base64.specs.GeneralPurpose.{encode_of}
use Rattle.base64.specs.Rfc4648.{encode_symbols}
use Rattle.base64.proofs.EngineFacts.{encode_of-append, encode_of-nil}
use Rattle.json.specs.Print.{escape, escape_byte, escape_letter}
use Rattle.script.specs.Drafts.{coded, slice_of}
use Rattle.script.specs.TextFields.{escaped, text_byte, is_escaped}
use Rattle.script.specs.declared.coding.Coding.{Coding}
use Rattle.script.specs.declared.coding.Coding.TheVariants.{Plain, Percent, Json, Base64}

coded_apart : (coding : Coding) (front rest : List ℕ) → length front ≡ slice_of coding → coded coding (front ++ rest) ≡ coded coding front ++ coded coding rest
unfolding escaped
coded_apart Plain front rest is = refl
coded_apart Percent front rest is = flat_map-append text_byte front rest
coded_apart Json front rest is = flat_map-append escape_byte front rest
coded_apart Base64 front rest is =
    let whole : length front % 3 ≡ 0 = rw is refl in
    ap escape (encode_of-append standard front rest whole) ∙ flat_map-append escape_byte (encode_of standard front) (encode_of standard rest)

-- A slice, and what is left of a body.
pub slice_taken : (coding : Coding) (body : List ℕ) → slice_of coding < length body
    → coded coding body ≡ coded coding (take (slice_of coding) body) ++ coded coding (drop (slice_of coding) body)
slice_taken coding body long =
    let n : ℕ = slice_of coding in
    let is : length (take n body) ≡ n = length-take-le n body (omega arith) in
    ap (coded coding) (sym (take-append-drop n body)) ∙ coded_apart coding (take n body) (drop n body) is

-- The same of a slice that was cut off and written.
pub slice_written : (coding : Coding) (body front rest piece : List ℕ) (at : ℕ) → slice_of coding < length body → at ≡ slice_of coding
    → front ≡ take at body → rest ≡ drop at body → piece ≡ coded coding front → coded coding body ≡ piece ++ coded coding rest
slice_written coding body front rest piece at long is cut left written =
    slice_taken coding body long
    ∙ ap (λ n. coded coding (take n body) ++ coded coding (drop n body)) (sym is)
    ∙ ap (λ (xs : List ℕ). coded coding xs ++ coded coding (drop at body)) (sym cut)
    ∙ ap (λ (xs : List ℕ). xs ++ coded coding (drop at body)) (sym written)
    ∙ ap (λ (xs : List ℕ). piece ++ coded coding xs) (sym left)

-- Only an empty body has an empty text.
byte_escaped : (b : ℕ) (rest : List ℕ) → text_byte b ++ rest ≢ []
byte_escaped b rest = go (is_escaped b)
  where
    go : (c : Bool) → (if c then 37 ∷ digit_glyph true (b / 16 % 16) ∷ digit_glyph true (b % 16) ∷ [] else b ∷ []) ++ rest ≢ []
    go true e = cc e
    go false e = cc e

byte_in_json : (b : ℕ) (rest : List ℕ) → escape_byte b ++ rest ≢ []
unfolding escape_byte
byte_in_json b rest = go (nat_lt 0 (escape_letter b)) (nat_lt b 32)
  where
    go : (c d : Bool) → cond c (92 ∷ escape_letter b ∷ []) (cond d (92 ∷ 117 ∷ 48 ∷ 48 ∷ digit_char (b / 16) ∷ digit_char (b % 16) ∷ []) (b ∷ [])) ++ rest ≢ []
    go true d e = cc e
    go false true e = cc e
    go false false e = cc e

json_some : (body : List ℕ) → escape body ≡ [] → body ≡ []
json_some [] e = refl
json_some (b ∷ body) e = absurd (byte_in_json b (escape body) e)

base64_some : (body : List ℕ) → encode_of standard body ≡ [] → body ≡ []
unfolding encode_symbols
base64_some [] e = refl
base64_some (a ∷ []) e = cc e
base64_some (a ∷ b ∷ []) e = cc e
base64_some (a ∷ b ∷ c ∷ rest) e = cc e

pub coded_some : (coding : Coding) (body : List ℕ) → coded coding body ≡ [] → body ≡ []
unfolding escaped
coded_some Plain body e = e
coded_some Percent [] e = refl
coded_some Percent (b ∷ body) e = absurd (byte_escaped b (escaped body) e)
coded_some Json body e = json_some body e
coded_some Base64 body e = base64_some body (json_some (encode_of standard body) e)

some_slice : (coding : Coding) → 0 < slice_of coding
some_slice Plain = omega arith
some_slice Percent = omega arith
some_slice Json = omega arith
some_slice Base64 = omega arith

-- A slice that was cut off and written is not empty.
pub slice_some : (coding : Coding) (body front piece : List ℕ) (at : ℕ) → slice_of coding < length body → at ≡ slice_of coding
    → front ≡ take at body → piece ≡ coded coding front → piece ≢ []
slice_some coding body front piece at long is cut written none =
    let empty : front ≡ [] = coded_some coding front (sym written ∙ none) in
    let size : length (take at body) ≡ at = length-take-le at body (omega (arith, is, long)) in
    let no : length (take at body) ≡ 0 = ap length (sym cut ∙ empty) in
    absurd (omega (arith, size, no, is, some_slice coding))

-- A part is empty exactly if its plain text and its body are.
coded_none : (coding : Coding) → coded coding [] ≡ []
unfolding escaped
coded_none Plain = refl
coded_none Percent = refl
coded_none Json = refl
coded_none Base64 = ap escape (encode_of-nil standard)

pub part_none : (coding : Coding) (text body : List ℕ) → length text ≡ 0 → length body ≡ 0 → text ++ coded coding body ≡ []
part_none coding [] [] t b = coded_none coding
part_none coding [] (x ∷ body) t b = absurd (omega (arith, b))
part_none coding (x ∷ text) body t b = absurd (omega (arith, t))

pub part_text_none : (coding : Coding) (text body : List ℕ) → text ++ coded coding body ≡ [] → length text ≡ 0
part_text_none coding [] body e = refl
part_text_none coding (x ∷ text) body e = cc e

pub part_body_none : (coding : Coding) (text body : List ℕ) → text ++ coded coding body ≡ [] → length body ≡ 0
part_body_none coding [] body e = ap length (coded_some coding body e)
part_body_none coding (x ∷ text) body e = cc e

pub spent_then : (coding : Coding) (text body : List ℕ) (n : ℕ) (t b : Bool) → n ≡ length text → t ≡ true → t ≡ (n == 0) → b ≡ (length body == 0)
    → (b ≡ true → text ++ coded coding body ≡ []) × (text ++ coded coding body ≡ [] → b ≡ true)
spent_then coding text body n t b size so by_text by_body =
    let empty : length text ≡ 0 = sym size ∙ eqb-true n 0 (sym by_text ∙ so) in (
      λ h. part_none coding text body empty (eqb-true (length body) 0 (sym by_body ∙ h)),
      λ e. by_body ∙ eq-eqb (length body) 0 (part_body_none coding text body e),
    )

pub spent_else : (coding : Coding) (text body : List ℕ) (n : ℕ) (t : Bool) → n ≡ length text → t ≡ false → t ≡ (n == 0)
    → (t ≡ true → text ++ coded coding body ≡ []) × (text ++ coded coding body ≡ [] → t ≡ true)
spent_else coding text body n t size not by_text = (
  λ h. cc (sym h ∙ not),
  λ e. by_text ∙ eq-eqb n 0 (size ∙ part_text_none coding text body e),
)

-- The front of a text, and what is behind it.
pub front_joined : (n : ℕ) (text front rest behind : List ℕ) → front ≡ take n text → rest ≡ drop n text → text ++ behind ≡ front ++ (rest ++ behind)
front_joined n text front rest behind f r =
    rw (f, r) (ap (λ (xs : List ℕ). xs ++ behind) (sym (take-append-drop n text)) ∙ append_assoc (take n text) (drop n text) behind)

pub front_some : (n : ℕ) (text front : List ℕ) → 0 < n → n < length text → front ≡ take n text → front ≢ []
front_some n text front pos lt f none =
    let size : length (take n text) ≡ n = length-take-le n text (omega (arith, lt)) in
    let no : length (take n text) ≡ 0 = ap length (sym f ∙ none) in
    absurd (omega (arith, size, no, pos))

pub front_short : (n : ℕ) (text front : List ℕ) → n < length text → front ≡ take n text → length front ≤ n
front_short n text front lt f =
    let size : length (take n text) ≡ n = length-take-le n text (omega (arith, lt)) in
    omega (arith, size, ap length f)

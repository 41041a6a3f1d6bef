-- The text of a value is read as the value: what is known of each part of a text.
use Rattle.std.proofs.Common.{◌≡◌, ℕ, suc, ◌+◌, ◌*◌, ◌%◌, ◌^◌, ◌<◌, ◌≤◌, Bool, true, false, ◌&&◌, max, nat_le, nat_lt}
use Rattle.std.proofs.Common.{List, [], ◌∷◌, ◌++◌, length, map, decimal, Some, option_map, option_and_then, All, IsUtf8}
use Rattle.std.proofs.Common.{refl, sym, ap, ap₂, ◌∙◌, arith, length-append, append-nil}
use Rattle.std.specs.List.{list_all}
use Rattle.std.proofs.lemmas.Bool.{leb-true, agree_below, agree_below_at}
use Rattle.std.proofs.lemmas.Bool.Decides.{nat_tests}
use Rattle.std.proofs.lemmas.Fmt.{length-decimal-le, decimal_by_steps}
use Rattle.std.proofs.lemmas.List.Elements.{All-nil, All-cons, All-head, All-tail}
use Rattle.std.proofs.lemmas.List.Folds.{list_all-append}
use Rattle.std.proofs.lemmas.Str.{IsUtf8-from_ascii}
use Rattle.std.proofs.lemmas.Str.Ascii.{IsAscii-from_all}
use Rattle.json.specs.Json as json
use Rattle.json.specs.Print.{escape_byte, escape, quoted}
use Rattle.json.specs.Tree as tree
use Rattle.json.proofs.Printed.Decimals.{IsNumber-decimal}
use Rattle.json.specs.Lex.{tokens}
use Rattle.json.proofs.Printed.Tokens.{tokens-print}
use Rattle.json.proofs.Printed.Trees.{ArePrintable-json_tokens, value-json_tokens}
use Rattle.serde_json.specs.Data.{Data, number, unsigned, string, array, object, Items, no_items, item, Members}
use Rattle.serde_json.specs.Data.{no_members, member, depth, items_depth, members_depth}
use Rattle.serde_json.specs.Read.{of_json, of_items, of_members, read, max_depth}
use Rattle.serde_json.specs.View.{items_of}
use Rattle.serde_json.specs.Written.{outline, items_outline, members_outline, blank, blank_items, blank_members}
use Rattle.serde_json.specs.Written.{comma_if, compact_text, items_text, members_text}
use Rattle.serde_json.proofs.Numbers.{number_of-decimal}
use Rattle.serde_json.proofs.Texts.{print-outline, unless_float-number_of}

-- ---- texts of ASCII, of a greatest length

pub record Fits (n : ℕ) (text : List ℕ) : Type 0 where
  pub ascii : list_all (λ b. nat_lt b 128) text ≡ true
  pub short : length text ≤ n

pub fits_weaker : (m n : ℕ) (text : List ℕ) → m ≤ n → Fits m text → Fits n text
fits_weaker m n text le f = record { ascii = f.ascii; short = omega (arith, f.short) }

fits_append : (m n : ℕ) (a b : List ℕ) → Fits m a → Fits n b → Fits (m + n) (a ++ b)
fits_append m n a b f g = record {
  ascii = list_all-append (λ x. nat_lt x 128) a b ∙ rw (f.ascii, g.ascii) refl;
  short = omega (arith, length-append a b, f.short, g.short);
}

pub both : (a b : Bool) → (a && b) ≡ true → (a ≡ true) × (b ≡ true)
both true b h = (refl, h)
both false b h = cc

-- a text that stands in the code
pub fits_word : (n : ℕ) (text : List ℕ) → (list_all (λ b. nat_lt b 128) text && nat_le (length text) n) ≡ true → Fits n text
fits_word n text h = let p = both (list_all (λ b. nat_lt b 128) text) (nat_le (length text) n) h in record { ascii = p.0; short = leb-true (length text) n p.1 }

escapes : agree_below (λ x. list_all (λ b. nat_lt b 128) (escape_byte x) && nat_le (length (escape_byte x)) 6) (λ x. true) 128 ≡ true
unfolding escape_byte
escapes = refl

pub fits_quoted : (n : ℕ) (s : List ℕ) → Fits n s → Fits (6 * n + 2) (quoted s)
fits_quoted n s f =
    fits_weaker (1 + (6 * length s + 1)) (6 * n + 2) (quoted s) (omega (arith, f.short))
    (fits_append 1 (6 * length s + 1) (34 ∷ []) (escape s ++ 34 ∷ []) (fits_word 1 (34 ∷ []) refl) (fits_append (6 * length s) 1 (escape s) (34 ∷ []) (escaped s f.ascii) (fits_word 1 (34 ∷ []) refl)))
  where
    escaped : (t : List ℕ) → list_all (λ b. nat_lt b 128) t ≡ true → Fits (6 * length t) (escape t)
    escaped [] h = fits_word 0 [] refl
    escaped (x ∷ t) h =
        let p = both (nat_lt x 128) (list_all (λ b. nat_lt b 128) t) h in
        let small = p.0 in
        let within : x < 128 = grind (arith, nat_tests) in
        let byte = fits_word 6 (escape_byte x) (agree_below_at (λ y. list_all (λ b. nat_lt b 128) (escape_byte y) && nat_le (length (escape_byte y)) 6) (λ y. true) 128 x escapes within) in
        fits_weaker (6 + 6 * length t) (6 * length (x ∷ t)) (escape (x ∷ t)) (omega arith)
        (fits_append 6 (6 * length t) (escape_byte x) (escape t) byte (escaped t p.1))

fits_decimal : (n : ℕ) → n < 2 ^ 64 → Fits 20 (decimal n)
fits_decimal n small = record {
  ascii =
      decimal_by_steps (λ _ ds. list_all (λ b. nat_lt b 128) ds ≡ true) (λ d le. digit d le)
      (λ m ds big low. list_all-append (λ b. nat_lt b 128) ds ((48 + m % 10) ∷ []) ∙ rw (low, digit (m % 10) (omega arith)) refl) n small;
  short = length-decimal-le 20 n (omega arith) (omega arith) small;
}
  where
    digit : (d : ℕ) → d < 10 → list_all (λ b. nat_lt b 128) ((48 + d) ∷ []) ≡ true
    digit d le = let low : nat_lt (48 + d) 128 ≡ true = grind (arith, nat_tests) in rw low refl

-- ---- values

-- the text of a value, at most so long, is read as the value
pub record IsCarried (n : ℕ) (d : Data) : Type 0 where
  pub reads : of_json (outline d) ≡ Some d
  pub numbers : tree.HasNumbers (outline d)
  pub blanks : blank (outline d) ≡ outline d
  pub deep : tree.depth (outline d) ≡ depth d
  pub fits : Fits n (compact_text d)

pub carried_number : (n : ℕ) → n < 2 ^ 64 → IsCarried 20 (number (unsigned n))
carried_number n small = record {
  reads = ap (option_map number) (number_of-decimal n small);
  numbers = IsNumber-decimal n small;
  blanks = ap json.number (unless_float-number_of (decimal n) (unsigned n) (number_of-decimal n small));
  deep = refl;
  fits = fits_decimal n small;
}

pub carried_string : (n : ℕ) (s : List ℕ) → Fits n s → IsCarried (6 * n + 2) (string s)
carried_string n s f = record { reads = refl; numbers = tt; blanks = refl; deep = refl; fits = fits_quoted n s f }

pub record AreCarried (n : ℕ) (ds : Items) : Type 0 where
  pub reads : of_items (items_outline ds) ≡ Some ds
  pub numbers : tree.ItemsHaveNumbers (items_outline ds)
  pub blanks : blank_items (items_outline ds) ≡ items_outline ds
  pub deep : tree.items_depth (items_outline ds) ≡ items_depth ds
  pub fits : (later : Bool) → Fits n (items_text later ds)

comma_fits : (later : Bool) → Fits 1 (comma_if later)
comma_fits true = fits_word 1 (44 ∷ []) refl
comma_fits false = fits_word 1 [] refl

carried_none : AreCarried 1 no_items
carried_none = record { reads = refl; numbers = tt; blanks = refl; deep = refl; fits = λ later. fits_word 1 (93 ∷ []) refl }

carried_more : (m n : ℕ) (d : Data) (ds : Items) → IsCarried m d → AreCarried n ds → AreCarried (1 + (m + n)) (item d ds)
carried_more m n d ds c cs = record {
  reads = rw (c.reads, cs.reads) refl;
  numbers = (c.numbers, cs.numbers);
  blanks = ap₂ json.item c.blanks cs.blanks;
  deep = ap₂ max c.deep cs.deep;
  fits =
      λ later. fits_append 1 (m + n) (comma_if later) (compact_text d ++ items_text true ds) (comma_fits later) (fits_append m n (compact_text d) (items_text true ds) c.fits (cs.fits true));
}

-- so many bytes for each item, and one more
abbrev pub total : {A : Type 0} → ℕ → List A → ℕ
total m [] = 1
total m (x ∷ xs) = 1 + (m + total m xs)

carried_items : {A : Type 0} (m : ℕ) (f : A → Data) (xs : List A) → All (λ x. IsCarried m (f x)) xs → AreCarried (total m xs) (items_of (map f xs))
carried_items m f [] all = carried_none
carried_items m f (x ∷ xs) all =
    carried_more m (total m xs) (f x) (items_of (map f xs)) (All-head (λ y. IsCarried m (f y)) x xs all)
    (carried_items m f xs (All-tail (λ y. IsCarried m (f y)) x xs all))

pub carried_list : {A : Type 0} (m n : ℕ) (f : A → Data) (xs : List A) → All (λ x. IsCarried m (f x)) xs
    → total m xs ≤ n → IsCarried (1 + n) (array (items_of (map f xs)))
carried_list m n f xs all le =
    let c = carried_items m f xs all in
    record {
      reads = ap (option_map array) c.reads;
      numbers = c.numbers;
      blanks = ap json.array c.blanks;
      deep = ap suc c.deep;
      fits =
          fits_append 1 n (91 ∷ []) (items_text false (items_of (map f xs))) (fits_word 1 (91 ∷ []) refl)
          (fits_weaker (total m xs) n (items_text false (items_of (map f xs))) le (c.fits false));
    }

-- ---- members of an object; that they are read one after another is for the object to show

pub record HasMembers (n : ℕ) (ms : Members) : Type 0 where
  pub numbers : tree.MembersHaveNumbers (members_outline ms)
  pub blanks : blank_members (members_outline ms) ≡ members_outline ms
  pub deep : tree.members_depth (members_outline ms) ≡ members_depth ms
  pub fits : (later : Bool) → Fits n (members_text later ms)

pub no_more : HasMembers 1 no_members
no_more = record { numbers = tt; blanks = refl; deep = refl; fits = λ later. fits_word 1 (125 ∷ []) refl }

-- a member whose name has at most twenty bytes with its quotes and colon
pub with_member : (m n : ℕ) (k : List ℕ) (d : Data) (ms : Members) → Fits 20 (quoted k) → IsCarried m d
    → HasMembers n ms → HasMembers (22 + (m + n)) (member k d ms)
with_member m n k d ms name c cs = record {
  numbers = (c.numbers, cs.numbers);
  blanks = ap₂ (json.member k) c.blanks cs.blanks;
  deep = ap₂ max c.deep cs.deep;
  fits =
      λ later. fits_weaker (1 + (20 + (1 + (m + n)))) (22 + (m + n)) (members_text later (member k d ms)) (omega arith) (fits_append 1 (20 + (1 + (m + n))) (comma_if later) (quoted k ++ 58 ∷ (compact_text d ++ members_text true ms)) (comma_fits later)
      (fits_append 20 (1 + (m + n)) (quoted k) (58 ∷ (compact_text d ++ members_text true ms)) name
      (fits_append 1 (m + n) (58 ∷ []) (compact_text d ++ members_text true ms) (fits_word 1 (58 ∷ []) refl) (fits_append m n (compact_text d) (members_text true ms) c.fits (cs.fits true)))));
}

pub carried_object : (n : ℕ) (ms : Members) → of_members (members_outline ms) no_members ≡ Some ms → HasMembers n ms → IsCarried (1 + n) (object ms)
carried_object n ms reads c = record {
  reads = ap (option_map object) reads;
  numbers = c.numbers;
  blanks = ap json.object c.blanks;
  deep = ap suc c.deep;
  fits = fits_append 1 n (123 ∷ []) (members_text false ms) (fits_word 1 (123 ∷ []) refl) (c.fits false);
}

-- ---- the whole text

pub read_again : (n : ℕ) (d : Data) → IsCarried n d → depth d ≤ max_depth → read (compact_text d) ≡ Some d
read_again n d c shallow =
    let ts = tree.json_tokens (outline d) in
    let same : tokens (compact_text d) ≡ ts = ap tokens (sym (print-outline d)) ∙ tokens-print ts (ArePrintable-json_tokens (outline d) c.numbers) in
    let deep = c.deep in
    ap (λ o. option_and_then of_json (option_and_then (λ p. json.if_last p.0 p.1) o)) (ap (json.value max_depth) (same ∙ sym (append-nil ts)) ∙ value-json_tokens (outline d) max_depth [] (omega (arith, deep)))
    ∙ c.reads

pub utf8_again : (n : ℕ) (text : List ℕ) → Fits n text → IsUtf8 text
utf8_again n text f = IsUtf8-from_ascii text (IsAscii-from_all text (bytes text f.ascii))
  where
    bytes : (t : List ℕ) → list_all (λ b. nat_lt b 128) t ≡ true → All (λ b. b < 128) t
    bytes [] h = All-nil (λ b. b < 128)
    bytes (b ∷ t) h =
        let p = both (nat_lt b 128) (list_all (λ x. nat_lt x 128) t) h in let low = p.0 in All-cons (λ x. x < 128) b t (grind (arith, nat_tests)) (bytes t p.1)

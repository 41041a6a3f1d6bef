-- What is told after what was told.
use Rattle.std.proofs.Common.{◌≡◌, ℕ, zero, suc, ◌<◌, Bool, true, false, if◌then◌else◌, List, [], ◌∷◌, ◌++◌, length}
use Rattle.std.proofs.Common.{take, map, get_or, codes, refl, sym, ap, ◌∙◌, subst, arith, append_assoc, Result}
use Rattle.std.proofs.lemmas.Grind.{flat_map-append}
use Rattle.std.proofs.lemmas.List.{append-nil, map-append}
use Rattle.std.proofs.lemmas.Str.{is_utf8-from_IsUtf8, IsUtf8-from_is_utf8}
use Rattle.std.specs.List.{flat_map}
use Rattle.std.specs.Str.{IsUtf8, is_utf8}
use Rattle.base64.specs.Engines.{standard}
use Rattle.base64.specs.GeneralPurpose.{encode_of}
use Rattle.json.specs.Token.{Token, end_array}
use Rattle.json.specs.Written.{Written}
use Rattle.trace.specs.Members.{body_member, text_member}
use Rattle.trace.specs.Telling.{Adds, Tells, inset_tokens, part_token, run_tokens, tokens_of}
use Rattle.trace.specs.declared.draft.part.Part.{Part}
use Rattle.trace.specs.declared.draft.part.Run.{Run}
use Rattle.trace.specs.declared.draft.teller.Teller.{Teller}

-- one text after the other
pub tells_after : (front rest : List Token) (old mid new : Teller) → Tells front old mid → Tells rest mid new → Tells (front ++ rest) old new
tells_after front rest old mid new a b = record {
  tokens = λ whole. (let later = b.tokens whole in let earlier = a.tokens later.0 in
      (earlier.0, later.1 ∙ ap (λ (ts : List Token). ts ++ rest) earlier.1 ∙ append_assoc (tokens_of old.runs.items old.parts.items) front rest));
}

-- no text
pub tells_nothing : (old : Teller) → Tells [] old old
tells_nothing old = record { tokens = λ whole. (whole, sym (append-nil (tokens_of old.runs.items old.parts.items))) }

-- the same text
pub tells_same : (a b : List Token) (old new : Teller) → a ≡ b → Tells a old new → Tells b old new
tells_same a b old new is told = subst (λ (ts : List Token). Tells ts old new) is told

one_mapped : {A : Type 0} (f : A → Token) (xs : List A) (i : ℕ) (d : A) → i < length xs → map f (take i xs) ++ f (get_or xs i d) ∷ [] ≡ map f (take (suc i) xs)
one_mapped f [] i d lt = absurd (omega arith)
one_mapped f (x ∷ xs) zero d lt = refl
one_mapped f (x ∷ xs) (suc i) d lt = ap (λ (ts : List Token). f x ∷ ts) (one_mapped f xs i d (omega arith))

-- one token more
pub tells_one_more : {A : Type 0} (f : A → Token) (xs : List A) (i : ℕ) (d : A) (old mid new : Teller) → i < length xs
    → Tells (map f (take i xs)) old mid → Tells (f (get_or xs i d) ∷ []) mid new
    → Tells (map f (take (suc i) xs)) old new
tells_one_more f xs i d old mid new lt a b = tells_same _ _ old new (one_mapped f xs i d lt) (tells_after _ _ old mid new a b)

one_flat : {A : Type 0} (f : A → List Token) (xs : List A) (i : ℕ) (d : A) → i < length xs
    → flat_map f (take i xs) ++ f (get_or xs i d) ≡ flat_map f (take (suc i) xs)
one_flat f [] i d lt = absurd (omega arith)
one_flat f (x ∷ xs) zero d lt = sym (append-nil (f x))
one_flat f (x ∷ xs) (suc i) d lt =
    append_assoc (f x) (flat_map f (take i xs)) (f (get_or xs i d)) ∙ ap (λ (ts : List Token). f x ++ ts) (one_flat f xs i d (omega arith))

-- the text of one item more
pub tells_item_more : {A : Type 0} (f : A → List Token) (xs : List A) (i : ℕ) (d : A) (old mid new : Teller)
    → i < length xs → Tells (flat_map f (take i xs)) old mid → Tells (f (get_or xs i d)) mid new
    → Tells (flat_map f (take (suc i) xs)) old new
tells_item_more f xs i d old mid new lt a b = tells_same _ _ old new (one_flat f xs i d lt) (tells_after _ _ old mid new a b)

-- the same text, written
pub adds_same : {E : Type 0} (r : Result (Unit {0}) E) (a b : List Token) (old new : Written) → a ≡ b → Adds r a old new → Adds r b old new
adds_same r a b old new is added = subst (λ (ts : List Token). Adds r ts old new) is added

-- more parts
pub parts_more : (runs : List Run) (ps qs : List Part) → tokens_of runs (ps ++ qs) ≡ tokens_of runs ps ++ map part_token qs
parts_more runs ps qs =
    ap (λ (ts : List Token). flat_map run_tokens runs ++ ts) (map-append part_token ps qs)
    ∙ sym (append_assoc (flat_map run_tokens runs) (map part_token ps) (map part_token qs))

-- one run more, of the parts that were behind the runs
pub run_more : (runs : List Run) (run : Run) → tokens_of (runs ++ run ∷ []) [] ≡ tokens_of runs run.parts.items ++ inset_tokens run.inset
run_more runs run =
    append-nil (flat_map run_tokens (runs ++ run ∷ []))
    ∙ flat_map-append run_tokens runs (run ∷ [])
    ∙ ap (λ (ts : List Token). flat_map run_tokens runs ++ ts) (append-nil (run_tokens run))
    ∙ sym (append_assoc (flat_map run_tokens runs) (map part_token run.parts.items) (inset_tokens run.inset))

-- ---- the member with a body

pub text_body : (bytes text : List ℕ) → text ≡ bytes → IsUtf8 bytes → text_member (codes "body") text ≡ body_member true bytes
unfolding body_member
text_body bytes text same valid = rw (is_utf8-from_IsUtf8 bytes valid, same) refl

if_false : {A : Type 0} (b : Bool) (x y : A) → (b ≡ true → ⊥) → y ≡ (if b then x else y)
if_false true x y never = absurd (never refl)
if_false false x y never = refl

pub other_body : (bytes : List ℕ) → (IsUtf8 bytes → ⊥) → text_member (codes "bodyBase64") (encode_of standard bytes) ≡ body_member true bytes
unfolding body_member
other_body bytes invalid = if_false (is_utf8 bytes) _ _ (λ passes. invalid (IsUtf8-from_is_utf8 bytes passes))

-- a list's end comes after its items
pub tells_listed : (items rest : List Token) (old mid new : Teller) → Tells items old mid
    → Tells (end_array ∷ rest) mid new → Tells ((items ++ end_array ∷ []) ++ rest) old new
tells_listed items rest old mid new a b =
    tells_same _ _ old new (sym (append_assoc items (end_array ∷ []) rest)) (tells_after items (end_array ∷ rest) old mid new a b)

-- the items of a list that was mapped
pub flat_mapped : {A B : Type 0} (f : B → List Token) (g : A → B) (xs : List A) → flat_map (λ x. f (g x)) xs ≡ flat_map f (map g xs)
flat_mapped f g [] = refl
flat_mapped f g (x ∷ xs) = ap (λ (ts : List Token). f (g x) ++ ts) (flat_mapped f g xs)

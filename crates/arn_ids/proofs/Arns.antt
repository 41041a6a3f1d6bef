-- The text that names a function reads back as that function.
use Rattle.std.proofs.Common.{◌≡◌, ℕ, ◌≤◌, Bool, true, false, ◌&&◌, ◌==◌, nat_lt, if◌then◌else◌, List, [], ◌∷◌, ◌++◌}
use Rattle.std.proofs.Common.{length, codes, Ok, refl, ap, ◌∙◌, arith, All, append_assoc, length-append}
use Rattle.std.specs.List.{list_all}
use Rattle.std.proofs.lemmas.Bool.{eqb-true, le-ltb}
use Rattle.std.proofs.lemmas.Cmp.{nat_list_eq_equiv}
use Rattle.std.proofs.lemmas.List.{append-nil}
use Rattle.std.proofs.lemmas.List.Sums.{AllPass-from_list_all}
use Rattle.std.proofs.lemmas.List.Splits.{slice_split_at, slice_split_none}
use Rattle.arn_ids.specs.Words.{is_digit, is_name_byte, is_region_byte, is_account, is_region, is_name}
use Rattle.arn_ids.specs.Grammar.{parts, shape, named_in, named_by, arn, qualifier_text}
use Rattle.arn_ids.specs.declared.config.Home.{Home}
use Rattle.arn_ids.proofs.Bounds.{name_between, region_between, account_12}

abbrev is_colon : ℕ → Bool
is_colon b = b == 58

-- a character that passes a test which a colon fails is no colon
other : (p : ℕ → Bool) → p 58 ≡ false → (x : ℕ) → p x ≡ true → (x == 58) ≡ false
other p fails x passes = go (x == 58) refl
  where
    go : (b : Bool) → (x == 58) ≡ b → b ≡ false
    go true e = let same : p x ≡ p 58 = ap p (eqb-true x 58 e) in cc
    go false e = refl

colon_free : (p : ℕ → Bool) → p 58 ≡ false → (text : List ℕ) → list_all p text ≡ true → All (λ x. (x == 58) ≡ false) text
colon_free p fails text all = λ k d lt. other p fails _ (AllPass-from_list_all p text all k d lt)

both : (a b : Bool) → (a && b) ≡ true → (a ≡ true) × (b ≡ true)
both true b h = (refl, h)
both false b h = cc

-- the colons of an ARN stand where its parts end
cut_arn : (region account rest : List ℕ) → All (λ x. (x == 58) ≡ false) region → All (λ x. (x == 58) ≡ false) account
    → parts (codes "arn:aws:lambda:" ++ (region ++ 58 ∷ (account ++ 58 ∷ (codes "function:" ++ rest))))
    ≡ codes "arn" ∷ codes "aws" ∷ codes "lambda" ∷ region ∷ account ∷ codes "function" ∷ parts rest
cut_arn region account rest a b =
    ap (λ ps. codes "arn" ∷ codes "aws" ∷ codes "lambda" ∷ ps)
    (slice_split_at is_colon region 58 (account ++ 58 ∷ (codes "function:" ++ rest)) a refl
    ∙ ap (λ ps. region ∷ ps) (slice_split_at is_colon account 58 (codes "function:" ++ rest) b refl))

spelled : (home : Home) (name : List ℕ) (qualified : Bool) → arn home name qualified
    ≡ codes "arn:aws:lambda:" ++ (home.region ++ 58 ∷ (home.account ++ 58 ∷ (codes "function:" ++ (name ++ qualifier_text qualified))))
spelled home name qualified = simp append_assoc

-- the name and what follows it
cut_name : (name : List ℕ) (qualified : Bool) → All (λ x. (x == 58) ≡ false) name
    → parts (name ++ qualifier_text qualified) ≡ name ∷ (if qualified then codes "$LATEST" ∷ [] else [])
cut_name name true a = slice_split_at is_colon name 58 (codes "$LATEST") a refl
cut_name name false a = rw (append-nil name) (slice_split_none is_colon name a)

short : (home : Home) (name : List ℕ) (qualified : Bool) → is_account home.account ≡ true → is_region home.region ≡ true → is_name name ≡ true
    → nat_lt 170 (length (arn home name qualified)) ≡ false
short home name qualified account region named =
    let a = account_12 home.account account in
    let b = region_between home.region region in
    let c = name_between name named in
    let d : length (qualifier_text qualified) ≤ 8 = suffix qualified in
    le-ltb 170 (length (arn home name qualified)) (simp length-append (omega (arith, a, b.1, c.1, d)))
  where
    suffix : (q : Bool) → length (qualifier_text q) ≤ 8
    suffix true = omega arith
    suffix false = omega arith

named_parts : (home : Home) (name : List ℕ) (qualified : Bool) → is_account home.account ≡ true → is_region home.region ≡ true → is_name name ≡ true
    → named_by home (shape (codes "arn" ∷ codes "aws" ∷ codes "lambda" ∷ home.region ∷ home.account ∷ codes "function" ∷ name ∷ (if qualified then codes "$LATEST" ∷ [] else [])))
    ≡ Ok (record { name = name; qualified = qualified })
named_parts home name true account region named = rw (named, account, region, nat_list_eq_equiv.refl home.account, nat_list_eq_equiv.refl home.region) refl
named_parts home name false account region named = rw (named, account, region, nat_list_eq_equiv.refl home.account, nat_list_eq_equiv.refl home.region) refl

cut_to : (home : Home) (text : List ℕ) (pieces : List (List ℕ)) → nat_lt 170 (length text) ≡ false → parts text ≡ pieces
    → named_in home text ≡ named_by home (shape pieces)
unfolding named_in
cut_to home text pieces fits cuts = rw (fits, cuts) refl

-- The ARN of a function names it.
pub reads_back : (home : Home) (name : List ℕ) (qualified : Bool) → is_account home.account ≡ true → is_region home.region ≡ true → is_name name ≡ true
    → named_in home (arn home name qualified) ≡ Ok (record { name = name; qualified = qualified })
reads_back home name qualified account region named =
    let cuts : parts (arn home name qualified) ≡ codes "arn" ∷ codes "aws" ∷ codes "lambda" ∷ home.region ∷ home.account ∷ codes "function" ∷ name ∷ (if qualified then codes "$LATEST" ∷ [] else []) =
    ap parts (spelled home name qualified)
    ∙ cut_arn home.region home.account (name ++ qualifier_text qualified)
    (colon_free is_region_byte refl home.region (both _ _ region).1) (colon_free is_digit refl home.account (both _ _ account).1)
    ∙ ap (λ ps. codes "arn" ∷ codes "aws" ∷ codes "lambda" ∷ home.region ∷ home.account ∷ codes "function" ∷ ps)
    (cut_name name qualified (colon_free is_name_byte refl name (both _ _ named).1)) in
    cut_to home (arn home name qualified) _ (short home name qualified account region named) cuts ∙ named_parts home name qualified account region named

-- What is written in one go, and run by run.
use Rattle.std.proofs.Common.{◌≡◌, ℕ, zero, suc, ◌+◌, ◌<◌, Bool, true, false, if◌then◌else◌, List, [], ◌∷◌, ◌++◌}
use Rattle.std.proofs.Common.{length, take, map, fold, get_or, codes, refl, sym, ap, ◌∙◌, arith, append_assoc, add-one}
use Rattle.std.proofs.lemmas.List.{append-nil}
use Rattle.std.specs.List.{flat_map}
use Rattle.std.specs.Str.{is_utf8}
use Rattle.base64.specs.Engines.{standard}
use Rattle.base64.specs.GeneralPurpose.{encode_of}
use Rattle.json.specs.Print.{ends, ends_value, escape, print, print_from}
use Rattle.json.specs.Token.{Token, key, string}
use Rattle.json.proofs.Printed.Tokens.{print_from-append, ends_push}
use Rattle.trace.specs.Members.{body_member, text_member}
use Rattle.trace.specs.Telling.{inset_tokens, part_token, primed, quotes, run_tokens}
use Rattle.trace.specs.declared.draft.part.Inset.{Inset}
use Rattle.trace.specs.declared.draft.part.Inset.TheVariants.{Copied, Body}
use Rattle.trace.specs.declared.draft.part.Run.{Run}

-- an empty string in the place of a value
pub print-primed : (after : Bool) (ts : List Token) → print (primed after ts) ≡ quotes after ++ print_from after ts
unfolding print_from
print-primed false ts = refl
print-primed true ts = refl

-- what is written behind the empty string
pub primed-append : (after : Bool) (ts : List Token) → primed after [] ++ ts ≡ primed after ts
primed-append false ts = refl
primed-append true ts = refl

-- a member that is a text ends in a value
member_ends : (c : Bool) (ts : List Token) (name text : List ℕ) → fold (λ _ u. ends u) c (ts ++ text_member name text) ≡ true
member_ends c [] name text = refl
member_ends c (t ∷ ts) name text = member_ends (ends t) ts name text

inset_ends : (c : Bool) (ts : List Token) (inset : Inset) → fold (λ _ u. ends u) c (ts ++ inset_tokens inset) ≡ true
unfolding body_member
inset_ends c ts (Copied text) = ends_push c ts (string text)
inset_ends c ts (Body body) = body_ends (is_utf8 body)
  where
    body_ends : (b : Bool)
        → fold (λ _ u. ends u) c (ts ++ (if b then text_member (codes "body") body else text_member (codes "bodyBase64") (encode_of standard body))) ≡ true
    body_ends true = member_ends c ts (codes "body") body
    body_ends false = member_ends c ts (codes "bodyBase64") (encode_of standard body)

-- so does a run
pub run_ends : (c : Bool) (run : Run) → fold (λ _ u. ends u) c (run_tokens run) ≡ true
run_ends c run = inset_ends c (map part_token run.parts.items) run.inset

fold_append : (c : Bool) (ts us : List Token) → fold (λ _ u. ends u) c (ts ++ us) ≡ fold (λ _ u. ends u) (fold (λ _ u. ends u) c ts) us
fold_append c [] us = refl
fold_append c (t ∷ ts) us = fold_append (ends t) ts us

-- one run more
flat_more : (xs : List Run) (i : ℕ) (d : Run) → i < length xs
    → flat_map run_tokens (take i xs) ++ run_tokens (get_or xs i d) ≡ flat_map run_tokens (take (suc i) xs)
flat_more [] i d lt = absurd (omega arith)
flat_more (x ∷ xs) zero d lt = sym (append-nil (run_tokens x))
flat_more (x ∷ xs) (suc i) d lt =
    append_assoc (run_tokens x) (flat_map run_tokens (take i xs)) (run_tokens (get_or xs i d))
    ∙ ap (λ (ts : List Token). run_tokens x ++ ts) (flat_more xs i d (omega arith))

pub run_more : (xs : List Run) (i : ℕ) (d : Run) (after : Bool) (old mid new : List ℕ) → i < length xs
    → mid ≡ old ++ print (flat_map run_tokens (take i xs)) → after ≡ ends_value (flat_map run_tokens (take i xs))
    → new ≡ mid ++ print_from after (run_tokens (get_or xs i d)) → new ≡ old ++ print (flat_map run_tokens (take (suc i) xs))
run_more xs i d after old mid new lt is ends more =
    let ts : List Token = flat_map run_tokens (take i xs) in
    let us : List Token = run_tokens (get_or xs i d) in
    more ∙ ap (λ (l : List ℕ). l ++ print_from after us) is ∙ append_assoc old (print ts) (print_from after us)
    ∙ ap (λ (b : Bool). old ++ (print ts ++ print_from b us)) ends
    ∙ ap (λ (l : List ℕ). old ++ l) (sym (print_from-append false ts us))
    ∙ ap (λ (l : List Token). old ++ print l) (flat_more xs i d lt)

pub run_after : (xs : List Run) (i : ℕ) (d : Run) → i < length xs → true ≡ ends_value (flat_map run_tokens (take (suc i) xs))
run_after xs i d lt =
    let ts : List Token = flat_map run_tokens (take i xs) in
    let us : List Token = run_tokens (get_or xs i d) in
    sym (run_ends (fold (λ _ u. ends u) false ts) (get_or xs i d)) ∙ sym (fold_append false ts us)
    ∙ ap (λ (l : List Token). ends_value l) (flat_more xs i d lt)

-- the name of a member, and its text between two quotes
pub named : (after : Bool) (ts : List Token) (name text : List ℕ)
    → print_from after (ts ++ text_member name text) ≡ print_from after (ts ++ key name ∷ []) ++ 34 ∷ (escape text ++ 34 ∷ [])
unfolding print_from
named after ts name text =
    ap (print_from after) (sym (append_assoc ts (key name ∷ []) (string text ∷ [])))
    ∙ print_from-append after (ts ++ key name ∷ []) (string text ∷ [])
    ∙ ap (λ (b : Bool). print_from after (ts ++ key name ∷ []) ++ print_from b (string text ∷ [])) (ends_push after ts (key name))
    ∙ ap (λ (l : List ℕ). print_from after (ts ++ key name ∷ []) ++ l) (append-nil (34 ∷ (escape text ++ 34 ∷ [])))

-- the runs, and the parts behind them
pub whole_line : (ts us : List Token) (after : Bool) (first second : List ℕ) → first ≡ print ts → after ≡ ends_value ts
    → second ≡ first ++ print_from after us → second ≡ print (ts ++ us)
whole_line ts us after first second is ends more =
    more ∙ ap (λ (l : List ℕ). l ++ print_from after us) is ∙ ap (λ (b : Bool). print ts ++ print_from b us) ends ∙ sym (print_from-append false ts us)

-- what was written where an empty string takes the value's place
pub begun_behind : (after : Bool) (start written added : List Token) → start ≡ primed after []
    → written ≡ start ++ added → print written ≡ quotes after ++ print_from after added
begun_behind after start written added begun is =
    ap print (is ∙ ap (λ (l : List Token). l ++ added) begun ∙ primed-append after added) ∙ print-primed after added

-- the same with a token behind the parts
pub begun_behind_more : (after : Bool) (start mid written parts : List Token) (t : Token) → start ≡ primed after [] → mid ≡ start ++ parts
    → written ≡ mid ++ t ∷ [] → print written ≡ quotes after ++ print_from after (parts ++ t ∷ [])
begun_behind_more after start mid written parts t begun is more =
    begun_behind after start written (parts ++ t ∷ []) begun
    (more ∙ ap (λ (l : List Token). l ++ t ∷ []) is ∙ append_assoc start parts (t ∷ []))

-- the member with a body
pub body_joined : (after : Bool) (ts member : List Token) (name content coded_body t0 t1 t2 t3 t4 : List ℕ)
    → member ≡ text_member name content → coded_body ≡ escape content
    → t1 ≡ t0 ++ print_from after (ts ++ key name ∷ []) → t2 ≡ t1 ++ 34 ∷ [] → t3 ≡ t2 ++ coded_body → t4 ≡ t3 ++ 34 ∷ []
    → t4 ≡ t0 ++ print_from after (ts ++ member)
body_joined after ts member name content coded_body t0 t1 t2 t3 t4 is same first quote body last =
    let p : List ℕ = print_from after (ts ++ key name ∷ []) in
    let e : List ℕ = escape content in
    last
    ∙ ap (λ (l : List ℕ). l ++ 34 ∷ []) (body ∙ ap (λ (l : List ℕ). t2 ++ l) same ∙ ap (λ (l : List ℕ). l ++ e) (quote ∙ ap (λ (l : List ℕ). l ++ 34 ∷ []) first))
    ∙ append_assoc ((t0 ++ p) ++ 34 ∷ []) e (34 ∷ [])
    ∙ append_assoc (t0 ++ p) (34 ∷ []) (e ++ 34 ∷ [])
    ∙ append_assoc t0 p (34 ∷ (e ++ 34 ∷ []))
    ∙ ap (λ (l : List ℕ). t0 ++ l) (sym (named after ts name content))
    ∙ ap (λ (l : List Token). t0 ++ print_from after (ts ++ l)) (sym is)

-- both, of an item
pub one_run_more : (xs : List Run) (i : ℕ) (item : Run) (after : Bool) (old mid new : List ℕ) → i < length xs → item ≡ get_or xs i item
    → mid ≡ old ++ print (flat_map run_tokens (take i xs)) → after ≡ ends_value (flat_map run_tokens (take i xs))
    → new ≡ mid ++ print_from after (run_tokens item) → new ≡ old ++ print (flat_map run_tokens (take (i + 1) xs))
one_run_more xs i item after old mid new lt here is ends more =
    run_more xs i item after old mid new lt is ends (more ∙ ap (λ (r : Run). mid ++ print_from after (run_tokens r)) here)
    ∙ ap (λ (n : ℕ). old ++ print (flat_map run_tokens (take n xs))) (sym (add-one i))

pub one_run_after : (xs : List Run) (i : ℕ) (item : Run) → i < length xs → true ≡ ends_value (flat_map run_tokens (take (i + 1) xs))
one_run_after xs i item lt = run_after xs i item lt ∙ ap (λ (n : ℕ). ends_value (flat_map run_tokens (take n xs))) (sym (add-one i))

-- no run yet
pub no_run : (text : List ℕ) → text ≡ text ++ print []
unfolding print_from
no_run text = sym (append-nil text)

-- the line: the runs, the parts behind them, and a line feed
pub line_joined : (ts us : List Token) (after : Bool) (t0 t1 t2 t3 : List ℕ) → t0 ≡ [] → t1 ≡ t0 ++ print ts → after ≡ ends_value ts
    → t2 ≡ t1 ++ print_from after us → t3 ≡ t2 ++ 10 ∷ [] → t3 ≡ print (ts ++ us) ++ 10 ∷ []
line_joined ts us after t0 t1 t2 t3 none first ends second last =
    last ∙ ap (λ (l : List ℕ). l ++ 10 ∷ []) (whole_line ts us after t1 t2 (first ∙ ap (λ (l : List ℕ). l ++ print ts) none) ends second)

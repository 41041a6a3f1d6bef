-- The calls and the counts of a history, by ticket.
use Rattle.std.proofs.Common.{◌≡◌, ℕ, suc, ◌<◌, ◌≤◌, ◌==◌, nat_lt, Bool, true, false, cond, List, [], ◌∷◌, length, get_or, reverse, refl, sym, ap, ◌∙◌, arith}
use Rattle.std.proofs.lemmas.List.{length-reverse, reverse-reverse}
use Rattle.std.proofs.lemmas.Grind.{reverse_onto}
use Rattle.std.proofs.Math.ListN.{get_or-append}
use Rattle.std.proofs.Math.Seq.{get_or-append_seam}
use Rattle.std.proofs.lemmas.Bool.Decides.{nat_tests}
use Rattle.call_types.specs.declared.call.Call.{Call}
use Rattle.call_types.specs.declared.call.Call.TheVariants.{Invoke, RuntimeNext, Response, ResponseTooLarge, Failure}
use Rattle.call_types.specs.declared.call.Call.TheVariants.{InitFailure, Register, ExtNext, ExtInitFailure}
use Rattle.call_types.specs.declared.call.Call.TheVariants.{ExtExitFailure, Tick, Withdraw, Spindown, Stop, Expire}
use Rattle.call_types.specs.declared.call.Call.TheVariants.{Reserve}
use Rattle.std.proofs.lemmas.Bool.{eqb-true}
use Rattle.call_types.specs.declared.call.Entry.{Entry}
use Rattle.call_model.specs.History.{call_of, upto, requests, is_invoke_of}
use Rattle.call_model.specs.CallCounts.{call_counts, request_count}

pub no_call : (h : List Entry) (t : ℕ) → length h ≤ t → call_of h t ≡ Expire 0
no_call [] t far = refl
no_call (entry ∷ h) t far = let other : (t == length h) ≡ false = grind (arith, nat_tests) in rw other (no_call h t (omega arith))

pub as_many_counts : (h : List Entry) → length (call_counts h) ≡ length h
as_many_counts [] = refl
as_many_counts (entry ∷ h) = ap suc (as_many_counts h)

-- the oldest first: the newest stands last, and those before it where they stood
at_last : {A : Type 0} (x : A) (xs : List A) (t : ℕ) (d : A) → length xs ≡ t → get_or (reverse (x ∷ xs)) t d ≡ x
at_last x xs t d e = let n : t ≡ length (reverse xs) = sym e ∙ sym (length-reverse xs) in rw (reverse_onto xs x [], n) (get_or-append_seam (reverse xs) x [] d)

before_last : {A : Type 0} (x : A) (xs : List A) (t : ℕ) (d : A) → t < length xs → get_or (reverse (x ∷ xs)) t d ≡ get_or (reverse xs) t d
before_last x xs t d h = rw (reverse_onto xs x []) (get_or-append (reverse xs) (x ∷ []) d t (rw (length-reverse xs) h))

pub call_at : (h : List Entry) (t : ℕ) (d : Entry) → t < length h → (get_or (reverse h) t d).call ≡ call_of h t
call_at [] t d within = absurd (omega arith)
call_at (entry ∷ h) t d within = go (call_at h t d) (t == length h) refl
  where
    go : (t < length h → (get_or (reverse h) t d).call ≡ call_of h t) → (b : Bool) → (t == length h) ≡ b
        → (get_or (reverse (entry ∷ h)) t d).call ≡ cond b entry.call (call_of h t)
    go again true e = let at : length h ≡ t = grind (arith, nat_tests) in ap (λ (entry : Entry). entry.call) (at_last entry h t d at)
    go again false e =
        let before : t < length h = grind (arith, nat_tests) in ap (λ (entry : Entry). entry.call) (before_last entry h t d before) ∙ again before

pub count_at : (h : List Entry) (t : ℕ) → t < length h → get_or (reverse (call_counts h)) t 0 ≡ request_count (upto h t) (call_of h t)
count_at [] t within = absurd (omega arith)
count_at (entry ∷ h) t within = go (count_at h t) (t == length h) refl (nat_lt t (length h)) refl
  where
    go : (t < length h → get_or (reverse (call_counts h)) t 0 ≡ request_count (upto h t) (call_of h t))
        → (newest : Bool) → (t == length h) ≡ newest → (before : Bool) → nat_lt t (length h) ≡ before
        → get_or (reverse (call_counts (entry ∷ h))) t 0 ≡ request_count (cond before (upto h t) (entry ∷ h)) (cond newest entry.call (call_of h t))
    go again true e true f = absurd (grind (arith, nat_tests))
    go again true e false f =
        let at : length (call_counts h) ≡ t = grind (arith, nat_tests, as_many_counts h) in at_last (request_count (entry ∷ h) entry.call) (call_counts h) t 0 at
    go again false e true f =
        let before : t < length h = grind (arith, nat_tests) in let there : t < length (call_counts h) = omega (arith, as_many_counts h) in before_last (request_count (entry ∷ h) entry.call) (call_counts h) t 0 there ∙ again before
    go again false e false f = absurd (grind (arith, nat_tests))

-- the same over the entries from the oldest on
pub call_here : (entries : List Entry) (t : ℕ) (d : Entry) → t < length entries → (get_or entries t d).call ≡ call_of (reverse entries) t
call_here entries t d within = rw reverse-reverse at (call_at (reverse entries) t d (rw (length-reverse entries) within))

pub no_call_here : (entries : List Entry) (t : ℕ) → length entries ≤ t → call_of (reverse entries) t ≡ Expire 0
no_call_here entries t far = no_call (reverse entries) t (rw (length-reverse entries) far)

pub as_many : (entries : List Entry) (counts : List ℕ) → reverse counts ≡ call_counts (reverse entries) → length counts ≡ length entries
as_many entries counts e = sym (length-reverse counts) ∙ ap length e ∙ as_many_counts (reverse entries) ∙ length-reverse entries

pub count_here : (entries : List Entry) (counts : List ℕ) (t : ℕ) → reverse counts ≡ call_counts (reverse entries)
    → t < length counts → get_or counts t 0 ≡ request_count (upto (reverse entries) t) (call_of (reverse entries) t)
count_here entries counts t e within =
    let many = as_many entries counts e in
    let back : reverse (call_counts (reverse entries)) ≡ counts = ap reverse (sym e) ∙ reverse-reverse counts in
    ap (λ (c : List ℕ). get_or c t 0) (sym back) ∙ count_at (reverse entries) t (rw (length-reverse entries) (omega arith))

pub no_count_here : (entries : List Entry) (counts : List ℕ) (t : ℕ) → reverse counts ≡ call_counts (reverse entries)
    → length counts ≤ t → request_count (upto (reverse entries) t) (call_of (reverse entries) t) ≡ 0
no_count_here entries counts t e far = ap (request_count (upto (reverse entries) t)) (no_call_here entries t (omega (arith, as_many entries counts e)))

count_of_invoke : (g : List Entry) (f : ℕ) (call : Call) → is_invoke_of f call ≡ true → request_count g call ≡ requests g f
count_of_invoke g f (Invoke e qualified trace body) h = ap (requests g) (eqb-true e f h)
count_of_invoke g f (RuntimeNext e) h = cc
count_of_invoke g f (Response e n body) h = cc
count_of_invoke g f (ResponseTooLarge e n) h = cc
count_of_invoke g f (Failure e n body) h = cc
count_of_invoke g f (InitFailure e body) h = cc
count_of_invoke g f (Register e name invoke shutdown account) h = cc
count_of_invoke g f (ExtNext e x) h = cc
count_of_invoke g f (ExtInitFailure e x body) h = cc
count_of_invoke g f (ExtExitFailure e x body) h = cc
count_of_invoke g f Tick h = cc
count_of_invoke g f (Withdraw t) h = cc
count_of_invoke g f (Spindown e) h = cc
count_of_invoke g f Stop h = cc
count_of_invoke g f (Expire e) h = cc
count_of_invoke g f (Reserve e count) h = cc

-- the count of an Invoke of f is how many Invokes of f there are up to it
pub requests_at : (h : List Entry) (t f : ℕ) → t < length h → is_invoke_of f (call_of h t) ≡ true → get_or (reverse (call_counts h)) t 0 ≡ requests (upto h t) f
requests_at h t f within invokes = count_at h t within ∙ count_of_invoke (upto h t) f (call_of h t) invokes

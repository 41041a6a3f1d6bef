-- The bells that stay are those of tickets that wait.
use Rattle.std.proofs.Common.{◌≡◌, ℕ, suc, ◌+◌, ◌<◌, ◌≤◌, List, [], ◌∷◌, ◌++◌, Bool, true, false, not, ◌&&◌, ◌||◌, ◌==◌}
use Rattle.std.proofs.Common.{length, length-append, reverse, Option, Some, None, if◌then◌else◌, refl, sym, ap, ◌∙◌}
use Rattle.std.proofs.Common.{arith}
use Rattle.std.specs.Prelude.{is_some}
use Rattle.std.specs.List.{list_all, list_any}
use Rattle.std.proofs.lemmas.Bool.Decides.{nat_tests}
use Rattle.std.proofs.lemmas.Grind.{flat_map-append}
use Rattle.std.proofs.lemmas.List.{append-nil, reverse-append}
use Rattle.std.proofs.lemmas.List.Folds.{list_any-append}
use Rattle.arn_ids.specs.declared.config.Config.{Config}
use Rattle.call_types.specs.declared.answer.Answer.{Answer}
use Rattle.call_types.specs.declared.call.Call.{Call}
use Rattle.call_types.specs.declared.call.Entry.{Entry}
use Rattle.call_model.specs.History.{answer_in, answer_of, answered, call_of, is_expiry, or_else, pending}
use Rattle.call_model.specs.Next.{IsLegal, added, next, entry_of, expiries, moment_at, due}
use Rattle.call_model.proofs.AfterEntry.{answer_of_append}
use Rattle.call_model.proofs.Once.{fresh}
use Rattle.account_lock.specs.Bells.{other_bells, bells_after, own_bell, answers_of, given}

pub and_true : (a b : Bool) → (a && b) ≡ true → (a ≡ true) × (b ≡ true)
and_true true b e = (refl, e)
and_true false b e = cc

pub both_true : (a b : Bool) → a ≡ true → b ≡ true → (a && b) ≡ true
both_true a b p q = ap (λ x. x && b) p ∙ q

pub not_true : (b : Bool) → not b ≡ true → b ≡ false
not_true true e = cc
not_true false e = refl

neither : (a b : Bool) → (a || b) ≡ false → (a ≡ false) × (b ≡ false)
neither true b e = cc
neither false b e = (refl, e)

not_either : (a b : Bool) → a ≡ false → b ≡ false → not (a || b) ≡ true
not_either a b p q = ap (λ x. not (x || b)) p ∙ ap not q

pub all_by : {X : Type 0} (p q : X → Bool) (xs : List X) → ((x : X) → p x ≡ true → q x ≡ true) → list_all p xs ≡ true → list_all q xs ≡ true
all_by p q [] f w = refl
all_by p q (x ∷ xs) f w = let s = and_true _ _ w in both_true _ _ (f x s.0) (all_by p q xs f s.1)

pub all_both : {X : Type 0} (p : X → Bool) (xs ys : List X) → list_all p xs ≡ true → list_all p ys ≡ true → list_all p (xs ++ ys) ≡ true
all_both p [] ys v w = w
all_both p (x ∷ xs) ys v w = let s = and_true _ _ v in both_true _ _ s.0 (all_both p xs ys s.1 w)

-- whether answers have one for a ticket
abbrev pub gives : List (ℕ × Answer) → ℕ → Bool
gives answers t = list_any (λ a. a.0 == t) answers

gives_none_in : (answers : List (ℕ × Answer)) (t : ℕ) → gives answers t ≡ false → answer_in answers t ≡ None
gives_none_in [] t e = refl
gives_none_in (a ∷ answers) t e = go (a.0 == t) (neither _ _ e).0 (gives_none_in answers t (neither _ _ e).1)
  where
    go : (b : Bool) → b ≡ false → answer_in answers t ≡ None → (if b then Some a.1 else answer_in answers t) ≡ None
    go true f k = cc
    go false f k = k

given_cons : (entry : Entry) (es : List Entry) → given (entry ∷ es) ≡ given es ++ entry.answers
given_cons entry es =
    ap answers_of (reverse-append (entry ∷ []) es)
    ∙ flat_map-append (λ (x : Entry). x.answers) (reverse es) (entry ∷ [])
    ∙ ap (λ (xs : List (ℕ × Answer)). given es ++ xs) (append-nil entry.answers)

gives_none : (es : List Entry) (t : ℕ) → gives (given es) t ≡ false → answer_of es t ≡ None
gives_none [] t e = refl
gives_none (entry ∷ es) t e =
    let s = neither _ _ (sym (list_any-append (λ (a : ℕ × Answer). a.0 == t) (given es) entry.answers) ∙ ap (λ (xs : List (ℕ × Answer)). gives xs t) (sym (given_cons entry es)) ∙ e) in
    ap (λ (a : Option Answer). or_else a (answer_of es t)) (gives_none_in entry.answers t s.1) ∙ gives_none es t s.0

-- the bells that stay, of those for whose tickets something holds
apart : {B : Type 0} (p : ℕ → Bool) (t : ℕ) (bells : List (ℕ × B)) → list_all (λ b. p b.0) bells ≡ true
    → list_all (λ b. p b.0 && not (t == b.0)) (other_bells t bells) ≡ true
apart p t [] w = refl
apart p t (bell ∷ bells) w = let s = and_true _ _ w in go (bell.0 == t) refl s.0 (apart p t bells s.1)
  where
    go : (b : Bool) → (bell.0 == t) ≡ b → p bell.0 ≡ true
        → list_all (λ c. p c.0 && not (t == c.0)) (other_bells t bells) ≡ true
        → list_all (λ c. p c.0 && not (t == c.0)) (if b then other_bells t bells else bell ∷ other_bells t bells) ≡ true
    go true q v k = k
    go false q v k = both_true _ _ (both_true _ _ v (ap not turned)) k
      where
        turned : (t == bell.0) ≡ false
        turned = grind (arith, nat_tests, q)

pub left : {B : Type 0} (answers : List (ℕ × Answer)) (p : ℕ → Bool) (bells : List (ℕ × B))
    → list_all (λ b. p b.0) bells ≡ true
    → list_all (λ b. p b.0 && not (gives answers b.0)) (bells_after answers bells) ≡ true
left [] p bells w = all_by (λ b. p b.0) (λ b. p b.0 && true) bells (λ b v. both_true _ _ v refl) w
left (a ∷ answers) p bells w =
    all_by (λ b. (p b.0 && not (a.0 == b.0)) && not (gives answers b.0)) (λ b. p b.0 && not (gives (a ∷ answers) b.0))
    (bells_after answers (other_bells a.0 bells))
    (λ b v. let s = and_true _ _ v in let r = and_true _ _ s.0 in both_true _ _ r.0 (not_either _ _ (not_true _ r.1) (not_true _ s.1)))
    (left answers (λ t. p t && not (a.0 == t)) (other_bells a.0 bells) (apart p a.0 bells w))

-- a ticket whose call is none of the clock's stands in the history
pub known : (h : List Entry) (t : ℕ) → is_expiry (call_of h t) ≡ false → t < length h
known [] t e = cc
known (entry ∷ h) t e = go (λ k. known h t k) (t == length h) refl e
  where
    go : (is_expiry (call_of h t) ≡ false → t < length h) → (b : Bool) → (t == length h) ≡ b
        → is_expiry (if b then entry.call else call_of h t) ≡ false → t < suc (length h)
    go older true q k = grind (arith, nat_tests, q)
    go older false q k = omega (arith, older k)

call_old : (es h : List Entry) (t : ℕ) → t < length h → call_of (es ++ h) t ≡ call_of h t
call_old [] h t lt = refl
call_old (entry ∷ es) h t lt = go (t == length (es ++ h)) other (call_old es h t lt)
  where
    other : (t == length (es ++ h)) ≡ false
    other = grind (arith, nat_tests, lt, length-append es h)

    go : (b : Bool) → b ≡ false → call_of (es ++ h) t ≡ call_of h t → (if b then entry.call else call_of (es ++ h) t) ≡ call_of h t
    go true q k = cc
    go false q k = k

-- whether the call of a ticket is none of the clock's, and nothing was answered to it before the step
abbrev pub waited : List Entry → List Entry → ℕ → Bool
waited es h t = not (is_expiry (call_of (es ++ h) t)) && not (answered h t)

old_waited : (es h : List Entry) (t : ℕ) → pending h t ≡ true → waited es h t ≡ true
old_waited es h t w =
    let s = and_true _ _ w in
    both_true _ _ (ap (λ (c : Call). not (is_expiry c)) (call_old es h t (known h t (not_true _ s.0))) ∙ s.0) s.1

waits_still : (es h : List Entry) (t : ℕ) → (waited es h t && not (gives (given es) t)) ≡ true → pending (es ++ h) t ≡ true
waits_still es h t w =
    let s = and_true _ _ w in
    let r = and_true _ _ s.0 in
    let none = gives_none es t (not_true _ s.1) in
    both_true _ _ r.0 (ap (λ (a : Option Answer). not (is_some a)) (answer_of_append es h t ∙ ap (λ (a : Option Answer). or_else a (answer_of h t)) none) ∙ r.1)

own_waited : {B : Type 0} (es h : List Entry) (t : ℕ) (bell : Option B) → waited es h t ≡ true → list_all (λ b. waited es h b.0) (own_bell t bell) ≡ true
own_waited es h t None w = refl
own_waited es h t (Some bell) w = both_true _ _ w refl

own_head : (entry : Entry) (h : List Entry) (t : ℕ) → t + 1 ≡ suc (length h) → call_of (entry ∷ h) t ≡ entry.call
own_head entry h t q = go (t == length h) same
  where
    same : (t == length h) ≡ true
    same = grind (arith, nat_tests, q)

    go : (b : Bool) → b ≡ true → (if b then entry.call else call_of h t) ≡ entry.call
    go true k = refl
    go false k = cc

own_call : (config : Config) (h : List Entry) (now : ℕ) (call : Call) (t : ℕ)
    → t + 1 ≡ length (added config h now call ++ h) → call_of (added config h now call ++ h) t ≡ call
unfolding added
own_call config h now call t q =
    let m = moment_at h now in
    let es = expiries config m (due config h m) h in
    own_head (entry_of config (es ++ h) m call) (es ++ h) t q

pub past : (config : Config) (h : List Entry) (now : ℕ) (call : Call) (t : ℕ) → t + 1 ≡ length (added config h now call ++ h) → length h ≤ t
unfolding added
past config h now call t q =
    let m = moment_at h now in
    let es = expiries config m (due config h m) h in
    omega (arith, q, length-append es h)

-- After a step each bell belongs to a ticket that waits.
pub still_waiting : {B : Type 0} (config : Config) (h : List Entry) (now : ℕ) (call : Call) (t : ℕ) (bells : List (ℕ × B)) (bell : Option B)
    → IsLegal config h → is_expiry call ≡ false → t + 1 ≡ length (next config h now call) → list_all (λ b. pending h b.0) bells ≡ true
    → list_all (λ b. pending (next config h now call) b.0) (bells_after (given (added config h now call)) (bells ++ own_bell t bell)) ≡ true
unfolding next
still_waiting config h now call t bells bell legal called last w =
    let es = added config h now call in
    let own : waited es h t ≡ true =
    both_true _ _ (ap (λ (c : Call). not (is_expiry c)) (own_call config h now call t last) ∙ ap not called)
    (ap (λ (a : Option Answer). not (is_some a)) (fresh config h t legal (past config h now call t last))) in
    let olds = all_by (λ b. pending h b.0) (λ b. waited es h b.0) bells (λ b v. old_waited es h b.0 v) w in
    let all = all_both (λ b. waited es h b.0) bells (own_bell t bell) olds (own_waited es h t bell own) in
    all_by (λ b. waited es h b.0 && not (gives (given es) b.0)) (λ b. pending (es ++ h) b.0) (bells_after (given es) (bells ++ own_bell t bell))
    (λ b v. waits_still es h b.0 v) (left (given es) (waited es h) (bells ++ own_bell t bell) all)

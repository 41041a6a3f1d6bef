-- The history before an entry.
use Rattle.std.proofs.Common.{◌≡◌, ℕ, zero, suc, ◌+◌, ◌-◌, ◌<◌, ◌≤◌, List, [], ◌∷◌, length, reverse, drop, get_or, None}
use Rattle.std.proofs.Common.{refl, sym, ap, ap₂, ◌∙◌, arith, drop-cons}
use Rattle.std.proofs.lemmas.List.{get_or-reverse, length-drop, length-reverse}
use Rattle.arn_ids.specs.declared.config.Config.{Config}
use Rattle.call_types.specs.declared.call.Entry.{Entry}
use Rattle.call_model.specs.History.{call_of, poll_env}
use Rattle.call_model.specs.Next.{IsLegal}
use Rattle.call_model.proofs.AfterEntry.{call_of_old}
use Rattle.call_model.proofs.PastLemmas.{call_here, no_call}
use Rattle.fleet.specs.Reaches.{before}

pub legal_drop : (config : Config) (n : ℕ) (h : List Entry) → IsLegal config h → IsLegal config (drop n h)
legal_drop config zero h l = l
legal_drop config (suc n) [] l = l
legal_drop config (suc n) (entry ∷ h) l = legal_drop config n h l.0

pub length_before : (h : List Entry) (t : ℕ) → t ≤ length h → length (before h t) ≡ t
length_before h t le = let is : length (drop (length h - t) h) ≡ length h - (length h - t) = length-drop (length h - t) h in omega (arith, is, le)

pub call_of_drop : (n : ℕ) (h : List Entry) (t : ℕ) → t < length (drop n h) → call_of (drop n h) t ≡ call_of h t
call_of_drop zero h t lt = refl
call_of_drop (suc n) [] t lt = refl
call_of_drop (suc n) (entry ∷ h) t lt =
    let less : length (drop n h) ≤ length h = shorter n h in
    call_of_drop n h t lt ∙ sym (call_of_old entry h t (omega (arith, lt, less)))
  where
    shorter : (m : ℕ) (k : List Entry) → length (drop m k) ≤ length k
    shorter zero k = omega arith
    shorter (suc m) [] = omega arith
    shorter (suc m) (x ∷ k) = omega (arith, shorter m k)

-- it grows by the entry
pub one_later : (entries : List Entry) (t : ℕ) (d : Entry) → t < length entries
    → before (reverse entries) (t + 1) ≡ get_or entries t d ∷ before (reverse entries) t
one_later entries t d lt =
    let long : length (reverse entries) ≡ length entries = length-reverse entries in
    let n : ℕ = length (reverse entries) - (t + 1) in
    let next : suc n ≡ length (reverse entries) - t = omega (arith, long, lt) in
    let there : n < length (reverse entries) = omega (arith, long, lt) in
    let back : length entries - 1 - n ≡ t = omega (arith, long, lt) in
    drop-cons (reverse entries) n d there
    ∙ ap₂ (λ (x : Entry) (k : ℕ). x ∷ drop k (reverse entries))
    (get_or-reverse entries n d (omega (arith, long, lt)) ∙ ap (λ (k : ℕ). get_or entries k d) back) next

-- a ticket that is not older has no call there
pub far_call : (entries : List Entry) (own t : ℕ) → own ≤ length entries → own ≤ t → None ≡ poll_env (call_of (before (reverse entries) own) t)
far_call entries own t there far =
    let long : length (before (reverse entries) own) ≡ own = length_before (reverse entries) own (omega (arith, there, length-reverse entries)) in
    sym (ap poll_env (no_call (before (reverse entries) own) t (omega (arith, long, far))))

-- one that is older has its own
pub near_call : (entries : List Entry) (own t : ℕ) (d : Entry) → own ≤ length entries → t < own
    → poll_env (get_or entries t d).call ≡ poll_env (call_of (before (reverse entries) own) t)
near_call entries own t d there near =
    let long : length (before (reverse entries) own) ≡ own = length_before (reverse entries) own (omega (arith, there, length-reverse entries)) in
    ap poll_env
    (call_here entries t d (omega (arith, there, near)) ∙ sym (call_of_drop (length (reverse entries) - own) (reverse entries) t (omega (arith, long, near))))

-- before the next entry stand all
pub before_next : (entries : List Entry) (t : ℕ) → t ≡ length entries → before (reverse entries) t ≡ reverse entries
before_next entries t is =
    let none : length (reverse entries) - t ≡ 0 = omega (arith, is, length-reverse entries) in
    ap (λ (n : ℕ). drop n (reverse entries)) none

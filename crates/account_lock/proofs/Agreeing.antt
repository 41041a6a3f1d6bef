-- What is kept of calls, and the history.
use Rattle.std.proofs.Common.{◌≡◌, ℕ, ◌+◌, ◌<◌, ◌≤◌, ◌==◌, Bool, true, false, cond, List, [], ◌∷◌, length, reverse}
use Rattle.std.proofs.Common.{Option, Some, None, min, refl, sym, ap, ◌∙◌, arith, if◌then◌else◌}
use Rattle.std.specs.Prelude.{is_some, nat_lt, slice_get}
use Rattle.std.specs.List.{All}
use Rattle.std.proofs.lemmas.Bool.Decides.{nat_tests}
use Rattle.std.proofs.lemmas.List.{length-reverse}
use Rattle.std.proofs.lemmas.Option.{get_or_from_slice_get, slice_get-get_or, slice_get_within}
use Rattle.std.proofs.lemmas.List.Elements.{All-head, All-tail}
use Rattle.std.proofs.lemmas.List.Sums.{sum_by-cons}
use Rattle.arn_ids.specs.declared.config.Config.{Config}
use Rattle.call_types.specs.declared.answer.Answer.{Answer}
use Rattle.call_types.specs.declared.call.Call.TheVariants.{Expire}
use Rattle.call_types.specs.declared.call.Entry.{Entry}
use Rattle.call_types.specs.declared.head.Head.{Head}
use Rattle.call_model.specs.History.{answer_of, call_of}
use Rattle.call_model.specs.Next.{IsLegal}
use Rattle.call_model.proofs.Once.{fresh}
use Rattle.call_model.proofs.PastLemmas.{call_at}
use Rattle.usage_ledger.specs.Tallies.{Tallied}
use Rattle.account_lock.specs.Gathered.{occurrences, receipts_of, calls_of}
use Rattle.account_lock.specs.Failing.{FirstFailure, lesser}
use Rattle.account_lock.specs.Settlement.{made, head_at, Agree, Rises, HasReceipt, CallsAgree}
use Rattle.account_lock.proofs.FirstFailures.{same, both}

-- an entry
nobody : Entry
nobody = record { moment = 0; call = Expire 0; answers = []; place = None }

same_true : (a b : ℕ) → (a == b) ≡ true → a ≡ b
same_true a b e = grind (arith, nat_tests)

-- past the end there is no call
pub past_end : (h : List Entry) (t : ℕ) → length h ≤ t → call_of h t ≡ Expire 0
past_end [] t le = refl
past_end (entry ∷ h) t le = go (t == length h) other (past_end h t (omega arith))
  where
    other : (t == length h) ≡ false
    other = grind (arith, nat_tests, le)

    go : (b : Bool) → b ≡ false → call_of h t ≡ Expire 0 → (if b then entry.call else call_of h t) ≡ Expire 0
    go true q k = cc
    go false q k = k

-- and no head
pub no_head : (h : List Entry) (t : ℕ) → length h ≤ t → head_at h t ≡ None
no_head h t le = ap made (past_end h t le)

-- the head of an entry that is there, or past the end
pub head_there : (h : List Entry) (t : ℕ) (entry : Entry) → slice_get (reverse h) t ≡ Some entry → made entry.call ≡ head_at h t
head_there h t entry is =
    let lt : t < length h = omega (arith, slice_get_within (reverse h) t entry is, length-reverse h) in
    ap (λ (e : Entry). made e.call) (sym (get_or_from_slice_get (reverse h) t entry entry is)) ∙ ap made (call_at h t entry lt)

pub head_past : (h : List Entry) (t : ℕ) → slice_get (reverse h) t ≡ None → None ≡ head_at h t
head_past h t is = go (nat_lt t (length h)) refl
  where
    go : (b : Bool) → nat_lt t (length h) ≡ b → None ≡ head_at h t
    go true lt =
        let here : t < length h = grind (arith, nat_tests) in
        let some = slice_get-get_or (reverse h) t nobody (omega (arith, here, length-reverse h)) in cc
    go false lt = let le : length h ≤ t = grind (arith, nat_tests) in sym (no_head h t le)

-- where nothing is wanted, nothing stands
none_stands : {X : Type 0} (wanted : ℕ → Option X) (pairs : List (ℕ × X)) (t : ℕ) → wanted t ≡ None → Agree wanted pairs t → occurrences t pairs ≡ 0
none_stands wanted [] t none agree = refl
none_stands {X = X} wanted (pair ∷ pairs) t none agree =
    sum_by-cons (λ (p : ℕ × X). cond (p.0 == t) 1 0) pair pairs
    ∙ go (pair.0 == t) refl (none_stands wanted pairs t none (All-tail (λ (p : ℕ × X). p.0 ≡ t → wanted t ≡ Some p.1) pair pairs agree))
  where
    here : pair.0 ≡ t → wanted t ≡ Some pair.1
    here = All-head (λ (p : ℕ × X). p.0 ≡ t → wanted t ≡ Some p.1) pair pairs agree

    go : (b : Bool) → (pair.0 == t) ≡ b → occurrences t pairs ≡ 0 → cond b 1 0 + occurrences t pairs ≡ 0
    go true e rest = let w = here (same_true pair.0 t e) in cc
    go false e rest = omega (arith, rest)

-- so it is over tallies
none_stand : (wanted : ℕ → Option Head) (tallies : List Tallied) (t : ℕ) → wanted t ≡ None
    → All (λ tally. Agree wanted tally.held.kept.calls t) tallies → calls_of t tallies ≡ 0
none_stand wanted [] t none agree = refl
none_stand wanted (tally ∷ tallies) t none agree =
    sum_by-cons (λ (x : Tallied). occurrences t x.held.kept.calls) tally tallies
    ∙ omega
    (arith, none_stands wanted tally.held.kept.calls t none (All-head (λ (x : Tallied). Agree wanted x.held.kept.calls t) tally tallies agree), none_stand wanted tallies t none (All-tail (λ (x : Tallied). Agree wanted x.held.kept.calls t) tally tallies agree))

-- what four searches look for
abbrev HeadsAt : List Entry → List Tallied → ℕ → Type 0
HeadsAt h tallies t = All (λ tally. Agree (head_at h) tally.held.kept.calls t) tallies

abbrev OnceAt : List Entry → List Tallied → ℕ → Type 0
OnceAt h tallies t = t < length h → calls_of t tallies ≤ 1

abbrev RisesAt : List Tallied → ℕ → Type 0
RisesAt tallies t = All (λ tally. tally.held.joined ≡ false → Rises tally.held.kept.calls t) tallies

abbrev KeptAt : Bool → List Entry → (ℕ → ℕ) → ℕ → Type 0
KeptAt all h m t = all ≡ true → t < length h → is_some (head_at h t) ≡ true → 1 ≤ m t

within : (h : List Entry) (t : ℕ) → is_some (head_at h t) ≡ true → t < length h
within h t e = go (nat_lt t (length h)) refl
  where
    go : (b : Bool) → nat_lt t (length h) ≡ b → t < length h
    go true lt = grind (arith, nat_tests)
    go false lt = let le : length h ≤ t = grind (arith, nat_tests) in let none = ap (λ (o : Option Head). is_some o) (no_head h t le) in cc

once_anywhere : (h : List Entry) (tallies : List Tallied) (t : ℕ) → HeadsAt h tallies t → OnceAt h tallies t → calls_of t tallies ≤ 1
once_anywhere h tallies t heads once = go (nat_lt t (length h)) refl
  where
    go : (b : Bool) → nat_lt t (length h) ≡ b → calls_of t tallies ≤ 1
    go true lt = once (grind (arith, nat_tests))
    go false lt = let le : length h ≤ t = grind (arith, nat_tests) in omega (arith, none_stand (head_at h) tallies t (no_head h t le) heads)

there : (all : Bool) (h : List Entry) (tallies : List Tallied) (m : ℕ → ℕ) (t : ℕ) → (t < length h → m t ≡ min 1 (calls_of t tallies))
    → (HeadsAt h tallies t × OnceAt h tallies t) × (RisesAt tallies t × KeptAt all h m t) → CallsAgree all h tallies t
there all h tallies m t marks w = record {
  heads = w.0.0;
  once = once_anywhere h tallies t w.0.0 w.0.1;
  rising = w.1.0;
  kept = λ a e. let lt = within h t e in let k = w.1.1 a lt e in let mark = marks lt in omega arith;
}

back : (all : Bool) (h : List Entry) (tallies : List Tallied) (m : ℕ → ℕ) (t : ℕ) → (t < length h → m t ≡ min 1 (calls_of t tallies))
    → CallsAgree all h tallies t → (HeadsAt h tallies t × OnceAt h tallies t) × (RisesAt tallies t × KeptAt all h m t)
back all h tallies m t marks agree =
    ((agree.heads, (λ lt. agree.once)), (agree.rising, (λ a lt e. let k = agree.kept a e in let mark = marks lt in omega arith)))

-- Four searches together look for a ticket at which the calls don't agree.
pub calls_agree : (all : Bool) (h : List Entry) (tallies : List Tallied) (m : ℕ → ℕ) (a b c d : Option ℕ)
    → ((t : ℕ) → t < length h → m t ≡ min 1 (calls_of t tallies))
    → FirstFailure (HeadsAt h tallies) a → FirstFailure (OnceAt h tallies) b → FirstFailure (RisesAt tallies) c → FirstFailure (KeptAt all h m) d
    → FirstFailure (CallsAgree all h tallies) (lesser (lesser a b) (lesser c d))
calls_agree all h tallies m a b c d marks heads once rising kept =
    same (λ t. (HeadsAt h tallies t × OnceAt h tallies t) × (RisesAt tallies t × KeptAt all h m t))
    (CallsAgree all h tallies) (lesser (lesser a b) (lesser c d))
    (λ t. there all h tallies m t (marks t)) (λ t. back all h tallies m t (marks t))
    (both (λ t. HeadsAt h tallies t × OnceAt h tallies t) (λ t. RisesAt tallies t × KeptAt all h m t) (lesser a b) (lesser c d)
    (both (HeadsAt h tallies) (OnceAt h tallies) a b heads once) (both (RisesAt tallies) (KeptAt all h m) c d rising kept))

-- An answer is one to a ticket of the history, so its mark tells of its receipt.
pub has_receipt : (config : Config) (h : List Entry) (tallies : List Tallied) (m : ℕ → ℕ) (f : Option ℕ)
    → IsLegal config h → ((t : ℕ) → t < length h → m t ≡ min 1 (receipts_of t tallies))
    → FirstFailure (λ t. t < length h → is_some (answer_of h t) ≡ true → 1 ≤ m t) f → FirstFailure (HasReceipt h tallies) f
has_receipt config h tallies m f legal marks found =
    same (λ t. t < length h → is_some (answer_of h t) ≡ true → 1 ≤ m t) (HasReceipt h tallies) f
    (λ t w e. let lt = known t e in let k = w lt e in let mark = marks t lt in omega arith)
    (λ t w lt e. let k = w e in let mark = marks t lt in omega arith)
    found
  where
    known : (t : ℕ) → is_some (answer_of h t) ≡ true → t < length h
    known t e = go (nat_lt t (length h)) refl
      where
        go : (b : Bool) → nat_lt t (length h) ≡ b → t < length h
        go true lt = grind (arith, nat_tests)
        go false lt = let le : length h ≤ t = grind (arith, nat_tests) in let none = ap (λ (o : Option Answer). is_some o) (fresh config h t legal le) in cc

-- Where nothing is kept, and nothing need be, all that is kept is right.
use Rattle.std.proofs.Common.{◌≡◌, ℕ, ◌≤◌, ◌==◌, true, false, List, [], ◌∷◌, length, sym, subst, arith, true≢false}
use Rattle.std.proofs.lemmas.Bool.Decides.{nat_tests}
use Rattle.std.proofs.lemmas.List.{nil_from_length}
use Rattle.std.proofs.lemmas.List.Elements.{All-nil, All-cons}
use Rattle.std.proofs.lemmas.List.Sums.{sum_by-cons}
use Rattle.std.specs.List.{All, list_all}
use Rattle.call_model.proofs.Basics.{and_left, and_right}
use Rattle.call_types.specs.declared.call.Entry.{Entry}
use Rattle.usage_ledger.specs.Keeping.{Kept, nothing}
use Rattle.usage_ledger.specs.Tallies.{Tallied}
use Rattle.call_model.specs.History.{answer_of}
use Rattle.account_lock.specs.Gathered.{keeps_nothing, calls_of, occurrences}
use Rattle.account_lock.specs.Settlement.{Agree, Rises, head_at, IsKept}

none_of : {X : Type 0} (xs : List X) → (length xs == 0) ≡ true → xs ≡ []
none_of xs e = nil_from_length xs (grind (arith, nat_tests))

-- a tally that keeps nothing
keeps_none : (tally : Tallied) → keeps_nothing tally ≡ true → nothing ≡ tally.held.kept
keeps_none tally e =
    let receipts = none_of tally.held.kept.receipts (and_left _ _ e) in
    let calls = none_of tally.held.kept.calls (and_right (length tally.held.kept.receipts == 0) _ e) in
    λ i. record { receipts = sym receipts i; calls = sym calls i }

-- what holds of nothing holds of what each of them keeps
each_keeps : (P : Kept → Type 0) → P nothing → (tallies : List Tallied) → list_all keeps_nothing tallies ≡ true → All (λ tally. P tally.held.kept) tallies
each_keeps P p [] e = All-nil (λ tally. P tally.held.kept)
each_keeps P p (tally ∷ tallies) e =
    All-cons (λ tally. P tally.held.kept) tally tallies
    (subst P (keeps_none tally (and_left _ (list_all keeps_nothing tallies) e)) p)
    (each_keeps P p tallies (and_right (keeps_nothing tally) _ e))

-- no ticket has a call that they keep
no_calls : (t : ℕ) (tallies : List Tallied) → list_all keeps_nothing tallies ≡ true → calls_of t tallies ≤ 0
no_calls t [] e = omega arith
no_calls t (tally ∷ tallies) e =
    let here : occurrences t tally.held.kept.calls ≤ 0 = subst (λ (kept : Kept). occurrences t kept.calls ≤ 0) (keeps_none tally (and_left _ (list_all keeps_nothing tallies) e)) (omega arith) in
    let rest = no_calls t tallies (and_right (keeps_nothing tally) _ e) in
    omega (arith, here, rest, sum_by-cons (λ (x : Tallied). occurrences t x.held.kept.calls) tally tallies)

pub nothing_is_right : (h : List Entry) (tallies : List Tallied) → list_all keeps_nothing tallies ≡ true → IsKept false h tallies
nothing_is_right h tallies e = record {
  receipts = λ t. each_keeps (λ kept. Agree (answer_of h) kept.receipts t) (All-nil _) tallies e;
  answered = λ all. absurd (true≢false (sym all));
  calls = λ t. record {
    heads = each_keeps (λ kept. Agree (head_at h) kept.calls t) (All-nil _) tallies e;
    once = omega (arith, no_calls t tallies e);
    rising = each_rises t tallies e;
    kept = λ all. absurd (true≢false (sym all));
  };
}
  where
    each_rises : (t : ℕ) (ts : List Tallied) → list_all keeps_nothing ts ≡ true → All (λ tally. tally.held.joined ≡ false → Rises tally.held.kept.calls t) ts
    each_rises t [] _ = All-nil (λ tally. tally.held.joined ≡ false → Rises tally.held.kept.calls t)
    each_rises t (tally ∷ ts) k =
        All-cons (λ tally. tally.held.joined ≡ false → Rises tally.held.kept.calls t) tally ts
        (λ _. subst (λ (kept : Kept). Rises kept.calls t) (keeps_none tally (and_left _ (list_all keeps_nothing ts) k)) tt)
        (each_rises t ts (and_right (keeps_nothing tally) _ k))

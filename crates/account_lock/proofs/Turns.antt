-- Answers and bells, one entry more at a time.
use Rattle.std.proofs.Common.{◌≡◌, ℕ, ◌+◌, ◌<◌, List, [], ◌∷◌, ◌++◌, drop, length, refl, sym, ap, ◌∙◌, subst, append_assoc, get_or}
use Rattle.std.proofs.lemmas.List.{at_drop_more}
use Rattle.std.proofs.lemmas.List.Concat.{flat_map-cons}
use Rattle.call_types.specs.declared.answer.Answer.{Answer}
use Rattle.call_types.specs.declared.call.Entry.{Entry}
use Rattle.usage_ledger.specs.Keeping.{Kept, Steps}
use Rattle.account_lock.specs.Bells.{of_ticket, other_bells, rings_of, bells_after, answers_of}

-- the answers from an entry on
pub turn : (entries : List Entry) (i : ℕ) (entry : Entry) → i < length entries → entry ≡ get_or entries i entry
    → answers_of (drop i entries) ≡ entry.answers ++ answers_of (drop (i + 1) entries)
turn entries i entry lt is =
    at_drop_more answers_of entries i entry lt
    ∙ ap (λ x. answers_of (x ∷ drop (i + 1) entries)) (sym is)
    ∙ flat_map-cons (λ (x : Entry). x.answers) entry (drop (i + 1) entries)

pub rings_of-append : {B : Type 0} (xs ys : List (ℕ × Answer)) (bells : List (ℕ × B))
    → rings_of (xs ++ ys) bells ≡ rings_of xs bells ++ rings_of ys (bells_after xs bells)
rings_of-append [] ys bells = refl
rings_of-append (x ∷ xs) ys bells =
    ap (λ r. of_ticket x.0 bells ++ r) (rings_of-append xs ys (other_bells x.0 bells)) ∙ sym (append_assoc (of_ticket x.0 bells) _ _)

pub bells_after-append : {B : Type 0} (xs ys : List (ℕ × Answer)) (bells : List (ℕ × B)) → bells_after (xs ++ ys) bells ≡ bells_after ys (bells_after xs bells)
bells_after-append [] ys bells = refl
bells_after-append (x ∷ xs) ys bells = bells_after-append xs ys (other_bells x.0 bells)

pub Steps-append : {X : Type 0} (step : Kept → ℕ → X → Kept → Type 0) (xs ys : List (ℕ × X)) (a m b : Kept)
    → Steps step a xs m → Steps step m ys b → Steps step a (xs ++ ys) b
Steps-append step [] ys a m b s t = subst (λ (k : Kept). Steps step k ys b) s t
Steps-append step (x ∷ xs) ys a m b s t = (s.0, s.1, Steps-append step xs ys s.0 m b s.2 t)
